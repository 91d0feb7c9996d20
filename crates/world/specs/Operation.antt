-- Translates refusals of operations on values into refusals of a run.
use Rattle.values.specs.declared.refusal.OperationRefusal.{OperationRefusal as OperationRefusal}
use Rattle.values.specs.declared.refusal.OperationRefusal.TheVariants as operation
use Rattle.support.specs.declared.faults.refusal.Refusal.{Refusal}
use Rattle.support.specs.declared.faults.refusal.Refusal.TheVariants as refusals

-- Returns the refusal of a run for that of an operation on values.
abbrev pub of_operation : OperationRefusal → Refusal
of_operation operation.Type = refusals.Type
of_operation operation.Range = refusals.Range
of_operation operation.UnknownMethod = refusals.UnknownFunction
of_operation operation.Arguments = refusals.Arguments
of_operation operation.Absent = refusals.Absent
of_operation operation.Duplicate = refusals.Duplicate
of_operation operation.Limit = refusals.Limit
