-- Defines the plain values of the code's types.
pub use Rattle.options.specs.option_file.Entries.{given_in, option_in, entry_in, shown_in, entries_in}
use Rattle.std.specs.Prelude.{List, Result, Ok, Err, String}
use Rattle.std.specs.declared.alloc.Global.{Global}
use Rattle.support.specs.declared.faults.fault.Fault.{Fault}
use Rattle.support.specs.Faults.{FaultData}
use Rattle.support.specs.View.{fault_view}
use Rattle.options.specs.option_file.Fault.{DeclareFaultData}
use Rattle.options.specs.option_file.FaultView.{fault_in}
use Rattle.options.specs.option_file.MisfitView.{refused_in}
use Rattle.options.specs.option_file.Misfits.{RefusedData}
use Rattle.options.specs.declared.option_file.statement_problem.StatementError.{StatementError}
use Rattle.options.specs.declared.option_file.declaration.Declaration.{Declaration}
use Rattle.options.specs.declared.option_file.declaration.Declared.{Declared}
use Rattle.options.specs.declared.option_file.fault.DeclareFault.{DeclareFault}
use Rattle.options.specs.option_file.Declarations as plain

-- Returns the option that a call declares, or what is wrong with it.
abbrev pub call_in : Result (String Global × Declaration) StatementError → Result plain.Declaration RefusedData
call_in (Ok e) = Ok (entry_in e)
call_in (Err refused) = Err (refused_in refused)

-- Returns the options, in the order of their calls.
abbrev pub options_in : Declared → List plain.Declaration
options_in declared = entries_in declared.options.entries

-- Returns the options after a statement, or what is wrong with it.
abbrev pub after_in : Result Declared StatementError → Result (List plain.Declaration) RefusedData
after_in (Ok declared) = Ok (options_in declared)
after_in (Err refused) = Err (refused_in refused)

-- Returns what is declared, or the fault.
abbrev pub declared_in : Result Declared DeclareFault → Result (List plain.Declaration) DeclareFaultData
declared_in (Ok declared) = Ok (options_in declared)
declared_in (Err fault) = Err (fault_in fault)

-- Returns what is declared, or the fault as a run reports it.
abbrev pub declared_or_fault_in : Result Declared Fault → Result (List plain.Declaration) FaultData
declared_or_fault_in (Ok declared) = Ok (options_in declared)
declared_or_fault_in (Err fault) = Err (fault_view fault)
