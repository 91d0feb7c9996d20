use Rattle.std.proofs.Common.{map, drop}
use Rattle.values.specs.Data.{no_items}
use Rattle.values.specs.View.{data_of, items_of}
use Rattle.world.specs.Answering.{Leads}
use Rattle.world.specs.Caller.{state_of}
use Rattle.methods.specs.CompilerMethods.{supported_arguments}
use Rattle.methods.proofs.compiler.dispatch.keep_supported.Given as goal

-- what was done, and what is left
abbrev pub invariant-loop-value : goal.invariant-loop-value
invariant-loop-value g l =
    Leads (supported_arguments no_items (map (λ v. data_of v.now) l.values)) (state_of g.T.Tree.seen g.O.Outputs.seen l.fn.caller)
    (supported_arguments (items_of l.taken.items) (map (λ v. data_of v.now) (drop l.value-index l.values))) (state_of g.T.Tree.seen g.O.Outputs.seen l.caller)
