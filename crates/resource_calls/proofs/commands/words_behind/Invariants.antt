use Rattle.std.proofs.Common.{◌≡◌, map, drop}
use Rattle.values.specs.View.{data_of}
use Rattle.build.specs.edge.Texts.{texts}
use Rattle.arguments.specs.Each.{all_behind}
use Rattle.world.specs.HereView.{here_view}
use Rattle.resource_calls.specs.TestCommands.{argument_words}
use Rattle.resource_calls.proofs.commands.words_behind.Given as goal

-- the words so far and the values that are left decide
abbrev pub invariant-loop-value : goal.invariant-loop-value
invariant-loop-value l =
    all_behind (argument_words (here_view l.here)) (texts l.all.items) (map (λ v. data_of v.now) (drop l.value-index l.values))
    ≡ all_behind (argument_words (here_view l.here)) (texts l.fn.words.items) (map (λ v. data_of v.now) l.values)
