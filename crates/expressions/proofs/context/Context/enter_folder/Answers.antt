use Rattle.std.proofs.Common.{◌≡◌, string_bytes, ap, ◌∙◌}
use Rattle.ports.specs.Tree.{file_at}
use Rattle.world.specs.Costs.{definition_file}
use Rattle.world.specs.Store.{world_after_change, world_of}
use Rattle.world.specs.World.{with_place}
use Rattle.world.specs.declared.stop.Stop.TheVariants as stops
use Rattle.expressions.proofs.Evaluating.{given_change, given_none, given_then}
use Rattle.expressions.proofs.Opening.{given_enter, given_short}
use Rattle.expressions.proofs.context.Context.enter_folder.Goals as goal

pub returns-in_err-enter-clause-gives : goal.returns-in_err-enter-clause-gives
returns-in_err-enter-clause-gives g c = λ files bytes h at size. given_short stops.Memory h tt c.from_residual.ensures.1 c.in_err-enter.ensures.names

pub returns-in_err-folder-clause-gives : goal.returns-in_err-folder-clause-gives
returns-in_err-folder-clause-gives g c = λ files bytes h at size.
    given_enter c.in_ok-enter.ensures.world c.in_ok-enter.ensures.names (given_none h c.from_residual-in_err-folder.ensures.1)

pub returns-clause-gives : goal.returns-clause-gives
returns-clause-gives g c = λ files bytes h at size.
    let folder = c.args.folder.now in
    let moved : world_of c.go.new.self ≡ world_after_change (with_place (definition_file folder) folder 1) (world_of c.enter.new.self) =
    c.go.ensures.moved ∙ ap (λ file. world_after_change (with_place file (string_bytes c.in_ok-folder.folder) 1) (world_of c.enter.new.self)) c.requires.file
    ∙ ap (λ name. world_after_change (with_place (definition_file folder) name 1) (world_of c.enter.new.self)) c.in_ok-folder.ensures.ok in
    let file : c.go.new.self.file ≡ definition_file folder = ap (λ w. w.facts.file) moved in
    given_enter c.in_ok-enter.ensures.world c.in_ok-enter.ensures.names
    (given_then (given_change h moved c.go.ensures.names) (c.read.ensures.gives files bytes h (ap (file_at files) file ∙ at) size))
