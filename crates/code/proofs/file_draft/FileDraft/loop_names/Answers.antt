use Rattle.code.proofs.Parts.{begins_same}
use Rattle.code.proofs.StatementTrees.{placed_wider, statements_kept}
use Rattle.code.specs.Draft.{trees_in}
use Rattle.code.specs.Statements.{statement_trees}
use Rattle.code.proofs.file_draft.FileDraft.loop_names.Goals as goal

pub invariant_of-self : goal.invariant_of-self
invariant_of-self c =
    let d = c.args.self.now in
    record { placed = placed_wider d.draft c.loop_names.new.self d.statements.items c.loop_names.ensures.grows d.placed }

pub returns-clause-extends : goal.returns-clause-extends
returns-clause-extends c =
    let d = c.args.self.now in
    let new = c.loop_names.new.self in
    record {
      draft = c.loop_names.ensures.grows;
      statements = begins_same (statement_trees d.draft.names (trees_in d.draft) d.statements.items)
          (statement_trees new.names (trees_in new) d.statements.items)
          (statements_kept d.draft new d.statements.items c.loop_names.ensures.grows d.placed);
    }
