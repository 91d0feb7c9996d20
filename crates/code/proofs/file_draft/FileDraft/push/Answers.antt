use Rattle.std.proofs.Common.{◌≡◌, length, is_ok, arith}
use Rattle.code.specs.Draft.{trees_in}
use Rattle.code.proofs.StatementTrees.{placed_put, last_within, last_is}
use Rattle.code.proofs.file_draft.FileDraft.push.Goals as goal

pub invariant_of-self : goal.invariant_of-self
invariant_of-self c =
    let d = c.args.self.now in
    record {
      placed = placed_put (is_ok c.push.result) d.draft d.statements.items c.push.new.self.items c.args.statement
          c.push.ensures.items d.placed c.requires;
    }

pub returns-clause-is : goal.returns-clause-is
returns-clause-is c =
    let d = c.args.self.now in
    let at : c.len-number.result ≡ length d.statements.items = omega (arith, c.len-number.ensures, d.statements.ok.0) in
    record {
      within = last_within d.draft.names (trees_in d.draft) d.statements.items c.push.new.self.items c.args.statement
          c.len-number.result c.in_ok-push.ensures.items at;
      is = last_is d.draft.names (trees_in d.draft) d.statements.items c.push.new.self.items c.args.statement c.len-number.result
          c.in_ok-push.ensures.items at;
    }
