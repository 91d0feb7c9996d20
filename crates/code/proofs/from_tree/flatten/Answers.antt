use Rattle.std.proofs.Common.{nat_lt, length, sym, subst}
use Rattle.std.specs.Prelude.{IsTrue}
use Rattle.std.specs.List.{list_all}
use Rattle.code.specs.Nodes.{all_within}
use Rattle.code.specs.Draft.{trees_in}
use Rattle.code.specs.Statements.{all_placed}
use Rattle.code.proofs.StatementTrees.{length-statements}
use Rattle.code.proofs.from_tree.flatten.Goals as goal

pub invariant_of-result : goal.invariant_of-result
invariant_of-result c =
    let d = c.body-body.new.self in
    let nodes = d.draft.nodes.items in
    let count = sym c.len-count.ensures.len in
    record {
      ordered = subst (λ k. IsTrue (all_within k 0 nodes)) count d.draft.ordered;
      placed = subst (λ k. IsTrue (all_placed k (length nodes) 0 d.statements.items)) count d.placed;
      whole = subst (λ m. IsTrue (list_all (λ i. nat_lt i m) c.in_ok-body.field-0.items))
          (length-statements d.draft.names (trees_in d.draft) d.statements.items) c.in_ok-body.ensures.are.within;
    }
