use Rattle.std.proofs.Common.{is_ok, arith}
use Rattle.code.proofs.Trees.{length-trees, ordered_put, stands_last}
use Rattle.code.proofs.draft.Draft.push.Goals as goal

pub invariant_of-self : goal.invariant_of-self
invariant_of-self c =
    let d = c.args.self.now in
    record {
      ordered = ordered_put (is_ok c.push.result) d.names d.nodes.items c.push.new.self.items c.args.node c.push.ensures.items
          d.ordered c.requires;
    }

pub returns-clause-stands : goal.returns-clause-stands
returns-clause-stands c =
    let d = c.args.self.now in
    stands_last d.names d.nodes.items c.push.new.self.items c.args.node c.len-number.result c.in_ok-push.ensures.items
    (omega (arith, c.len-number.ensures, length-trees d.names d.nodes.items, d.nodes.ok.0))
