use Rattle.code.proofs.NameLists.{begins_put, name_put}
use Rattle.code.proofs.Parts.{begins_same}
use Rattle.code.proofs.Trees.{ordered_wider, trees_kept}
use Rattle.code.specs.Nodes.{trees}
use Rattle.code.proofs.draft.Draft.name.Goals as goal

pub invariant_of-self : goal.invariant_of-self
invariant_of-self c =
    let d = c.args.self.now in
    record {
      ordered = ordered_wider d.names c.put.new.self d.nodes.items (begins_put c.args.name.now d.names c.put.new.self
          c.put.result c.put.ensures.names c.put.ensures.err) d.ordered;
    }

pub returns-clause-grows : goal.returns-clause-grows
returns-clause-grows c =
    let d = c.args.self.now in
    let b = begins_put c.args.name.now d.names c.put.new.self c.put.result c.put.ensures.names c.put.ensures.err in
    record {
      names = b;
      trees = begins_same (trees d.names d.nodes.items) (trees c.put.new.self d.nodes.items)
          (trees_kept d.names c.put.new.self d.nodes.items b d.ordered);
    }

pub returns-clause-trees : goal.returns-clause-trees
returns-clause-trees c =
    let d = c.args.self.now in
    trees_kept d.names c.put.new.self d.nodes.items (begins_put c.args.name.now d.names c.put.new.self c.put.result c.put.ensures.names
    c.put.ensures.err) d.ordered

pub returns-clause-is : goal.returns-clause-is
returns-clause-is c = name_put c.args.name.now c.put.new.self c.put.result c.put.ensures.number
