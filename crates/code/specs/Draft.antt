-- Defines code in the making, which only grows.
use Rattle.std.specs.Prelude.{◌≡◌, ℕ, Bool, IsTrue, nat_lt, List, ◌++◌, length, map}
use Rattle.std.specs.List.{list_all}
use Rattle.syntax.specs.ExpressionTree.{ExpressionTree}
use Rattle.code.specs.declared.draft.Draft.{Draft}
use Rattle.code.specs.Nodes.{tree_at, trees}

-- Holds if the second list begins with the first.
pub record IsFront {A : Type 0} (old new : List A) : Type 0 where
  pub more : List A
  pub is : new ≡ old ++ more

-- Returns the trees of a draft's nodes.
abbrev pub trees_in : Draft → List ExpressionTree
trees_in d = trees d.names d.nodes.items

-- Holds if all names and trees are kept, and new ones are only appended.
pub record Grows (old new : Draft) : Type 0 where
  pub names : IsFront old.names new.names
  pub trees : IsFront (trees_in old) (trees_in new)

-- Holds if there is a node with this number, and it has this tree.
pub record Stands (ts : List ExpressionTree) (i : ℕ) (t : ExpressionTree) : Type 0 where
  pub within : IsTrue (nat_lt i (length ts))
  pub is : tree_at ts i ≡ t

-- Holds if all nodes of these parts exist, and the parts are the wanted ones.
pub record Parts {N T : Type 0} (test : ℕ → N → Bool) (at : List ExpressionTree → N
    → T) (ts : List ExpressionTree) (parts : List N) (wanted : List T) : Type 0 where
  pub within : IsTrue (list_all (test (length ts)) parts)
  pub are : map (at ts) parts ≡ wanted
