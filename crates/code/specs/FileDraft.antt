-- Defines the code of a file in the making, which only grows.
use Rattle.std.specs.Prelude.{◌≡◌, ℕ, IsTrue, nat_lt, List, length, map}
use Rattle.std.specs.List.{list_all}
use Rattle.syntax.specs.Tree.{StatementTree, BranchTree}
use Rattle.code.specs.declared.file_draft.FileDraft.{FileDraft}
use Rattle.code.specs.declared.node.BranchNode.{BranchNode}
use Rattle.code.specs.Draft.{IsFront, Grows, trees_in}
use Rattle.code.specs.Nodes.{are_below}
use Rattle.code.specs.Statements.{statement_at, statement_trees, branch_at, branch_within}

-- Returns the trees of a draft's statements.
abbrev pub statements_in : FileDraft → List StatementTree
statements_in d = statement_trees d.draft.names (trees_in d.draft) d.statements.items

-- Holds if all names, expressions and statements are kept, and new ones are only appended.
pub record Extends (old new : FileDraft) : Type 0 where
  pub draft : Grows old.draft new.draft
  pub statements : IsFront (statements_in old) (statements_in new)

-- Holds if there is a statement with this number, and it has this tree.
pub record IsStatement (d : FileDraft) (i : ℕ) (s : StatementTree) : Type 0 where
  pub within : IsTrue (nat_lt i (length (statements_in d)))
  pub is : statement_at (statements_in d) i ≡ s

-- Holds if these statements exist, and are the wanted ones.
pub record AreStatements (d : FileDraft) (numbers : List ℕ) (wanted : List StatementTree) : Type 0 where
  pub within : IsTrue (are_below (length (statements_in d)) numbers)
  pub are : map (statement_at (statements_in d)) numbers ≡ wanted

-- Holds if the conditions and statements of these branches of an `if` exist, and the branches are the wanted ones.
pub record AreBranches (d : FileDraft) (parts : List BranchNode) (wanted : List BranchTree) : Type 0 where
  pub within : IsTrue (list_all (branch_within (length (trees_in d.draft)) (length (statements_in d))) parts)
  pub are : map (branch_at (trees_in d.draft) (statements_in d)) parts ≡ wanted
