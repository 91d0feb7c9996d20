-- Defines how far the parts of nodes reach: a number above those of all parts. Evaluation descends by it.
use Rattle.std.specs.Prelude.{ℕ, suc, max, Bool, true, false, List, [], ◌∷◌, slice_index_or}
use Rattle.code.specs.declared.code.Code.{Code}
use Rattle.code.specs.declared.node.Node.{Node}
use Rattle.code.specs.declared.node.Node.TheVariants as nodes
use Rattle.code.specs.declared.node.EntryNode.{EntryNode}
use Rattle.code.specs.declared.node.ArgumentNode.{ArgumentNode}
use Rattle.code.specs.declared.node.OperandNode.{OperandNode}
use Rattle.code.specs.declared.node.LinkNode.{LinkNode}
use Rattle.code.specs.declared.node.LinkNode.TheVariants.{Method, Index}

-- Returns a number that is no less than any that f gives for the items.
abbrev pub above : {X : Type 0} → (X → ℕ) → List X → ℕ
above f [] = 0
above f (x ∷ xs) = max (f x) (above f xs)

-- Returns the least number above a node's number.
abbrev pub above_number : ℕ → ℕ
above_number i = suc i

-- Returns the least number above those of the key and the value of a dictionary's entry.
abbrev pub above_entry : EntryNode → ℕ
above_entry e = max (suc e.key) (suc e.value)

-- Returns the least number above that of an argument's value.
abbrev pub above_argument : ArgumentNode → ℕ
above_argument a = suc a.value

-- Returns the least number above that of the value of an operand.
abbrev pub above_operand : OperandNode → ℕ
above_operand o = suc o.value

-- Returns the least number above those of a method's arguments, or above that of an index. Without arguments it is 0.
abbrev pub above_link : LinkNode → ℕ
above_link (Method name items) = above above_argument items.items
above_link (Index i) = suc i

-- ---- nodes with parts

-- Returns whether a node has parts.
abbrev pub has_parts : Node → Bool
has_parts (nodes.Name number line) = false
has_parts (nodes.Literal line literal) = false
has_parts (nodes.List items line) = true
has_parts (nodes.Dictionary entries line) = true
has_parts (nodes.Call call line) = true
has_parts (nodes.Postfix first links line) = true
has_parts (nodes.Prefix prefix value line) = true
has_parts (nodes.Chain first others line) = true
has_parts (nodes.Ternary test one other line) = true

-- Returns whether the node with this number has parts; there always is one.
abbrev pub has_parts_at : Code → ℕ → Bool
has_parts_at c i = has_parts (slice_index_or c.nodes.items i (nodes.Name 0 0))

-- Returns whether the node has parts, but is neither a chain nor a value with methods or indexes.
abbrev pub is_rare : Node → Bool
is_rare (nodes.Name number line) = false
is_rare (nodes.Literal line literal) = false
is_rare (nodes.List items line) = true
is_rare (nodes.Dictionary entries line) = true
is_rare (nodes.Call call line) = true
is_rare (nodes.Postfix first links line) = false
is_rare (nodes.Prefix prefix value line) = true
is_rare (nodes.Chain first others line) = false
is_rare (nodes.Ternary test one other line) = true

-- Returns whether `is_rare` is true of the node with this number; there always is one.
abbrev pub is_rare_at : Code → ℕ → Bool
is_rare_at c i = is_rare (slice_index_or c.nodes.items i (nodes.Name 0 0))
