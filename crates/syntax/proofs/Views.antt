-- The trees of what the code makes.
use Rattle.std.proofs.Common.{◌≡◌, ℕ, List, map, [], ◌∷◌, ◌++◌, refl, ap, sym, ◌∙◌, Bor, Box, Vec, Option, Some, None}
use Rattle.std.proofs.lemmas.List.{map_push}
use Rattle.std.specs.Option.{is_some, option_map}
use Rattle.syntax.specs.declared.tree.Expression.{Expression}
use Rattle.syntax.specs.declared.tree.Expression.TheViews as Views
use Rattle.syntax.specs.declared.tree.Expression.TheVariants as Variants
use Rattle.syntax.specs.declared.tree.Expression.TheOpen as Open
use Rattle.syntax.specs.declared.tree.Expression.TheFolds.{fold-roll-Argument, fold-roll-Entry, fold-roll-Expression, fold-roll-Link}
use Rattle.syntax.specs.declared.tree.Expression.TheFolds.{fold-roll-Operand}
use Rattle.syntax.specs.declared.tree.Argument.{Argument}
use Rattle.syntax.specs.declared.tree.Operand.{Operand}
use Rattle.std.specs.Global.{Global}
use Rattle.syntax.specs.declared.tree.Entry.{Entry}
use Rattle.syntax.specs.declared.tree.Link.{Link}
use Rattle.syntax.specs.declared.tree.Link.TheVariants as Links
use Rattle.syntax.specs.declared.tree.Prefix.{Prefix}
use Rattle.syntax.specs.declared.tree.Operator.{Operator}
use Rattle.syntax.specs.ExpressionTree.{ArgumentTree, ChainTree, DictionaryTree, ListTree, entries, entry_of, expressions, EntryTree}
use Rattle.syntax.specs.ExpressionTree.{ExpressionTree, FunctionTree, IndexTree, LinkTree, MethodTree, OperandTree}
use Rattle.syntax.specs.ExpressionTree.{PostfixTree, PrefixTree, TernaryTree, arguments, argument_of, argument_step, entry_step}
use Rattle.syntax.specs.ExpressionTree.{expression_of, expression_step, link_of, link_step, links, operand_of, operand_step, operands}

pub operand_of-made : (o : Operator) (e : Expression) → operand_of (Views.roll-Operand record { operator = o; value = e }) ≡ (o, expression_of e)
operand_of-made o e = fold-roll-Operand ExpressionTree LinkTree ArgumentTree EntryTree OperandTree expression_step link_step argument_step entry_step operand_step record { operator = o; value = e }

pub operands_pushed : (os : List Operand) (o : Operator) (e : Expression) → map operand_of (os ++ Views.roll-Operand record { operator = o; value = e } ∷ []) ≡ map operand_of os ++ (o, expression_of e) ∷ []
operands_pushed os o e = map_push operand_of os _ ∙ ap (λ (t : OperandTree). map operand_of os ++ t ∷ []) (operand_of-made o e)

entry_of-made : (k v : Expression) → entry_of (Views.roll-Entry record { key = k; value = v }) ≡ (expression_of k, expression_of v)
entry_of-made k v = fold-roll-Entry ExpressionTree LinkTree ArgumentTree EntryTree OperandTree expression_step link_step argument_step entry_step operand_step record { key = k; value = v }

pub entries_pushed : (es : List Entry) (k v : Expression) (key : ExpressionTree) → key ≡ expression_of k → map entry_of (es ++ Views.roll-Entry record { key = k; value = v } ∷ []) ≡ map entry_of es ++ (key, expression_of v) ∷ []
entries_pushed es k v key same = rw same (map_push entry_of es _ ∙ ap (λ (t : EntryTree). map entry_of es ++ t ∷ []) (entry_of-made k v))

pub some_kept : (o : Option (Bor (List ℕ))) → is_some (option_map (λ k. k.now) o) ≡ is_some o
some_kept None = refl
some_kept (Some k) = refl

argument_of-made : (o : Option (Bor (List ℕ))) (e : Expression) → argument_of (Views.roll-Argument record { name = o; value = e }) ≡ (option_map (λ k. k.now) o, expression_of e)
argument_of-made o e = fold-roll-Argument ExpressionTree LinkTree ArgumentTree EntryTree OperandTree expression_step link_step argument_step entry_step operand_step record { name = o; value = e }

pub arguments_pushed : (xs : List Argument) (o : Option (Bor (List ℕ))) (e : Expression) → map argument_of (xs ++ Views.roll-Argument record { name = o; value = e } ∷ []) ≡ map argument_of xs ++ (option_map (λ k. k.now) o, expression_of e) ∷ []
arguments_pushed xs o e = map_push argument_of xs _ ∙ ap (λ (t : ArgumentTree). map argument_of xs ++ t ∷ []) (argument_of-made o e)

-- ---- nodes whose parts are known by their trees

pub chain_seen : (first : Box Expression Global) (others : Vec Operand Global) (line : ℕ) (e : ExpressionTree) (l : ℕ) → e ≡ expression_of first.value → l ≡ line
    → ChainTree e (operands (map operand_of others.items)) l ≡ expression_of (Variants.Chain first others line)
chain_seen first others line e l same same_line = rw (same, same_line) (sym (ap expression_of (sym (Variants.rolls-Chain first others line))
    ∙ fold-roll-Expression ExpressionTree LinkTree ArgumentTree EntryTree OperandTree expression_step link_step argument_step entry_step operand_step (Open.Chain first others line)))

pub postfix_seen : (first : Box Expression Global) (ls : Vec Link Global) (line : ℕ) (e : ExpressionTree) (l : ℕ) → e ≡ expression_of first.value → l ≡ line
    → PostfixTree e (links (map link_of ls.items)) l ≡ expression_of (Variants.Postfix first ls line)
postfix_seen first ls line e l same same_line = rw (same, same_line) (sym (ap expression_of (sym (Variants.rolls-Postfix first ls line))
    ∙ fold-roll-Expression ExpressionTree LinkTree ArgumentTree EntryTree OperandTree expression_step link_step argument_step entry_step operand_step (Open.Postfix first ls line)))

pub prefix_seen : (p : Prefix) (value : Box Expression Global) (line : ℕ) (e : ExpressionTree) → e ≡ expression_of value.value
    → PrefixTree p e line ≡ expression_of (Variants.Prefix p value line)
prefix_seen p value line e same = rw same (sym (ap expression_of (sym (Variants.rolls-Prefix p value line))
    ∙ fold-roll-Expression ExpressionTree LinkTree ArgumentTree EntryTree OperandTree expression_step link_step argument_step entry_step operand_step (Open.Prefix p value line)))

pub ternary_seen : (test one other : Box Expression Global) (line : ℕ) (e f g : ExpressionTree) (l : ℕ) → e ≡ expression_of test.value → f ≡ expression_of one.value → g ≡ expression_of other.value → l ≡ line
    → TernaryTree e f g l ≡ expression_of (Variants.Ternary test one other line)
ternary_seen test one other line e f g l same same_one same_other same_line = rw (same, same_one, same_other, same_line) (sym (ap expression_of (sym (Variants.rolls-Ternary test one other line))
    ∙ fold-roll-Expression ExpressionTree LinkTree ArgumentTree EntryTree OperandTree expression_step link_step argument_step entry_step operand_step (Open.Ternary test one other line)))

pub call_seen : (name : Bor (List ℕ)) (xs : Vec Argument Global) (line : ℕ) → FunctionTree name.now (arguments (map argument_of xs.items)) line ≡ expression_of (Variants.Call line name xs)
call_seen name xs line = sym (ap expression_of (sym (Variants.rolls-Call line name xs))
    ∙ fold-roll-Expression ExpressionTree LinkTree ArgumentTree EntryTree OperandTree expression_step link_step argument_step entry_step operand_step (Open.Call line name xs))

pub method_seen : (name : Bor (List ℕ)) (xs : Vec Argument Global) → MethodTree name.now (arguments (map argument_of xs.items)) ≡ link_of (Links.Method name xs)
method_seen name xs = sym (ap link_of (sym (Links.rolls-Method name xs))
    ∙ fold-roll-Link ExpressionTree LinkTree ArgumentTree EntryTree OperandTree expression_step link_step argument_step entry_step operand_step (Open.Method name xs))

pub index_seen : (i : Expression) (e : ExpressionTree) → e ≡ expression_of i → IndexTree e ≡ link_of (Links.Index i)
index_seen i e same = rw same (sym (ap link_of (sym (Links.rolls-Index i))
    ∙ fold-roll-Link ExpressionTree LinkTree ArgumentTree EntryTree OperandTree expression_step link_step argument_step entry_step operand_step (Open.Index i)))

pub list_seen : (items : Vec Expression Global) (line : ℕ) (es : List ExpressionTree) → es ≡ map expression_of items.items → ListTree (expressions es) line ≡ expression_of (Variants.List items line)
list_seen items line es same = ap (λ (l : List ExpressionTree). ListTree (expressions l) line) same ∙ sym (ap expression_of (sym (Variants.rolls-List items line))
    ∙ fold-roll-Expression ExpressionTree LinkTree ArgumentTree EntryTree OperandTree expression_step link_step argument_step entry_step operand_step (Open.List items line))

pub dictionary_seen : (xs : Vec Entry Global) (line : ℕ) (es : List EntryTree) → es ≡ map entry_of xs.items → DictionaryTree (entries es) line ≡ expression_of (Variants.Dictionary xs line)
dictionary_seen xs line es same = ap (λ (l : List EntryTree). DictionaryTree (entries l) line) same ∙ sym (ap expression_of (sym (Variants.rolls-Dictionary xs line))
    ∙ fold-roll-Expression ExpressionTree LinkTree ArgumentTree EntryTree OperandTree expression_step link_step argument_step entry_step operand_step (Open.Dictionary xs line))
