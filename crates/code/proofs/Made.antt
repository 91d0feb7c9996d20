-- The trees of the parts of expressions.
use Rattle.std.proofs.Common.{◌≡◌, ℕ, List, map, sym, ap, subst, ◌∙◌, Bor, Box, Vec, Result, IfOk}
use Rattle.std.specs.Global.{Global}
use Rattle.std.specs.Option.{option_map}
use Rattle.std.specs.declared.alloc.AllocError.{AllocError}
use Rattle.code.specs.Draft.{Stands}
use Rattle.syntax.specs.declared.tree.Expression.{Expression}
use Rattle.syntax.specs.declared.tree.Expression.TheVariants as Variants
use Rattle.syntax.specs.declared.tree.Expression.TheOpen as Open
use Rattle.syntax.specs.declared.tree.Expression.TheFolds.{fold_out-Argument, fold_out-Entry, fold_out-Operand, fold-roll-Expression}
use Rattle.syntax.specs.declared.tree.Link.{Link}
use Rattle.syntax.specs.declared.tree.Literal.{Literal}
use Rattle.syntax.specs.declared.tree.Prefix.{Prefix}
use Rattle.syntax.specs.declared.tree.Argument.{Argument}
use Rattle.syntax.specs.declared.tree.Entry.{Entry}
use Rattle.syntax.specs.declared.tree.Operand.{Operand}
use Rattle.syntax.specs.ExpressionTree.{ArgumentTree, EntryTree, ExpressionTree, LinkTree, OperandTree, NameTree, LiteralTree, ListTree}
use Rattle.syntax.specs.ExpressionTree.{DictionaryTree, FunctionTree, PostfixTree, PrefixTree, ChainTree, TernaryTree, argument_trees}
use Rattle.syntax.specs.ExpressionTree.{entries, expressions, links, link_of, operands, argument_of, argument_step, entry_of, entry_step}
use Rattle.syntax.specs.ExpressionTree.{expression_of, expression_step, link_step, operand_of, operand_step}

pub entry_is : (e : Entry) → entry_of e ≡ (expression_of e.key, expression_of e.value)
entry_is e = fold_out-Entry ExpressionTree LinkTree ArgumentTree EntryTree OperandTree expression_step link_step argument_step
    entry_step operand_step e

pub argument_is : (a : Argument) → argument_of a ≡ (option_map (λ k. k.now) a.name, expression_of a.value)
argument_is a = fold_out-Argument ExpressionTree LinkTree ArgumentTree EntryTree OperandTree expression_step link_step argument_step
    entry_step operand_step a

pub operand_is : (o : Operand) → operand_of o ≡ (o.operator, expression_of o.value)
operand_is o = fold_out-Operand ExpressionTree LinkTree ArgumentTree EntryTree OperandTree expression_step link_step argument_step
    entry_step operand_step o

-- ---- what is put, as it is wanted

pub stands_as : (r : Result ℕ AllocError) (ts : List ExpressionTree) (t u : ExpressionTree) → IfOk r (λ i. Stands ts i t) → t ≡ u → IfOk r (λ i. Stands ts i u)
stands_as r ts t u h e = subst (λ v. IfOk r (λ i. Stands ts i v)) e h

-- the same number, in as many bits as hold it
pub stands_so : (ts : List ExpressionTree) (i j : ℕ) (t : ExpressionTree) → i ≡ j → Stands ts j t → Stands ts i t
stands_so ts i j t e h = subst (λ n. Stands ts n t) (sym e) h

-- ---- an expression by its variant

module _ (e : Expression) (line : ℕ) where
  pub name_made : (name : Bor (List ℕ)) → e ≡ Variants.Name name line → NameTree name.now line ≡ expression_of e
  name_made name is = sym (ap expression_of is ∙ ap expression_of (sym (Variants.rolls-Name name line)) ∙ fold-roll-Expression ExpressionTree LinkTree ArgumentTree EntryTree OperandTree expression_step link_step argument_step entry_step operand_step (Open.Name name line))

  pub literal_made : (literal : Literal) (text : Bor (List ℕ)) → e ≡ Variants.Literal literal text line → LiteralTree literal text.now line ≡ expression_of e
  literal_made literal text is = sym (ap expression_of is ∙ ap expression_of (sym (Variants.rolls-Literal literal text line)) ∙ fold-roll-Expression ExpressionTree LinkTree ArgumentTree EntryTree OperandTree expression_step link_step argument_step entry_step operand_step (Open.Literal literal text line))

  pub list_made : (items : Vec Expression Global) (xs : List Expression) → e ≡ Variants.List items line → xs ≡ items.items → ListTree (expressions (map expression_of xs)) line ≡ expression_of e
  list_made items xs is same = ap (λ l. ListTree (expressions (map expression_of l)) line) same
      ∙ sym (ap expression_of is ∙ ap expression_of (sym (Variants.rolls-List items line)) ∙ fold-roll-Expression ExpressionTree LinkTree ArgumentTree EntryTree OperandTree expression_step link_step argument_step entry_step operand_step (Open.List items line))

  pub dictionary_made : (es : Vec Entry Global) (xs : List Entry) → e ≡ Variants.Dictionary es line → xs ≡ es.items → DictionaryTree (entries (map entry_of xs)) line ≡ expression_of e
  dictionary_made es xs is same = ap (λ l. DictionaryTree (entries (map entry_of l)) line) same
      ∙ sym (ap expression_of is ∙ ap expression_of (sym (Variants.rolls-Dictionary es line)) ∙ fold-roll-Expression ExpressionTree LinkTree ArgumentTree EntryTree OperandTree expression_step link_step argument_step entry_step operand_step (Open.Dictionary es line))

  pub call_made : (name : Bor (List ℕ)) (items : Vec Argument Global) (xs : List Argument) → e ≡ Variants.Call line name items → xs ≡ items.items → FunctionTree name.now (argument_trees xs) line ≡ expression_of e
  call_made name items xs is same = ap (λ l. FunctionTree name.now (argument_trees l) line) same
      ∙ sym (ap expression_of is ∙ ap expression_of (sym (Variants.rolls-Call line name items)) ∙ fold-roll-Expression ExpressionTree LinkTree ArgumentTree EntryTree OperandTree expression_step link_step argument_step entry_step operand_step (Open.Call line name items))

  pub postfix_made : (first : Box Expression Global) (ls : Vec Link Global) (xs : List Link) → e ≡ Variants.Postfix first ls line → xs ≡ ls.items
      → PostfixTree (expression_of first.value) (links (map link_of xs)) line ≡ expression_of e
  postfix_made first ls xs is same = ap (λ l. PostfixTree (expression_of first.value) (links (map link_of l)) line) same
      ∙ sym (ap expression_of is ∙ ap expression_of (sym (Variants.rolls-Postfix first ls line)) ∙ fold-roll-Expression ExpressionTree LinkTree ArgumentTree EntryTree OperandTree expression_step link_step argument_step entry_step operand_step (Open.Postfix first ls line))

  pub prefix_made : (p : Prefix) (value : Box Expression Global) → e ≡ Variants.Prefix p value line → PrefixTree p (expression_of value.value) line ≡ expression_of e
  prefix_made p value is = sym (ap expression_of is ∙ ap expression_of (sym (Variants.rolls-Prefix p value line)) ∙ fold-roll-Expression ExpressionTree LinkTree ArgumentTree EntryTree OperandTree expression_step link_step argument_step entry_step operand_step (Open.Prefix p value line))

  pub chain_made : (first : Box Expression Global) (os : Vec Operand Global) (xs : List Operand) → e ≡ Variants.Chain first os line → xs ≡ os.items
      → ChainTree (expression_of first.value) (operands (map operand_of xs)) line ≡ expression_of e
  chain_made first os xs is same = ap (λ l. ChainTree (expression_of first.value) (operands (map operand_of l)) line) same
      ∙ sym (ap expression_of is ∙ ap expression_of (sym (Variants.rolls-Chain first os line)) ∙ fold-roll-Expression ExpressionTree LinkTree ArgumentTree EntryTree OperandTree expression_step link_step argument_step entry_step operand_step (Open.Chain first os line))

  pub ternary_made : (test one other : Box Expression Global) → e ≡ Variants.Ternary test one other line
      → TernaryTree (expression_of test.value) (expression_of one.value) (expression_of other.value) line ≡ expression_of e
  ternary_made test one other is = sym (ap expression_of is ∙ ap expression_of (sym (Variants.rolls-Ternary test one other line)) ∙ fold-roll-Expression ExpressionTree LinkTree ArgumentTree EntryTree OperandTree expression_step link_step argument_step entry_step operand_step (Open.Ternary test one other line))
