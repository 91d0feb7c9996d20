-- The value of a literal, by what it means.
use Rattle.std.proofs.Common.{◌≡◌, ℕ, Bool, true, false, List, refl, ap, subst, ◌∙◌}
use Rattle.std.specs.Prelude.{IsTrue, ◌&&◌, ◌==◌, not, bytes_eq}
use Rattle.std.proofs.lemmas.Bool.Decides.{Decides-eqb}
use Rattle.std.proofs.lemmas.Slice.Eq.{bytes_eq-Decides}
use Rattle.syntax.specs.declared.tree.Literal.{Literal}
use Rattle.syntax.specs.declared.tree.Literal.TheVariants as literals
use Rattle.syntax.specs.lexer.Numerals.{magnitude}
use Rattle.syntax.specs.lexer.Texts.{text_of}
use Rattle.code.specs.Literals.{is_boolean, is_format, is_number, is_string, kind_of, means, bytes_of_literal}
use Rattle.code.specs.declared.literal.LiteralNode.{LiteralNode}
use Rattle.code.specs.declared.literal.LiteralValue.{LiteralValue}
use Rattle.code.proofs.Trees.{both_true}
use Rattle.values.specs.Data.{boolean, text}
use Rattle.values.specs.Limits.{within}
use Rattle.world.specs.Plan.{answer_at_line, give}
use Rattle.expressions.specs.Forms.{format_string, literal_value, number}

-- the test that a node keeps, at its meaning
pub stands : (n : LiteralNode) (m : LiteralValue) → n.meaning ≡ m → IsTrue (means n.literal (bytes_of_literal n.source.value) m)
stands n m is = subst (λ (x : LiteralValue). IsTrue (means n.literal (bytes_of_literal n.source.value) x)) is n.stands

module _ (line : ℕ) (s : List ℕ) where
  pub of_boolean : (l : Literal) (b : Bool) → IsTrue (is_boolean b l) → give (boolean b) ≡ literal_value line l s
  of_boolean literals.True true h = refl
  of_boolean literals.True false h = absurd cc
  of_boolean literals.False true h = absurd cc
  of_boolean literals.False false h = refl
  of_boolean literals.Number true h = absurd cc
  of_boolean literals.Number false h = absurd cc
  of_boolean literals.String true h = absurd cc
  of_boolean literals.String false h = absurd cc
  of_boolean literals.RawString true h = absurd cc
  of_boolean literals.RawString false h = absurd cc
  of_boolean literals.FormatString true h = absurd cc
  of_boolean literals.FormatString false h = absurd cc
  of_boolean literals.RawFormatString true h = absurd cc
  of_boolean literals.RawFormatString false h = absurd cc

  of_number : (l : Literal) → IsTrue (is_number l) → answer_at_line line (number (magnitude s)) ≡ literal_value line l s
  of_number literals.True h = absurd cc
  of_number literals.False h = absurd cc
  of_number literals.Number h = refl
  of_number literals.String h = absurd cc
  of_number literals.RawString h = absurd cc
  of_number literals.FormatString h = absurd cc
  of_number literals.RawFormatString h = absurd cc

  pub of_integer : (l : Literal) (n : ℕ) → IsTrue (is_number l && (n == magnitude s)) → answer_at_line line (number n) ≡ literal_value line l s
  of_integer l n h =
      let p = both_true (is_number l) (n == magnitude s) h in
      ap (λ m. answer_at_line line (number m)) ((Decides-eqb n (magnitude s)).0 p.1) ∙ of_number l p.0

  of_plain : (l : Literal) → IsTrue (is_string l) → answer_at_line line (within (text (text_of (kind_of l) s))) ≡ literal_value line l s
  of_plain literals.True h = absurd cc
  of_plain literals.False h = absurd cc
  of_plain literals.Number h = absurd cc
  of_plain literals.String h = refl
  of_plain literals.RawString h = refl
  of_plain literals.FormatString h = absurd cc
  of_plain literals.RawFormatString h = absurd cc

  pub of_text : (l : Literal) (t : List ℕ) → IsTrue (is_string l && bytes_eq t (text_of (kind_of l) s))
      → answer_at_line line (within (text t)) ≡ literal_value line l s
  of_text l t h =
      let p = both_true (is_string l) (bytes_eq t (text_of (kind_of l) s)) h in
      ap (λ u. answer_at_line line (within (text u))) ((bytes_eq-Decides t (text_of (kind_of l) s)).0 p.1) ∙ of_plain l p.0

  of_places : (l : Literal) → IsTrue (is_format l) → format_string line (text_of (kind_of l) s) ≡ literal_value line l s
  of_places literals.True h = absurd cc
  of_places literals.False h = absurd cc
  of_places literals.Number h = absurd cc
  of_places literals.String h = absurd cc
  of_places literals.RawString h = absurd cc
  of_places literals.FormatString h = refl
  of_places literals.RawFormatString h = refl

  pub of_format : (l : Literal) (t : List ℕ) → IsTrue (is_format l && bytes_eq t (text_of (kind_of l) s))
      → format_string line t ≡ literal_value line l s
  of_format l t h =
      let p = both_true (is_format l) (bytes_eq t (text_of (kind_of l) s)) h in
      ap (format_string line) ((bytes_eq-Decides t (text_of (kind_of l) s)).0 p.1) ∙ of_places l p.0

  no_format : (l : Literal) → IsTrue (not (is_format l)) → is_format l ≡ false
  no_format literals.True h = refl
  no_format literals.False h = refl
  no_format literals.Number h = refl
  no_format literals.String h = refl
  no_format literals.RawString h = refl
  no_format literals.FormatString h = absurd cc
  no_format literals.RawFormatString h = absurd cc

  pub of_source : (l : Literal) (t : List ℕ) → IsTrue (not (is_format l) && bytes_eq t s)
      → (is_format l ≡ false) × (literal_value line l t ≡ literal_value line l s)
  of_source l t h =
      let p = both_true (not (is_format l)) (bytes_eq t s) h in
      (no_format l p.0, ap (literal_value line l) ((bytes_eq-Decides t s).0 p.1))
