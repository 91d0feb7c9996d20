-- Each token of a source stands for one text, and that text is made of it.
use Rattle.std.proofs.Common.{◌≡◌, ℕ, ◌-◌, Bool, true, false, List, [], ◌∷◌, ◌++◌, length, take, get_or, refl, sym, ap, subst, ◌∙◌, arith}
use Rattle.std.proofs.Common.{Option, Some, None, Result, Ok, Err, append_assoc, length-append}
use Rattle.std.specs.Prelude.{◌==◌, if◌then◌else◌, codes, IfOk}
use Rattle.std.specs.Str.{bytes_eq}
use Rattle.std.proofs.Math.Seq.{drop-append_seam, take-append_seam, get_or-append_seam}
use Rattle.std.proofs.lemmas.Bool.{or_parts, cond-false}
use Rattle.syntax.specs.declared.lexer.token.TokenKind.{TokenKind}
use Rattle.syntax.specs.declared.lexer.token.TokenKind.TheVariants as Kinds
use Rattle.syntax.specs.lexer.Bytes as byte
use Rattle.syntax.specs.lexer.Bytes.{quote, lower_f, three_quotes}
use Rattle.syntax.specs.lexer.Kinds.{is, word_kind, format_kind, single_kind, with_equals_kind, symbol_kind}
use Rattle.syntax.specs.lexer.Texts.{is_string, is_framed, text_between_quotes, unescaped_text, text_of, TokenStandsFor, quoted, format, raw, raw_format, other}
use Rattle.syntax.specs.lexer.Tokens as tokens
use Rattle.syntax.specs.lexer.Tokens.{IsString, IsToken}
use Rattle.syntax.proofs.Frames.{between_framed, framed_is}
use Rattle.syntax.proofs.Stands.{stands_sound, stands_only}

-- ---- between quotes

between_is : (opening closing inside : List ℕ) → is_framed (length opening) (length closing) (opening ++ (inside ++ closing)) ≡ true → text_between_quotes (length opening) (length closing) (opening ++ (inside ++ closing)) ≡ inside
between_is opening closing inside h =
    let text : List ℕ = opening ++ (inside ++ closing) in
    between_framed (length opening) (length closing) text h
    ∙ ap (λ (l : List ℕ). take (length text - length closing - length opening) l) (drop-append_seam opening (inside ++ closing))
    ∙ ap (λ (n : ℕ). take n (inside ++ closing)) (let q : length text - length closing - length opening ≡ length inside = omega (arith, length-append opening (inside ++ closing), length-append inside closing) in q)
    ∙ take-append_seam inside closing

framed_by : (opening closing inside : List ℕ) → get_or (opening ++ (inside ++ quote ∷ closing)) (length opening - 1) 0 ≡ quote → is_framed (length opening) (length (quote ∷ closing)) (opening ++ (inside ++ quote ∷ closing)) ≡ true
framed_by opening closing inside first =
    let text : List ℕ = opening ++ (inside ++ quote ∷ closing) in
    let size = length-append opening (inside ++ quote ∷ closing) in
    let rest = length-append inside (quote ∷ closing) in
    framed_is (length opening) (length (quote ∷ closing)) text (omega (arith, size, rest)) first
    (ap (λ (n : ℕ). get_or text n 0) (let q : length text - length (quote ∷ closing) ≡ length (opening ++ inside) = omega (arith, size, rest, length-append opening inside) in q)
    ∙ ap (λ (l : List ℕ). get_or l (length (opening ++ inside)) 0) (sym (append_assoc opening inside (quote ∷ closing))) ∙ get_or-append_seam (opening ++ inside) quote closing 0)

within_quotes : (inside : List ℕ) → text_between_quotes 1 1 (quote ∷ (inside ++ quote ∷ [])) ≡ inside
within_quotes inside = between_is (quote ∷ []) (quote ∷ []) inside (framed_by (quote ∷ []) [] inside refl)

within_format : (inside : List ℕ) → text_between_quotes 2 1 (lower_f ∷ quote ∷ (inside ++ quote ∷ [])) ≡ inside
within_format inside = between_is (lower_f ∷ quote ∷ []) (quote ∷ []) inside (framed_by (lower_f ∷ quote ∷ []) [] inside refl)

within_raw : (inside : List ℕ) → text_between_quotes 3 3 (three_quotes ++ (inside ++ three_quotes)) ≡ inside
within_raw inside = between_is three_quotes three_quotes inside (framed_by three_quotes (quote ∷ quote ∷ []) inside refl)

within_raw_format : (inside : List ℕ) → text_between_quotes 4 3 (lower_f ∷ (three_quotes ++ (inside ++ three_quotes))) ≡ inside
within_raw_format inside = between_is (lower_f ∷ three_quotes) three_quotes inside (framed_by (lower_f ∷ three_quotes) (quote ∷ quote ∷ []) inside refl)

-- ---- other tokens

other_text : (k : TokenKind) (text : List ℕ) → is_string k ≡ false → text_of k text ≡ text
other_text k text e =
    let e1 = (or_parts (is k Kinds.String) _ e).1 in
    let e2 = (or_parts (is k Kinds.FormatString) _ e1).1 in
    cond-false (is k Kinds.String) _ _ (or_parts (is k Kinds.String) _ e).0
    ∙ cond-false (is k Kinds.FormatString) _ _ (or_parts (is k Kinds.FormatString) _ e1).0
    ∙ cond-false (is k Kinds.RawString) _ _ (or_parts (is k Kinds.RawString) _ e2).0
    ∙ cond-false (is k Kinds.RawFormatString) _ _ (or_parts (is k Kinds.RawString) _ e2).1

-- a kind of no string, and a kind of no string or none
record NoString (k : TokenKind) : Type 0 where
  pub is : is_string k ≡ false

record NoneString (o : Option TokenKind) : Type 0 where
  pub each : (k : TokenKind) → o ≡ Some k → is_string k ≡ false

not_so : (k : TokenKind) → is_string k ≡ false → NoString k
not_so k e = record { is = e }

some_not : (k : TokenKind) → is_string k ≡ false → NoneString (Some k)
some_not k e = record { each = λ j f. let same : k ≡ j = cc in subst (λ (i : TokenKind). is_string i ≡ false) same e }

none_not : NoneString None
none_not = record { each = λ j f. cc }

kind_if : (b : Bool) (x y : TokenKind) → NoString x → NoString y → NoString (if b then x else y)
kind_if true x y p q = p
kind_if false x y p q = q

some_if : (b : Bool) (x y : Option TokenKind) → NoneString x → NoneString y → NoneString (if b then x else y)
some_if true x y p q = p
some_if false x y p q = q

word_other : (text : List ℕ) → NoString (word_kind text)
word_other text =
    kind_if (bytes_eq text (codes "true")) Kinds.True _ (not_so Kinds.True refl)
    (kind_if (bytes_eq text (codes "false")) Kinds.False _ (not_so Kinds.False refl)
    (kind_if (bytes_eq text (codes "if")) Kinds.If _ (not_so Kinds.If refl)
    (kind_if (bytes_eq text (codes "elif")) Kinds.Elif _ (not_so Kinds.Elif refl)
    (kind_if (bytes_eq text (codes "else")) Kinds.Else _ (not_so Kinds.Else refl)
    (kind_if (bytes_eq text (codes "endif")) Kinds.EndIf _ (not_so Kinds.EndIf refl)
    (kind_if (bytes_eq text (codes "and")) Kinds.And _ (not_so Kinds.And refl)
    (kind_if (bytes_eq text (codes "or")) Kinds.Or _ (not_so Kinds.Or refl)
    (kind_if (bytes_eq text (codes "not")) Kinds.Not _ (not_so Kinds.Not refl)
    (kind_if (bytes_eq text (codes "in")) Kinds.In _ (not_so Kinds.In refl)
    (kind_if (bytes_eq text (codes "foreach")) Kinds.Foreach _ (not_so Kinds.Foreach refl)
    (kind_if (bytes_eq text (codes "endforeach")) Kinds.EndForeach _ (not_so Kinds.EndForeach refl)
    (kind_if (bytes_eq text (codes "break")) Kinds.Break _ (not_so Kinds.Break refl)
    (kind_if (bytes_eq text (codes "continue")) Kinds.Continue _ (not_so Kinds.Continue refl) (not_so Kinds.Name refl))))))))))))))

single_other : (a : ℕ) → NoneString (single_kind a)
single_other a =
    some_if (a == byte.open_parenthesis) (Some Kinds.OpenParenthesis) _ (some_not Kinds.OpenParenthesis refl)
    (some_if (a == byte.close_parenthesis) (Some Kinds.CloseParenthesis) _ (some_not Kinds.CloseParenthesis refl)
    (some_if (a == byte.open_bracket) (Some Kinds.OpenBracket) _ (some_not Kinds.OpenBracket refl)
    (some_if (a == byte.close_bracket) (Some Kinds.CloseBracket) _ (some_not Kinds.CloseBracket refl)
    (some_if (a == byte.open_brace) (Some Kinds.OpenBrace) _ (some_not Kinds.OpenBrace refl)
    (some_if (a == byte.close_brace) (Some Kinds.CloseBrace) _ (some_not Kinds.CloseBrace refl)
    (some_if (a == byte.comma) (Some Kinds.Comma) _ (some_not Kinds.Comma refl)
    (some_if (a == byte.colon) (Some Kinds.Colon) _ (some_not Kinds.Colon refl)
    (some_if (a == byte.dot) (Some Kinds.Dot) _ (some_not Kinds.Dot refl)
    (some_if (a == byte.question) (Some Kinds.Question) _ (some_not Kinds.Question refl)
    (some_if (a == byte.equals) (Some Kinds.Assign) _ (some_not Kinds.Assign refl)
    (some_if (a == byte.less) (Some Kinds.Less) _ (some_not Kinds.Less refl)
    (some_if (a == byte.greater) (Some Kinds.Greater) _ (some_not Kinds.Greater refl)
    (some_if (a == byte.plus) (Some Kinds.Plus) _ (some_not Kinds.Plus refl)
    (some_if (a == byte.minus) (Some Kinds.Minus) _ (some_not Kinds.Minus refl)
    (some_if (a == byte.star) (Some Kinds.Times) _ (some_not Kinds.Times refl)
    (some_if (a == byte.slash) (Some Kinds.Divide) _ (some_not Kinds.Divide refl)
    (some_if (a == byte.percent) (Some Kinds.Remainder) _ (some_not Kinds.Remainder refl)
    (some_if (a == byte.newline) (Some Kinds.Newline) _ (some_not Kinds.Newline refl) none_not))))))))))))))))))

double_other : (a : ℕ) → NoneString (with_equals_kind a)
double_other a =
    some_if (a == byte.equals) (Some Kinds.Equal) _ (some_not Kinds.Equal refl)
    (some_if (a == byte.exclamation) (Some Kinds.NotEqual) _ (some_not Kinds.NotEqual refl)
    (some_if (a == byte.less) (Some Kinds.LessOrEqual) _ (some_not Kinds.LessOrEqual refl)
    (some_if (a == byte.greater) (Some Kinds.GreaterOrEqual) _ (some_not Kinds.GreaterOrEqual refl)
    (some_if (a == byte.plus) (Some Kinds.PlusAssign) _ (some_not Kinds.PlusAssign refl) none_not))))

symbol_other : (text : List ℕ) → NoneString (symbol_kind text)
symbol_other [] = none_not
symbol_other (a ∷ []) = single_other a
symbol_other (a ∷ b ∷ []) = some_if (b == byte.equals) (with_equals_kind a) None (double_other a) none_not
symbol_other (a ∷ b ∷ c ∷ more) = none_not

-- ---- tokens

string_names : (k : TokenKind) (text rest : List ℕ) → IsString k text rest → TokenStandsFor k text (text_of k text)
string_names _ _ _ (tokens.quoted inside rest g r) = subst (TokenStandsFor Kinds.String (quote ∷ (inside ++ quote ∷ []))) (sym (ap unescaped_text (within_quotes inside))) (quoted inside (unescaped_text inside) (stands_sound inside))
string_names _ _ _ (tokens.raw inside rest each) = subst (TokenStandsFor Kinds.RawString (three_quotes ++ (inside ++ three_quotes))) (sym (within_raw inside)) (raw inside)

format_names : (k : TokenKind) (text rest : List ℕ) → IsString k text rest → TokenStandsFor (format_kind k) (lower_f ∷ text) (text_of (format_kind k) (lower_f ∷ text))
format_names _ _ _ (tokens.quoted inside rest g r) =
    subst (TokenStandsFor Kinds.FormatString (lower_f ∷ quote ∷ (inside ++ quote ∷ []))) (sym (ap unescaped_text (within_format inside))) (format inside (unescaped_text inside) (stands_sound inside))
format_names _ _ _ (tokens.raw inside rest each) =
    subst (TokenStandsFor Kinds.RawFormatString (lower_f ∷ (three_quotes ++ (inside ++ three_quotes)))) (sym (within_raw_format inside)) (raw_format inside)

other_names : (k : TokenKind) (text : List ℕ) → is_string k ≡ false → TokenStandsFor k text (text_of k text)
other_names k text e = subst (TokenStandsFor k text) (sym (other_text k text e)) (other k text e)

pub token_names : (k : TokenKind) (text rest : List ℕ) → IsToken k text rest → TokenStandsFor k text (text_of k text)
token_names _ _ _ (tokens.word text rest w f) = other_names (word_kind text) text (word_other text).is
token_names _ _ _ (tokens.number text rest h e) = other_names Kinds.Number text refl
token_names _ _ _ (tokens.string k text rest t) = string_names k text rest t
token_names _ _ _ (tokens.format k text rest t) = format_names k text rest t
token_names _ _ _ (tokens.symbol k text rest e) = other_names k text ((symbol_other text).each k e)

pub names_only : (k : TokenKind) (slice text : List ℕ) → TokenStandsFor k slice text → text_of k slice ≡ text
names_only _ _ _ (quoted inside text g) = ap unescaped_text (within_quotes inside) ∙ stands_only inside text g
names_only _ _ _ (format inside text g) = ap unescaped_text (within_format inside) ∙ stands_only inside text g
names_only _ _ _ (raw inside) = within_raw inside
names_only _ _ _ (raw_format inside) = within_raw_format inside
names_only _ _ _ (other k text e) = other_text k text e

-- ---- the answer

pub if_ok : {T E : Type 0} (P Q : T → Type 0) → ((x : T) → P x → Q x) → (r : Result T E) → IfOk r P → IfOk r Q
if_ok P Q each (Ok x) p = each x p
if_ok P Q each (Err e) p = tt
