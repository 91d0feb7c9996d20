-- Where a text may be cut, and what its first word and line are.
use Rattle.std.proofs.Common.{◌≡◌, ℕ, zero, suc, ◌+◌, ◌-◌, ◌<◌, ◌≤◌, Bool, true, false, not, List, [], ◌∷◌, ◌++◌, length, get_or, take}
use Rattle.std.proofs.Common.{drop, refl, sym, ap, ◌∙◌, subst, arith, lit<}
use Rattle.std.specs.Prelude.{nat_eq, codes, if◌then◌else◌}
use Rattle.std.specs.List.{position_or_len, prefix_len, starts_with}
use Rattle.std.specs.Str.Pattern.{LacksTextAt}
use Rattle.std.specs.Str.{IsUtf8, IsCharBoundary}
use Rattle.std.proofs.lemmas.Str.{IsCharBoundary-start, IsCharBoundary-after_ascii}
use Rattle.std.proofs.lemmas.List.{get_or-drop, length-drop, take-append-drop, length-take-le, nil_from_length}
use Rattle.std.proofs.lemmas.List.Sums.{prefix_len-le-length, prefix_len_passes, prefix_len_stops, passes_at_first}
use Rattle.std.proofs.lemmas.Bool.Decides.{nat_tests}
use Rattle.values.specs.texts.Strip.{is_blank}
use Rattle.values.specs.texts.Pieces.{parts, words, lines, is_line_end}
use Rattle.values.specs.texts.Cut.{lines_behind, end_length}
use Rattle.values.proofs.SearchLemmas.{Decides-starts_with}
use Rattle.values.proofs.PiecesLemmas.{parts_found, words_first, words_skip, lines_first}

blank_is_ascii : (b : ℕ) → is_blank b ≡ true → b < 128
blank_is_ascii b h = grind (arith, nat_tests)

line_end_is_ascii : (b : ℕ) → is_line_end b ≡ true → b < 128
line_end_is_ascii b h = grind (arith, nat_tests)

pub boundary_before : (passes : ℕ → Bool) → ((b : ℕ) → passes b ≡ true → b < 128) → (text : List ℕ) → IsCharBoundary text
    (position_or_len passes text)
boundary_before passes ascii text = (
  prefix_len-le-length (λ b. not (passes b)) text,
  λ below high. absurd (omega (arith, ascii (get_or text (position_or_len passes text) 0) (passes_at_first passes text 0 below))),
)

-- a text may be cut before its first white space, and before its first end of a line
pub boundary_before_blank : (text : List ℕ) (n : ℕ) → n ≡ position_or_len is_blank text → IsCharBoundary text n
boundary_before_blank text n e = let P : ℕ → Type 0 = λ i. IsCharBoundary text i in subst P (sym e)
    (boundary_before is_blank blank_is_ascii text)

pub boundary_before_end : (text : List ℕ) (n : ℕ) → n ≡ position_or_len is_line_end text → IsCharBoundary text n
boundary_before_end text n e = let P : ℕ → Type 0 = λ i. IsCharBoundary text i in subst P (sym e)
    (boundary_before is_line_end line_end_is_ascii text)

-- a text may be cut behind ASCII
pub boundary_after : (text : List ℕ) (n : ℕ) → IsUtf8 text → n ≤ length text → ((k : ℕ) → k < n → get_or text k 0 < 128)
    → IsCharBoundary text n
boundary_after text zero utf8 within ascii = IsCharBoundary-start text utf8
boundary_after text (suc n) utf8 within ascii =
    let P : ℕ → Type 0 = λ i. IsCharBoundary text i in
    let more : n + 1 ≡ suc n = omega arith in
    subst P more (IsCharBoundary-after_ascii text n utf8 (omega arith) (ascii n (omega arith)))

pub boundary_after_blanks : (text : List ℕ) (n : ℕ) → IsUtf8 text → n ≡ prefix_len is_blank text → IsCharBoundary text n
boundary_after_blanks text n utf8 e =
    boundary_after text n utf8 (omega (arith, prefix_len-le-length is_blank text))
    (λ k below. blank_is_ascii (get_or text k 0) (prefix_len_passes is_blank text k 0 (omega arith)))

-- the first part of a text, and the others
pub part_at : (separator text part rest : List ℕ) (i j : ℕ) → 0 < length separator
    → ((k : ℕ) → k < i → LacksTextAt separator text k) → drop i text ≡ separator ++ drop j text → part ≡ take i text → rest ≡ drop j text
    → i ≤ length text → parts separator text ≡ part ∷ parts separator rest
part_at [] text part rest i j filled first stands part_is rest_is within = absurd (omega arith)
part_at (s ∷ ss) text part rest i j filled first stands part_is rest_is within =
    let whole : text ≡ part ++ (s ∷ ss ++ rest) = sym (take-append-drop i text) ∙ (λ k. sym part_is k ++ stands k)
    ∙ ap (λ xs. part ++ (s ∷ ss ++ xs)) (sym rest_is) in
    let count : length part ≡ i = ap length part_is ∙ length-take-le i text within in
    ap (parts (s ∷ ss)) whole
    ∙ parts_found s ss part rest (λ k below. let P : List ℕ → Type 0 = λ xs. LacksTextAt (s ∷ ss) xs k in subst P whole
    (first k (omega arith)))

-- no white space stands behind white space
filled_behind : (text : List ℕ) (b : ℕ) (bs : List ℕ) → b ∷ bs ≡ drop (prefix_len is_blank text) text → is_blank b ≡ false
filled_behind text b bs e =
    let n = prefix_len is_blank text in
    let count : length (b ∷ bs) ≡ length text - n = ap length e ∙ length-drop n text in
    let here : b ≡ get_or text (n + 0) 0 = ap (λ xs. get_or xs 0 0) e ∙ get_or-drop n text 0 0 in
    let same : n + 0 ≡ n = omega arith in
    ap is_blank (here ∙ ap (λ i. get_or text i 0) same) ∙ prefix_len_stops is_blank text 0 (omega arith)

-- the first word of a text, and the others
pub word_at : (text rest : List ℕ) (n m : ℕ) → n ≡ prefix_len is_blank text → rest ≡ drop n text → m ≡ position_or_len is_blank rest
    → 0 < length rest
    → words text ≡ take m rest ∷ words (drop m rest)
word_at text [] n m n_is rest_is m_is filled = absurd (omega arith)
word_at text (b ∷ bs) n m n_is rest_is m_is filled =
    let behind : b ∷ bs ≡ drop (prefix_len is_blank text) text = rest_is ∙ ap (λ i. drop i text) n_is in
    words_skip text ∙ ap words (sym behind) ∙ words_first b bs (filled_behind text b bs behind)
    ∙ ap (λ i. take i (b ∷ bs) ∷ words (drop i (b ∷ bs))) (sym m_is)

first_filled : (blank : Bool) (n m : ℕ) → blank ≡ false → m ≡ (if not blank then 1 + n else 0) → 0 < m
first_filled false n m e m_is = omega arith
first_filled true n m e m_is = absurd cc

pub word_is_filled : (text rest : List ℕ) (n m : ℕ) → n ≡ prefix_len is_blank text → rest ≡ drop n text
    → m ≡ position_or_len is_blank rest → 0 < length rest → 0 < m
word_is_filled text [] n m n_is rest_is m_is filled = absurd (omega arith)
word_is_filled text (b ∷ bs) n m n_is rest_is m_is filled =
    let behind : b ∷ bs ≡ drop (prefix_len is_blank text) text = rest_is ∙ ap (λ i. drop i text) n_is in
    first_filled (is_blank b) (position_or_len is_blank bs) m (filled_behind text b bs behind) m_is

pub no_word : (text : List ℕ) (n : ℕ) → n ≡ prefix_len is_blank text → length (drop n text) ≡ 0 → words text ≡ []
no_word text n n_is none = words_skip text ∙ ap (λ i. words (drop i text)) (sym n_is) ∙ ap words (nil_from_length (drop n text) none)

-- the first line of a text, and the others
pub line_at : (text : List ℕ) (n : ℕ) → n ≡ position_or_len is_line_end text → 0 < length text
    → lines text ≡ take n text ∷ lines_behind (drop n text)
line_at [] n n_is filled = absurd (omega arith)
line_at (b ∷ bs) n n_is filled = lines_first b bs ∙ ap (λ i. take i (b ∷ bs) ∷ lines_behind (drop i (b ∷ bs))) (sym n_is)

pub begins_with_end : (text end : List ℕ) (n : ℕ) → n ≡ position_or_len is_line_end text → end ≡ drop n text → 0 < length end
    → is_line_end (get_or end 0 0) ≡ true
begins_with_end text end n n_is end_is filled =
    let count : length end ≡ length text - n = ap length end_is ∙ length-drop n text in
    let place : n + 0 ≡ position_or_len is_line_end text = omega arith in
    ap is_line_end (ap (λ xs. get_or xs 0 0) end_is ∙ get_or-drop n text 0 0 ∙ ap (λ i. get_or text i 0) place)
    ∙ passes_at_first is_line_end text 0 (omega arith)

two_bytes : (rest : List ℕ) (k : ℕ) → k < 2 → get_or (13 ∷ 10 ∷ rest) k 0 < 128
two_bytes rest zero below = lit< tt
two_bytes rest (suc zero) below = lit< tt
two_bytes rest (suc (suc k)) below = absurd (omega arith)

-- a text that begins with the end of a line may be cut behind it
end_within : (long : Bool) (text : List ℕ) → starts_with nat_eq text (codes "\r\n") ≡ long → 0 < length text
    → is_line_end (get_or text 0 0) ≡ true
    → ((if long then 2 else 1) ≤ length text) × ((k : ℕ) → k < (if long then 2 else 1) → get_or text k 0 < 128)
end_within true text is filled ends =
    let whole = (Decides-starts_with text (codes "\r\n")).0 is in
    let P : List ℕ → Type 0 = λ xs. (2 ≤ length xs) × ((k : ℕ) → k < 2 → get_or xs k 0 < 128) in
    subst P (sym whole.1) (omega arith, two_bytes whole.0)
end_within false text is filled ends = (
  filled,
  λ k below. let first : k ≡ 0 = omega arith in let P : ℕ → Type 0 = λ i. get_or text i 0 < 128 in subst P (sym first)
      (line_end_is_ascii (get_or text 0 0) ends),
)

pub boundary_behind_end : (text : List ℕ) (n : ℕ) → IsUtf8 text → n ≡ end_length text → 0 < length text
    → is_line_end (get_or text 0 0) ≡ true → IsCharBoundary text n
boundary_behind_end text n utf8 n_is filled ends =
    let fits = end_within (starts_with nat_eq text (codes "\r\n")) text refl filled ends in
    let P : ℕ → Type 0 = λ i. IsCharBoundary text i in
    subst P (sym n_is) (boundary_after text (end_length text) utf8 fits.0 fits.1)
