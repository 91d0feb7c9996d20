-- How the pieces of a line follow from its first '@'.
use Rattle.std.proofs.Common.{◌≡◌, ℕ, zero, suc, ◌+◌, ◌-◌, ◌/◌, ◌%◌, ◌<◌, ◌≤◌, Bool, true, false, cond, ◌&&◌, ◌==◌, List, [], ◌∷◌, ◌++◌}
use Rattle.std.proofs.Common.{length, take, drop, get_or, refl, sym, ap, ◌∙◌, append_assoc, arith, ⊎_elim, eqb-true, eq-eqb, subst, codes}
use Rattle.std.proofs.lemmas.Bool.{lt-ltb, cases_Bool, and_parts, false≢true}
use Rattle.std.proofs.lemmas.List.{replicate-append-replicate, length-take-le, take-replicate, take-append-drop, drop_more, map-append, append-nil}
use Rattle.std.proofs.lemmas.List.{length-drop, length-reverse, reverse-append, reverse-reverse}
use Rattle.std.proofs.lemmas.List.Sums.{prefix_len-le-length, list_all-from_AllPass, prefix_len_passes}
use Rattle.std.proofs.lemmas.List.Folds.{prefix_len-replicate}
use Rattle.std.proofs.lemmas.List.Splits.{join_with_byte-slice_split, length-slice_split, slice_split_at, slice_split_none}
use Rattle.std.proofs.lemmas.Grind.{flat_map-append}
use Rattle.std.proofs.Math.Seq.{take-append-add, take-append_seam}
use Rattle.std.specs.Prelude.{replicate, reverse, flat_map, nat_lt, slice_index, if◌then◌else◌}
use Rattle.std.specs.List.{prefix_len, list_all, join_with_byte, slice_split, All, AllPass}
use Rattle.ports.specs.Outputs.{Step, Puts, puts}
use Rattle.template.specs.Config.{Entries}
use Rattle.template.specs.Template.{Lacks}
use Rattle.template.specs.Line.{Piece, Text, Backslashes, Sign, Name, is_name_byte, is_placeholder_name, ending_backslashes, text_pieces, begins_name}
use Rattle.template.specs.Line.{pieces_of, line_pieces, in_place, piece_steps, replaced_line}
use Rattle.template.specs.Scan.{name_length}

pub puts-append : (a b : List ℕ) → puts (a ++ b) ≡ puts a ++ puts b
unfolding puts
puts-append a b = map-append (λ b. Puts b) a b

pub false_of : (b : Bool) → ¬ (b ≡ true) → b ≡ false
false_of true h = absurd (h refl)
false_of false h = refl

-- ---- backslashes at the end of a text

abbrev is_backslash : ℕ → Bool
is_backslash b = b == 92

abbrev is_sign : ℕ → Bool
is_sign b = b == 64

reverse-cons : (b : ℕ) (text : List ℕ) → reverse (b ∷ text) ≡ reverse text ++ b ∷ []
reverse-cons b text = reverse-append (b ∷ []) text

replicate-last : (n x : ℕ) → replicate n x ++ x ∷ [] ≡ x ∷ replicate n x
replicate-last n x = replicate-append-replicate n 1 x ∙ ap (λ m. replicate m x) (let e : n + 1 ≡ suc n = omega arith in e)

reverse-replicate : (n x : ℕ) → reverse (replicate n x) ≡ replicate n x
reverse-replicate zero x = refl
reverse-replicate (suc n) x = reverse-cons x (replicate n x) ∙ ap (λ r. r ++ x ∷ []) (reverse-replicate n x) ∙ replicate-last n x

-- the backslashes at the front of some bytes
prefix_is : (bytes : List ℕ) → take (prefix_len is_backslash bytes) bytes ≡ replicate (prefix_len is_backslash bytes) 92
prefix_is [] = refl
prefix_is (b ∷ bytes) =
    let k = prefix_len is_backslash bytes in
    let one : 1 + k ≡ suc k = omega arith in
    ⊎_elim
    (λ e. rw e (rw one (ap (λ r. b ∷ r) (prefix_is bytes) ∙ ap (λ c. c ∷ replicate k 92) (eqb-true b 92 e))))
    (λ e. rw e refl)
    (cases_Bool (b == 92))

pub ending-le : (text : List ℕ) → ending_backslashes text ≤ length text
unfolding ending_backslashes
ending-le text = omega (arith, prefix_len-le-length is_backslash (reverse text), length-reverse text)

ending-is : (text : List ℕ) → text ≡ take (length text - ending_backslashes text) text ++ replicate (ending_backslashes text) 92
unfolding ending_backslashes
ending-is text =
    let r = reverse text in
    let k = prefix_len is_backslash r in
    let front = reverse (drop k r) in
    let whole : text ≡ front ++ replicate k 92 =
    sym (reverse-reverse text) ∙ ap reverse (sym (take-append-drop k r)) ∙ reverse-append (take k r) (drop k r)
    ∙ ap (λ t. front ++ t) (ap reverse (prefix_is r) ∙ reverse-replicate k 92) in
    let len : length front ≡ length text - k = length-reverse (drop k r) ∙ length-drop k r ∙ ap (λ l. l - k) (length-reverse text) in
    let first : take (length text - k) text ≡ front =
    ap (λ n. take n text) (sym len) ∙ ap (λ t. take (length front) t) whole ∙ take-append_seam front (replicate k 92) in
    whole ∙ ap (λ t. t ++ replicate k 92) (sym first)

-- half of the backslashes at the end
half-is : (text : List ℕ) (n : ℕ) → n ≡ ending_backslashes text → take (length text - (n - n / 2)) text ≡ take (length text - n) text ++ replicate (n / 2) 92
half-is text n is =
    let front = take (length text - n) text in
    let whole : text ≡ front ++ replicate n 92 = rw is (ending-is text) in
    let len : length front ≡ length text - n = length-take-le (length text - n) text (omega arith) in
    let le = ending-le text in
    let count : length text - (n - n / 2) ≡ length front + n / 2 = omega (arith, le, is, len) in
    ap (λ m. take m text) count ∙ ap (λ t. take (length front + n / 2) t) whole ∙ take-append-add front (replicate n 92) (n / 2)
    ∙ ap (λ t. front ++ t) (take-replicate (n / 2) n 92 (omega arith))

-- the same number, counted from the front
unfoldable pub slashes_at : ℕ → List ℕ → ℕ
slashes_at slashes [] = slashes
slashes_at slashes (b ∷ bytes) = if b == 92 then slashes_at (slashes + 1) bytes else slashes_at 0 bytes

prefix-stop : (xs ys : List ℕ) (b : ℕ) → (b == 92) ≡ false → prefix_len is_backslash (xs ++ b ∷ ys) ≡ prefix_len is_backslash xs
prefix-stop [] ys b e = rw e refl
prefix-stop (x ∷ xs) ys b e = ap (λ k. cond (x == 92) (1 + k) 0) (prefix-stop xs ys b e)

slashes-reversed : (n : ℕ) (text : List ℕ) → slashes_at n text ≡ prefix_len is_backslash (reverse text ++ replicate n 92)
unfolding slashes_at
slashes-reversed n [] = sym (prefix_len-replicate is_backslash n 92 refl)
slashes-reversed n (b ∷ text) =
    let last : reverse (b ∷ text) ++ replicate n 92 ≡ reverse text ++ b ∷ replicate n 92 =
    ap (λ r. r ++ replicate n 92) (reverse-cons b text) ∙ append_assoc (reverse text) (b ∷ []) (replicate n 92) in
    ⊎_elim
    (λ e.
    let one : suc n ≡ n + 1 = omega arith in
    let more : reverse text ++ b ∷ replicate n 92 ≡ reverse text ++ replicate (n + 1) 92 =
    ap (λ c. reverse text ++ c ∷ replicate n 92) (eqb-true b 92 e) ∙ ap (λ m. reverse text ++ replicate m 92) one in
    rw e (slashes-reversed (n + 1) text ∙ ap (λ r. prefix_len is_backslash r) (sym (last ∙ more))))
    (λ e.
    let none : reverse text ++ [] ≡ reverse text = append-nil (reverse text) in
    rw e (slashes-reversed 0 text ∙ ap (λ r. prefix_len is_backslash r) none
    ∙ sym (prefix-stop (reverse text) (replicate n 92) b e) ∙ ap (λ r. prefix_len is_backslash r) (sym last)))
    (cases_Bool (b == 92))

pub slashes_at-is : (text : List ℕ) → slashes_at 0 text ≡ ending_backslashes text
unfolding ending_backslashes
slashes_at-is text = slashes-reversed 0 text ∙ ap (λ r. prefix_len is_backslash r) (append-nil (reverse text))

-- ---- a name after an '@'

all-lack : (a : ℕ) (bytes : List ℕ) → Lacks a bytes → All (λ b. (b == a) ≡ false) bytes
all-lack a [] h k d lt = absurd (omega arith)
all-lack a (b ∷ bytes) h zero d lt = h.0
all-lack a (b ∷ bytes) h (suc k) d lt = all-lack a bytes h.1 k d (omega arith)

no_sign : (b : ℕ) → is_name_byte b ≡ true → (b == 64) ≡ false
no_sign b h = false_of (b == 64) (λ e. false≢true (subst (λ x. is_name_byte x ≡ true) (eqb-true b 64 e) h))

prefix-whole : (name rest : List ℕ) → list_all is_name_byte name ≡ true → prefix_len is_name_byte (name ++ 64 ∷ rest) ≡ length name
prefix-whole [] rest h = refl
prefix-whole (b ∷ name) rest h =
    let parts = and_parts (is_name_byte b) (list_all is_name_byte name) h in
    let one : 1 + length name ≡ suc (length name) = omega arith in
    rw parts.0 (ap (λ k. 1 + k) (prefix-whole name rest parts.1) ∙ one)

get-seam : (name rest : List ℕ) → get_or (name ++ 64 ∷ rest) (length name) 0 ≡ 64
get-seam [] rest = refl
get-seam (b ∷ name) rest = get-seam name rest

name_length-is : (bytes : List ℕ) (n : ℕ) → prefix_len is_name_byte bytes ≡ n → get_or bytes n 0 ≡ 64 → name_length bytes ≡ n
unfolding name_length
name_length-is bytes n e f = rw e (rw f refl)

is_some : (name : List ℕ) → nat_lt 0 (length name) ≡ true → 0 < length name
is_some [] h = absurd (false≢true h)
is_some (b ∷ name) h = omega arith

named-length : (name rest : List ℕ) → is_placeholder_name name ≡ true → (name_length (name ++ 64 ∷ rest) ≡ length name) × (0 < length name)
unfolding is_placeholder_name
named-length name rest h =
    let parts = and_parts (nat_lt 0 (length name)) (list_all is_name_byte name) h in
    (name_length-is (name ++ 64 ∷ rest) (length name) (prefix-whole name rest parts.1) (get-seam name rest), is_some name parts.0)

-- ---- the pieces from the first '@' on

-- the first of these parts is no name after this text
abbrev No : List ℕ → List (List ℕ) → Type 0
No text [] = Unit {0}
No text (p ∷ []) = Unit {0}
No text (p ∷ q ∷ parts) = begins_name text p ≡ false

and-false : (b : Bool) → (b && false) ≡ false
and-false true = refl
and-false false = refl

no-odd : (text : List ℕ) (parts : List (List ℕ)) → (ending_backslashes text % 2 ≡ 0 → ⊥) → No text parts
unfolding begins_name
no-odd text [] odd = tt
no-odd text (p ∷ []) odd = tt
no-odd text (p ∷ q ∷ parts) odd =
    let f : (ending_backslashes text % 2 == 0) ≡ false = false_of (ending_backslashes text % 2 == 0) (λ h. odd (eqb-true (ending_backslashes text % 2) 0 h)) in
    rw f refl

no-unnamed : (text : List ℕ) (parts : List (List ℕ)) (bytes : List ℕ) → join_with_byte 64 parts ≡ bytes → name_length bytes ≡ 0 → No text parts
unfolding begins_name
no-unnamed text [] bytes whole none = tt
no-unnamed text (p ∷ []) bytes whole none = tt
no-unnamed text (p ∷ q ∷ parts) bytes whole none =
    ⊎_elim
    (λ e.
    let named = named-length p (join_with_byte 64 (q ∷ parts)) e in
    let zero_long : name_length (p ++ 64 ∷ join_with_byte 64 (q ∷ parts)) ≡ 0 = ap name_length whole ∙ none in
    absurd (omega (arith, named.0, named.1, zero_long)))
    (λ e. rw e (and-false (ending_backslashes text % 2 == 0)))
    (cases_Bool (is_placeholder_name p))

pieces-sign : (text : List ℕ) (parts : List (List ℕ)) → 0 < length parts → No text parts → pieces_of (text ∷ parts) ≡ text_pieces text ++ Sign ∷ pieces_of parts
unfolding pieces_of
pieces-sign text [] some none = absurd (omega arith)
pieces-sign text (p ∷ []) some none = refl
pieces-sign text (p ∷ q ∷ parts) some none = rw none refl

pieces-name : (text name : List ℕ) (parts : List (List ℕ)) → 0 < length parts → begins_name text name ≡ true
    → pieces_of (text ∷ name ∷ parts) ≡ text_pieces text ++ Name name ∷ pieces_of parts
unfolding pieces_of
pieces-name text name [] some is = absurd (omega arith)
pieces-name text name (p ∷ parts) some is = rw is refl

has_parts : (bytes : List ℕ) → 0 < length (slice_split is_sign bytes)
has_parts bytes = omega (arith, length-slice_split is_sign bytes)

text-steps : (entries : Entries) (path : List ℕ) (number : ℕ) (text : List ℕ)
    → flat_map (piece_steps entries path number) (text_pieces text) ≡ puts (take (length text - (ending_backslashes text - ending_backslashes text / 2)) text)
unfolding text_pieces piece_steps
text-steps entries path number text =
    let n = ending_backslashes text in
    let front = take (length text - n) text in
    ap (λ r. puts front ++ r) (append-nil (puts (replicate (n / 2) 92))) ∙ sym (puts-append front (replicate (n / 2) 92)) ∙ ap puts (sym (half-is text n refl))

-- a line whose first '@' begins no name
pub replaced-sign : (entries : Entries) (path : List ℕ) (number : ℕ) (text rest : List ℕ) → Lacks 64 text → No text (slice_split is_sign rest)
    → replaced_line entries path number (text ++ 64 ∷ rest)
    ≡ puts (take (length text - (ending_backslashes text - ending_backslashes text / 2)) text) ++ (puts (codes "@") ++ replaced_line entries path number rest)
unfolding replaced_line line_pieces piece_steps
replaced-sign entries path number text rest lacks none =
    let steps = piece_steps entries path number in
    let parts = slice_split is_sign rest in
    ap (λ ps. flat_map steps (pieces_of ps)) (slice_split_at is_sign text 64 rest (all-lack 64 text lacks) refl)
    ∙ ap (λ ps. flat_map steps ps) (pieces-sign text parts (has_parts rest) none)
    ∙ flat_map-append steps (text_pieces text) (Sign ∷ pieces_of parts)
    ∙ ap (λ r. r ++ (puts (codes "@") ++ flat_map steps (pieces_of parts))) (text-steps entries path number text)

pub replaced-odd : (entries : Entries) (path : List ℕ) (number : ℕ) (text rest : List ℕ) → Lacks 64 text → (ending_backslashes text % 2 ≡ 0 → ⊥)
    → replaced_line entries path number (text ++ 64 ∷ rest)
    ≡ puts (take (length text - (ending_backslashes text - ending_backslashes text / 2)) text) ++ (puts (codes "@") ++ replaced_line entries path number rest)
replaced-odd entries path number text rest lacks odd = replaced-sign entries path number text rest lacks (no-odd text (slice_split is_sign rest) odd)

pub replaced-unnamed : (entries : Entries) (path : List ℕ) (number : ℕ) (text rest : List ℕ) → Lacks 64 text → name_length rest ≡ 0
    → replaced_line entries path number (text ++ 64 ∷ rest)
    ≡ puts (take (length text - (ending_backslashes text - ending_backslashes text / 2)) text) ++ (puts (codes "@") ++ replaced_line entries path number rest)
replaced-unnamed entries path number text rest lacks none =
    replaced-sign entries path number text rest lacks (no-unnamed text (slice_split is_sign rest) rest (join_with_byte-slice_split 64 rest) none)

-- a line whose first '@' begins a name
pub replaced-named : (entries : Entries) (path : List ℕ) (number : ℕ) (text name rest : List ℕ) → Lacks 64 text → ending_backslashes text % 2 ≡ 0
    → 0 < length name → AllPass is_name_byte name
    → replaced_line entries path number (text ++ 64 ∷ (name ++ 64 ∷ rest))
    ≡ puts (take (length text - (ending_backslashes text - ending_backslashes text / 2)) text)
    ++ (in_place entries path number name ++ replaced_line entries path number rest)
unfolding replaced_line line_pieces piece_steps begins_name is_placeholder_name
replaced-named entries path number text name rest lacks even some named =
    let steps = piece_steps entries path number in
    let parts = slice_split is_sign rest in
    let even' : (ending_backslashes text % 2 == 0) ≡ true = eq-eqb (ending_backslashes text % 2) 0 even in
    let some' : nat_lt 0 (length name) ≡ true = lt-ltb 0 (length name) some in
    let named' : list_all is_name_byte name ≡ true = list_all-from_AllPass is_name_byte name named in
    let begins : begins_name text name ≡ true = rw even' (rw some' (rw named' refl)) in
    ap (λ ps. flat_map steps (pieces_of ps)) (slice_split_at is_sign text 64 (name ++ 64 ∷ rest) (all-lack 64 text lacks) refl)
    ∙ ap (λ ps. flat_map steps (pieces_of (text ∷ ps))) (slice_split_at is_sign name 64 rest (λ k d lt. no_sign (get_or name k d) (named k d lt)) refl)
    ∙ ap (λ ps. flat_map steps ps) (pieces-name text name parts (has_parts rest) begins)
    ∙ flat_map-append steps (text_pieces text) (Name name ∷ pieces_of parts)
    ∙ ap (λ r. r ++ (in_place entries path number name ++ flat_map steps (pieces_of parts))) (text-steps entries path number text)

-- a line without '@'
pub replaced-plain : (entries : Entries) (path : List ℕ) (number : ℕ) (text : List ℕ) → Lacks 64 text → replaced_line entries path number text ≡ puts text
unfolding replaced_line line_pieces piece_steps pieces_of
replaced-plain entries path number text lacks =
    ap (λ ps. flat_map (piece_steps entries path number) (pieces_of ps)) (slice_split_none is_sign text (all-lack 64 text lacks)) ∙ append-nil (puts text)
