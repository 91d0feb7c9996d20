-- How the search for '@' follows the definition, which cuts a line into pieces.
use Rattle.std.proofs.Common.{◌≡◌, ℕ, zero, suc, ◌+◌, ◌-◌, ◌/◌, ◌%◌, ◌<◌, ◌≤◌, true, cond, ◌==◌, List, [], ◌∷◌, ◌++◌}
use Rattle.std.proofs.Common.{length, take, drop, get_or, refl, sym, ap, ◌∙◌, arith, ⊎_elim, eqb-true}
use Rattle.std.proofs.Common.{subst, inl, inr, ◌⊎◌, Some, None, codes}
use Rattle.std.proofs.lemmas.Bool.{lt-ltb, cases_Bool, cases_lt}
use Rattle.std.proofs.lemmas.List.{length-take, length-take-le, drop_more, take-append-drop, take-take}
use Rattle.std.specs.Prelude.{nat_lt, slice_index, if◌then◌else◌}
use Rattle.std.specs.List.{prefix_len, AllPass}
use Rattle.ports.specs.Endings.{Ending, Whole, Failed}
use Rattle.ports.specs.Outputs.{OutputState, Step, puts, Writes}
use Rattle.ports.proofs.Going.{Going, going_on, going_stop, going_last, going_as}
use Rattle.std.proofs.lemmas.List.{take_rest, drop-drop, length-drop}
use Rattle.template.specs.Config.{Entries}
use Rattle.memchr.specs.Find.{IsFirstByte, is_byte}
use Rattle.std.proofs.Math.Seq.{take-length}
use Rattle.std.proofs.lemmas.List.{get_or-take, get_or_past}
use Rattle.std.proofs.lemmas.List.Sums.{prefix_len_passes}
use Rattle.template.specs.Template.{Lacks}
use Rattle.template.specs.Line.{is_name_byte, ending_backslashes, in_place, replaced_line}
use Rattle.template.specs.Scan.{name_length, sign_steps, IsSign, IsPlain}
use Rattle.template.proofs.Pieces.{ending-le, false_of, replaced-named, replaced-odd, replaced-plain, replaced-unnamed, slashes_at, slashes_at-is}

pub lacks-take : (a : ℕ) (hay : List ℕ) (k : ℕ) → ((j : ℕ) → 0 ≤ j → j < k → ¬ ((slice_index hay j == a) ≡ true)) → Lacks a (take k hay)
lacks-take a hay zero h = tt
lacks-take a [] (suc k) h = tt
lacks-take a (b ∷ hay) (suc k) h = (
  false_of (b == a) (h 0 (omega arith) (omega arith)),
  lacks-take a hay k (λ j low high. h (suc j) (omega arith) (omega arith)),
)

pub slashes_at-drop : (slashes : ℕ) (xs : List ℕ) (n : ℕ) → n < length xs → slashes_at slashes (drop n xs) ≡ cond (get_or xs n 0 == 92) (slashes_at (slashes + 1) (drop (n + 1) xs)) (slashes_at 0 (drop (n + 1) xs))
unfolding slashes_at
slashes_at-drop slashes xs n h = ap (slashes_at slashes) (drop_more xs n 0 h)

pub slashes_at-le : (text : List ℕ) → slashes_at 0 text ≤ length text
slashes_at-le text = omega (arith, slashes_at-is text, ending-le text)

sign_steps-name : (entries : Entries) (path : List ℕ) (number name : ℕ) (bytes : List ℕ) → 0 < name
    → sign_steps entries path number name bytes ≡ in_place entries path number (take name bytes) ++ replaced_line entries path number (drop (name + 1) bytes)
unfolding sign_steps
sign_steps-name entries path number name bytes h = let f : nat_lt 0 name ≡ true = lt-ltb 0 name h in rw f

sign_steps-alone : (entries : Entries) (path : List ℕ) (number name : ℕ) (bytes : List ℕ) → name ≤ 0
    → sign_steps entries path number name bytes ≡ puts (codes "@") ++ replaced_line entries path number bytes
unfolding sign_steps
sign_steps-alone entries path number zero bytes h = refl
sign_steps-alone entries path number (suc name) bytes h = absurd (omega arith)

drop_on : (from n : ℕ) (line : List ℕ) → drop n (drop from line) ≡ drop (from + n) line
drop_on from n line = drop-drop n from line ∙ ap (λ k. drop k line) (omega arith)

sign_going : {old mid : OutputState} {run : List Step} (entries : Entries) (path : List ℕ) (number : ℕ) (line : List ℕ) (from text at name : ℕ)
    → Going old mid run (replaced_line entries path number (drop from line)) → IsSign (take (length line - from) (drop from line)) text at name
    → Going old mid run (puts (take (from + text - from) (drop from line)) ++ sign_steps entries path number name (drop (from + (at + 1)) line))
sign_going entries path number line from text at name h s =
    let s' = rw take_rest at s in
    going_as h (s'.steps entries path number
    ∙ ap (λ r. puts (take text (drop from line)) ++ sign_steps entries path number name r) (drop_on from (at + 1) line)
    ∙ ap (λ n. puts (take n (drop from line)) ++ sign_steps entries path number name (drop (from + (at + 1)) line)) (let e : text ≡ from + text - from = omega arith in e))

pub sign_text : {old mid new : OutputState} {run : List Step} (entries : Entries) (path : List ℕ) (number : ℕ) (line : List ℕ) (from text at name : ℕ)
    → Going old mid run (replaced_line entries path number (drop from line)) → IsSign (take (length line - from) (drop from line)) text at name
    → Writes mid (puts (take (from + text - from) (drop from line))) Whole new → Going old new run (sign_steps entries path number name (drop (from + (at + 1)) line))
sign_text entries path number line from text at name h s t = going_on (sign_going entries path number line from text at name h s) t

pub sign_text_stop : {old mid new : OutputState} {run : List Step} (entries : Entries) (path : List ℕ) (number : ℕ) (line : List ℕ) (from text at name : ℕ)
    → Going old mid run (replaced_line entries path number (drop from line)) → IsSign (take (length line - from) (drop from line)) text at name
    → Writes mid (puts (take (from + text - from) (drop from line))) Failed new → Writes old run Failed new
sign_text_stop entries path number line from text at name h s t = going_stop _ (sign_going entries path number line from text at name h s) t

name_going : {old mid : OutputState} {run : List Step} (entries : Entries) (path : List ℕ) (number : ℕ) (line : List ℕ) (i name : ℕ)
    → Going old mid run (sign_steps entries path number name (drop i line)) → 0 < name
    → Going old mid run (in_place entries path number (take (i + name - i) (drop i line)) ++ replaced_line entries path number (drop (i + (name + 1)) line))
name_going entries path number line i name h some =
    going_as h (sign_steps-name entries path number name (drop i line) some
    ∙ ap (λ r. in_place entries path number (take name (drop i line)) ++ replaced_line entries path number r) (drop_on i (name + 1) line)
    ∙ ap (λ n. in_place entries path number (take n (drop i line)) ++ replaced_line entries path number (drop (i + (name + 1)) line)) (let e : name ≡ i + name - i = omega arith in e))

pub name_on : {old mid new : OutputState} {run : List Step} (entries : Entries) (path : List ℕ) (number : ℕ) (line : List ℕ) (i name : ℕ)
    → Going old mid run (sign_steps entries path number name (drop i line)) → 0 < name → Writes mid (in_place entries path number (take (i + name - i) (drop i line))) Whole new
    → Going old new run (replaced_line entries path number (drop (i + (name + 1)) line))
name_on entries path number line i name h some t = going_on (name_going entries path number line i name h some) t

pub name_stop : {old mid new : OutputState} {run : List Step} (entries : Entries) (path : List ℕ) (number : ℕ) (line : List ℕ) (i name : ℕ)
    → Going old mid run (sign_steps entries path number name (drop i line)) → 0 < name → Writes mid (in_place entries path number (take (i + name - i) (drop i line))) Failed new
    → Writes old run Failed new
name_stop entries path number line i name h some t = going_stop _ (name_going entries path number line i name h some) t

pub alone_going : {old mid : OutputState} {run : List Step} (entries : Entries) (path : List ℕ) (number name : ℕ) (bytes : List ℕ)
    → Going old mid run (sign_steps entries path number name bytes) → name ≤ 0 → Going old mid run (puts (codes "@") ++ replaced_line entries path number bytes)
alone_going entries path number name bytes h none = going_as h (sign_steps-alone entries path number name bytes none)

pub plain_last : {old mid new : OutputState} {run : List Step} (entries : Entries) (path : List ℕ) (number : ℕ) (line : List ℕ) (from : ℕ) {e : Ending}
    → Going old mid run (replaced_line entries path number (drop from line)) → IsPlain (take (length line - from) (drop from line))
    → Writes mid (puts (take (length line - from) (drop from line))) e new → Writes old run e new
plain_last entries path number line from h p t =
    let p' = rw take_rest at p in
    let t' = rw take_rest at t in
    going_last (going_as h (p'.steps entries path number)) t'

sign_len : (line : List ℕ) (from text at name : ℕ) → from ≤ length line → IsSign (take (length line - from) (drop from line)) text at name
    → (from + (at + 1) ≤ length line) × (0 < name → from + (at + 1) + (name + 1) ≤ length line)
sign_len line from text at name le s =
    let s' = rw take_rest at s in
    let n : length (drop from line) ≡ length line - from = length-drop from line in
    let a = s'.at_in_range in
    (omega (arith, n, a), λ some. let b = s'.name_in_range some in omega (arith, n, b))

pub sign_at : (line : List ℕ) (from text at name : ℕ) → from ≤ length line → IsSign (take (length line - from) (drop from line)) text at name → from + (at + 1) ≤ length line
sign_at line from text at name le s = (sign_len line from text at name le s).0

pub sign_name : (line : List ℕ) (from text at name : ℕ) → from ≤ length line → IsSign (take (length line - from) (drop from line)) text at name → 0 < name → from + (at + 1) + (name + 1) ≤ length line
sign_name line from text at name le s = (sign_len line from text at name le s).1

pub sign_named : (line : List ℕ) (from text at name : ℕ) → IsSign (take (length line - from) (drop from line)) text at name
    → AllPass is_name_byte (take (from + (at + 1) + name - (from + (at + 1))) (drop (from + (at + 1)) line))
sign_named line from text at name s =
    let s' = rw take_rest at s in
    let e : name ≡ from + (at + 1) + name - (from + (at + 1)) = omega arith in
    subst (λ n. AllPass is_name_byte (take n (drop (from + (at + 1)) line))) e (subst (λ r. AllPass is_name_byte (take name r)) (drop_on from (at + 1) line) s'.named)

-- none of these bytes is found
pub lacks_all : (a : ℕ) (bytes : List ℕ) → IsFirstByte (is_byte a) bytes None → Lacks a bytes
lacks_all a bytes first = subst (Lacks a) (take-length bytes) (lacks-take a bytes (length bytes) (λ j low lt. first j low lt))

pub plain_of : (rest : List ℕ) → IsFirstByte (is_byte 64) rest None → IsPlain rest
plain_of rest first = record { steps = λ entries path number. replaced-plain entries path number rest (lacks_all 64 rest first) }

name_cases : (bytes : List ℕ) → ((name_length bytes ≡ prefix_len is_name_byte bytes) × (get_or bytes (prefix_len is_name_byte bytes) 0 ≡ 64)) ⊎ (name_length bytes ≡ 0)
unfolding name_length
name_cases bytes =
    ⊎_elim
    (λ e. inl (rw e refl, eqb-true (get_or bytes (prefix_len is_name_byte bytes) 0) 64 e))
    (λ e. inr (rw e refl))
    (cases_Bool (get_or bytes (prefix_len is_name_byte bytes) 0 == 64))

pub name_passes : (bytes : List ℕ) (n : ℕ) → n ≤ prefix_len is_name_byte bytes → AllPass is_name_byte (take n bytes)
name_passes bytes n le = λ k d lt.
    let lt' : k < n = omega (arith, length-take n bytes) in
    ap is_name_byte (get_or-take n bytes k d lt') ∙ prefix_len_passes is_name_byte bytes k d (omega arith)

name_named : (bytes : List ℕ) → AllPass is_name_byte (take (name_length bytes) bytes)
name_named bytes = ⊎_elim (λ e. name_passes bytes (name_length bytes) (let f = e.0 in omega arith)) (λ e. name_passes bytes (name_length bytes) (omega arith)) (name_cases bytes)

short_of : (a b : ℕ) → (b ≤ a → ⊥) → a < b
short_of a b h = omega arith

name_short : (bytes : List ℕ) → 0 < name_length bytes → name_length bytes < length bytes
name_short bytes some =
    ⊎_elim
    (λ e. let f = e.0 in short_of (name_length bytes) (length bytes) (λ le. let z = get_or_past bytes (name_length bytes) 0 le in let h = ap (λ k. get_or bytes k 0) f ∙ e.1 in omega arith))
    (λ e. absurd (omega arith))
    (name_cases bytes)

name_ends : (bytes : List ℕ) → 0 < name_length bytes → get_or bytes (name_length bytes) 0 ≡ 64
name_ends bytes some = ⊎_elim (λ e. ap (λ k. get_or bytes k 0) e.0 ∙ e.1) (λ e. absurd (omega arith)) (name_cases bytes)

-- a line is what precedes its first '@', the '@', and what follows it
cut_at : (rest : List ℕ) (at : ℕ) → IsFirstByte (is_byte 64) rest (Some at) → rest ≡ take at rest ++ 64 ∷ drop (at + 1) rest
cut_at rest at first =
    sym (take-append-drop at rest) ∙ ap (λ r. take at rest ++ r) (drop_more rest at 0 first.0.high)
    ∙ ap (λ x. take at rest ++ x ∷ drop (at + 1) rest) (eqb-true (get_or rest at 0) 64 first.1)

lacks_at : (rest : List ℕ) (at : ℕ) → IsFirstByte (is_byte 64) rest (Some at) → Lacks 64 (take at rest)
lacks_at rest at first = lacks-take 64 rest at (λ j low lt. first.0.before j low lt)

-- what is written before it
before_is : (rest : List ℕ) (at s : ℕ) → at < length rest → s ≡ ending_backslashes (take at rest)
    → take (length (take at rest) - (ending_backslashes (take at rest) - ending_backslashes (take at rest) / 2)) (take at rest) ≡ take (at - (s - s / 2)) rest
before_is rest at s lt is =
    let len : length (take at rest) ≡ at = length-take-le at rest (omega arith) in
    let n = ending_backslashes (take at rest) in
    let count : length (take at rest) - (n - n / 2) ≡ at - (s - s / 2) = omega (arith, len, is) in
    ap (λ m. take m (take at rest)) count ∙ take-take (at - (s - s / 2)) at rest (omega arith)

sign_alone : (rest : List ℕ) (at s : ℕ) → IsFirstByte (is_byte 64) rest (Some at) → s ≡ ending_backslashes (take at rest)
    → (s % 2 ≡ 0 → ⊥) ⊎ (name_length (drop (at + 1) rest) ≡ 0) → (entries : Entries) (path : List ℕ) (number : ℕ)
    → replaced_line entries path number rest ≡ puts (take (at - (s - s / 2)) rest) ++ sign_steps entries path number 0 (drop (at + 1) rest)
sign_alone rest at s first is alone entries path number =
    let bytes = drop (at + 1) rest in
    let lacks = lacks_at rest at first in
    let text = take at rest in
    ap (λ r. replaced_line entries path number r) (cut_at rest at first)
    ∙ ⊎_elim
    (λ odd. replaced-odd entries path number text bytes lacks (λ e. odd (ap (λ k. k % 2) is ∙ e)))
    (λ none. replaced-unnamed entries path number text bytes lacks none)
    alone
    ∙ ap (λ b. puts b ++ (puts (codes "@") ++ replaced_line entries path number bytes)) (before_is rest at s first.0.high is)
    ∙ ap (λ r. puts (take (at - (s - s / 2)) rest) ++ r) (sym (sign_steps-alone entries path number 0 bytes (omega arith)))

sign_name_steps : (rest : List ℕ) (at s : ℕ) → IsFirstByte (is_byte 64) rest (Some at) → s ≡ ending_backslashes (take at rest) → s % 2 ≡ 0
    → 0 < name_length (drop (at + 1) rest) → (entries : Entries) (path : List ℕ) (number : ℕ)
    → replaced_line entries path number rest
    ≡ puts (take (at - (s - s / 2)) rest) ++ sign_steps entries path number (name_length (drop (at + 1) rest)) (drop (at + 1) rest)
sign_name_steps rest at s first is even some entries path number =
    let bytes = drop (at + 1) rest in
    let text = take at rest in
    let n = name_length bytes in
    let name = take n bytes in
    let later = drop (n + 1) bytes in
    let short : n < length bytes = name_short bytes some in
    let len : length name ≡ n = length-take-le n bytes (omega arith) in
    let named : bytes ≡ name ++ 64 ∷ later =
    sym (take-append-drop n bytes) ∙ ap (λ r. name ++ r) (drop_more bytes n 0 short) ∙ ap (λ x. name ++ x ∷ later) (name_ends bytes some) in
    ap (λ r. replaced_line entries path number r) (cut_at rest at first ∙ ap (λ b. text ++ 64 ∷ b) named)
    ∙ replaced-named entries path number text name later (lacks_at rest at first) (ap (λ k. k % 2) (sym is) ∙ even) (omega (arith, len, some)) (name_named bytes)
    ∙ ap (λ b. puts b ++ (in_place entries path number name ++ replaced_line entries path number later)) (before_is rest at s first.0.high is)
    ∙ ap (λ r. puts (take (at - (s - s / 2)) rest) ++ r) (sym (sign_steps-name entries path number n bytes some))

pub sign_even : (rest : List ℕ) (at s name : ℕ) → IsFirstByte (is_byte 64) rest (Some at) → s ≡ ending_backslashes (take at rest) → s % 2 ≡ 0
    → name ≡ name_length (take (length rest - (at + 1)) (drop (at + 1) rest)) → IsSign rest (at - (s - s / 2)) at name
sign_even rest at s name first is even name_is =
    let bytes = drop (at + 1) rest in
    let n : name ≡ name_length bytes = rw take_rest at name_is in
    let blen : length bytes ≡ length rest - (at + 1) = length-drop (at + 1) rest in
    record {
      text_in_range = omega arith;
      at_in_range = first.0.high;
      name_in_range = λ some. let h : name_length bytes < length bytes = name_short bytes (omega arith) in omega arith;
      named = subst (λ k. AllPass is_name_byte (take k bytes)) (sym n) (name_named bytes);
      steps = λ entries path number.
          ⊎_elim
          (λ some. sign_name_steps rest at s first is even some entries path number)
          (λ none.
          let zero_long : name_length bytes ≡ 0 = omega arith in
          sign_alone rest at s first is (inr zero_long) entries path number
          ∙ ap (λ k. puts (take (at - (s - s / 2)) rest) ++ sign_steps entries path number k bytes) (sym zero_long))
          (cases_lt 0 (name_length bytes))
          ∙ ap (λ k. puts (take (at - (s - s / 2)) rest) ++ sign_steps entries path number k bytes) (sym n);
    }

pub sign_odd : (rest : List ℕ) (at s : ℕ) → IsFirstByte (is_byte 64) rest (Some at) → s ≡ ending_backslashes (take at rest) → (s % 2 ≡ 0 → ⊥) → IsSign rest (at - (s - s / 2)) at 0
sign_odd rest at s first is odd = record {
  text_in_range = omega arith;
  at_in_range = first.0.high;
  name_in_range = λ some. absurd (omega arith);
  named = λ k d lt. absurd (omega arith);
  steps = λ entries path number. sign_alone rest at s first is (inl odd) entries path number;
}
