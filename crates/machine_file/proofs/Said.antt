-- What the lines so far say, in the code's own types and as plain data.
use Rattle.std.proofs.Common.{◌≡◌, ℕ, ◌+◌, ◌<◌, ◌≤◌, false, List, [], ◌∷◌, length, drop, get_or, Some, Result}
use Rattle.std.proofs.Common.{Ok, Err, String, string_bytes, refl, sym, ap, ◌∙◌, is_some, arith, add-one, length-drop, map}
use Rattle.std.specs.Result.{result_map_both}
use Rattle.std.specs.declared.alloc.Global.{Global}
use Rattle.std.specs.Map.{lookup}
use Rattle.std.specs.Str.{bytes_eq}
use Rattle.std.proofs.lemmas.List.{drop-map, length-map}
use Rattle.std.proofs.Math.Seq.{drop-cons}
use Rattle.machine_file.specs.declared.machine.Section.{Section}
use Rattle.machine_file.specs.declared.state.OpenSection.{OpenSection}
use Rattle.machine_file.specs.Files as file
use Rattle.machine_file.specs.Fault.{MachineFaultData, bad_line}
use Rattle.machine_file.specs.Files.{Said, has_name, sections_said, after}
use Rattle.machine_file.specs.Files.{continue_with, said_from, machine_of, nothing_said}
use Rattle.machine_file.specs.declared.text.Blanks.TheVariants as blanks
use Rattle.machine_file.specs.Texts.{trimmed_text}
use Rattle.machine_file.specs.View.{sections_in}
use Rattle.machine_file.proofs.Entries.{has_name_lookup}

pub fresh_new : (ended : List (String Global × Section)) (o x : OpenSection) (name : List ℕ) → Some o ≡ Some x → string_bytes o.name ≡ name
    → has_name name (sections_in ended) ≡ false → is_some (lookup (λ k. bytes_eq (string_bytes x.name) (string_bytes k)) ended) ≡ false
fresh_new ended o x name e n f =
    let same : o ≡ x = cc in
    has_name_lookup (string_bytes x.name) ended ∙ ap (λ (w : OpenSection). has_name (string_bytes w.name) (sections_in ended)) (sym same)
    ∙ ap (λ (b : List ℕ). has_name b (sections_in ended)) n ∙ f

-- ---- line by line

line_at : (ls : List (List ℕ)) (n : ℕ) (d : List ℕ) → n < length ls → drop n ls ≡ get_or ls n d ∷ drop (n + 1) ls
line_at ls n d l = drop-cons ls n d l ∙ ap (λ (m : ℕ). get_or ls n d ∷ drop m ls) (sym (add-one n))

abbrev clean : List ℕ → List ℕ
clean line = trimmed_text blanks.All line

clean_at : (ls : List (List ℕ)) (n : ℕ) (l : List ℕ) → (n < length ls) × (l ≡ get_or ls n l)
    → drop n (map clean ls) ≡ clean l ∷ drop (n + 1) (map clean ls)
clean_at ls n l (lt, e) =
    drop-map clean n ls ∙ ap (map clean) (line_at ls n l lt) ∙ ap (λ (x : List ℕ). clean x ∷ map clean (drop (n + 1) ls)) (sym e)
    ∙ ap (λ (xs : List (List ℕ)). clean l ∷ xs) (sym (drop-map clean (n + 1) ls))

-- one line of those that are left
pub line_said : (ls : List (List ℕ)) (n : ℕ) (l : List ℕ) (s : Said) (r : Result Said MachineFaultData) → said_from (drop n (map clean ls)) n s ≡ r
    → (n < length ls) × (l ≡ get_or ls n l)
    → continue_with (said_from (drop (n + 1) (map clean ls)) (n + 1)) (n + 1) (after s (n + 1) (clean l)) ≡ r
unfolding said_from
line_said ls n l s r h at =
    ap (λ (m : ℕ). continue_with (said_from (drop (n + 1) (map clean ls)) m) m (after s m (clean l))) (add-one n)
    ∙ sym (ap (λ (xs : List (List ℕ)). said_from xs n s) (clean_at ls n l at)) ∙ h

nothing_left : (ls : List (List ℕ)) (n : ℕ) (s : Said) → length ls ≤ n → said_from (drop n (map clean ls)) n s ≡ Ok s
unfolding said_from
nothing_left ls n s l = by (drop n (map clean ls)) (omega (arith, length-drop n (map clean ls), length-map ls clean))
  where
    by : (xs : List (List ℕ)) → length xs ≡ 0 → said_from xs n s ≡ Ok s
    by [] e = refl
    by (x ∷ xs) e = absurd (omega arith)

abbrev all : Result Said MachineFaultData → Result (List file.Section) MachineFaultData
all r = result_map_both sections_said (λ fault. fault) r

pub line_refused : (ls : List (List ℕ)) (n : ℕ) (l : List ℕ) (s : Said) (detail : List ℕ)
    → said_from (drop n (map clean ls)) n s ≡ said_from (map clean ls) 0 nothing_said
    → (n < length ls) × (l ≡ get_or ls n l) → Err detail ≡ after s (n + 1) (clean l)
    → Err (bad_line (n + 1) detail) ≡ machine_of (map clean ls)
unfolding machine_of
line_refused ls n l s detail h at none =
    ap all (ap (continue_with (said_from (drop (n + 1) (map clean ls)) (n + 1)) (n + 1)) none
    ∙ line_said ls n l s (said_from (map clean ls) 0 nothing_said) h at)

pub line_taken : (ls : List (List ℕ)) (n : ℕ) (l : List ℕ) (s t : Said)
    → said_from (drop n (map clean ls)) n s ≡ said_from (map clean ls) 0 nothing_said
    → (n < length ls) × (l ≡ get_or ls n l) → Ok t ≡ after s (n + 1) (clean l)
    → said_from (drop (n + 1) (map clean ls)) (n + 1) t ≡ said_from (map clean ls) 0 nothing_said
line_taken ls n l s t h at some =
    ap (continue_with (said_from (drop (n + 1) (map clean ls)) (n + 1)) (n + 1)) some
    ∙ line_said ls n l s (said_from (map clean ls) 0 nothing_said) h at

pub lines_end : (ls : List (List ℕ)) (n : ℕ) (s : Said) (sections : List file.Section)
    → said_from (drop n (map clean ls)) n s ≡ said_from (map clean ls) 0 nothing_said
    → length ls ≤ n → sections ≡ sections_said s → Ok sections ≡ machine_of (map clean ls)
unfolding machine_of
lines_end ls n s sections h l e =
    ap (λ (ss : List file.Section). Ok ss) e ∙ ap all (sym (nothing_left ls n s l) ∙ h)
