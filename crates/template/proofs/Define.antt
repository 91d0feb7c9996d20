-- What a line writes by how it is read.
use Rattle.std.proofs.Common.{◌≡◌, ℕ, ◌-◌, ◌<◌, ◌≤◌, true, false, ◌++◌, List, [], length, take, drop, Some, None, refl, sym, ap, ◌∙◌, arith}
use Rattle.std.specs.Prelude.{nat_lt, codes, nat_eq}
use Rattle.std.proofs.lemmas.Bool.Decides.{nat_tests}
use Rattle.std.proofs.lemmas.List.{take_rest}
use Rattle.std.specs.List.{starts_with}
use Rattle.ports.specs.Endings.{Ending, Whole, Failed}
use Rattle.ports.specs.Outputs.{OutputState, puts, Writes}
use Rattle.ports.proofs.Sending.{writes_nothing, writes_then, writes_stop}
use Rattle.template.specs.Config.{Entries, value_of}
use Rattle.template.specs.Template.{first_fault}
use Rattle.template.specs.Line.{Refusal, BadDefine, LongLine, Reading, Plain, Defines, Malformed, TooLong, is_name_byte, body_length}
use Rattle.template.specs.Line.{defined_in, definition_or_comment, line_fault, line_steps, reading_of_line, reading_of, refusal, replaced_line, steps_of}
use Rattle.template.specs.Line.{words}
use Rattle.template.specs.Scan.{IsFirstWord}
use Rattle.template.proofs.Words.{reading_defines, reading_plain}

pub name_byte_ascii : (b : ℕ) → is_name_byte b ≡ true → b < 128
name_byte_ascii b h = grind (arith, nat_tests)

not_long : (n : ℕ) → n ≤ 65536 → nat_lt 65536 n ≡ false
not_long n h = grind (arith, nat_tests)

-- what the code has found of a line
pub record IsRead (line : List ℕ) (len : ℕ) (word rest : List ℕ) : Type 0 where
  pub short : length line ≤ 65536
  pub len_is : len ≡ body_length line
  pub first : IsFirstWord (take len line) word rest

reading_short : (line : List ℕ) → length line ≤ 65536 → reading_of_line line ≡ reading_of (words (take (body_length line) line))
unfolding reading_of_line
reading_short line short = let e = not_long (length line) short in rw e refl

reading_read : (line : List ℕ) (len : ℕ) (word rest : List ℕ) → IsRead line len word rest → reading_of_line line ≡ reading_of (words (take len line))
reading_read line len word rest h = reading_short line h.short ∙ ap (λ n. reading_of (words (take n line))) (sym h.len_is)

-- the line defines, or is plain
pub read_defines : (line : List ℕ) (len : ℕ) (word rest : List ℕ) → IsRead line len word rest → true ≡ starts_with nat_eq word (codes "#mesondefine")
    → reading_of_line line ≡ defined_in word (words rest)
read_defines line len word rest h e = reading_read line len word rest h ∙ reading_defines (take len line) word rest h.first (sym e)

pub read_plain : (line : List ℕ) (len : ℕ) (word rest : List ℕ) → IsRead line len word rest → false ≡ starts_with nat_eq word (codes "#mesondefine")
    → reading_of_line line ≡ Plain
read_plain line len word rest h e = reading_read line len word rest h ∙ reading_plain (take len line) word rest h.first (sym e)

pub steps_read : (entries : Entries) (path : List ℕ) (number : ℕ) (line : List ℕ) (r : Reading) → reading_of_line line ≡ r → line_steps entries path number line ≡ steps_of entries path number line r
unfolding line_steps
steps_read entries path number line r e = ap (steps_of entries path number line) e

pub fault_read : (line : List ℕ) (r : Reading) → reading_of_line line ≡ r → line_fault line ≡ refusal r
unfolding line_fault
fault_read line r e = ap refusal e

refusal-Plain : refusal Plain ≡ None
unfolding refusal
refusal-Plain = refl

refusal-Defines : (name : List ℕ) → refusal (Defines name) ≡ None
unfolding refusal
refusal-Defines name = refl

refusal-Malformed : refusal Malformed ≡ Some BadDefine
unfolding refusal
refusal-Malformed = refl

pub refusal-TooLong : refusal TooLong ≡ Some LongLine
unfolding refusal
refusal-TooLong = refl

steps-Plain : (entries : Entries) (path : List ℕ) (number : ℕ) (line : List ℕ) → steps_of entries path number line Plain ≡ replaced_line entries path number line
unfolding steps_of
steps-Plain entries path number line = refl

steps-Defines : (entries : Entries) (path : List ℕ) (number : ℕ) (line name : List ℕ)
    → steps_of entries path number line (Defines name) ≡ definition_or_comment name (value_of entries name) ++ puts (drop (body_length line) line)
unfolding steps_of
steps-Defines entries path number line name = refl

steps-Malformed : (entries : Entries) (path : List ℕ) (number : ℕ) (line : List ℕ) → steps_of entries path number line Malformed ≡ []
unfolding steps_of
steps-Malformed entries path number line = refl

pub steps-TooLong : (entries : Entries) (path : List ℕ) (number : ℕ) (line : List ℕ) → steps_of entries path number line TooLong ≡ []
unfolding steps_of
steps-TooLong entries path number line = refl

fault_is : (number : ℕ) (line : List ℕ) (f : Refusal) → line_fault line ≡ Some f → first_fault number (line_fault line) None ≡ Some (number, f)
unfolding first_fault
fault_is number line f e = rw e

fault_not : (number : ℕ) (line : List ℕ) → line_fault line ≡ None → first_fault number (line_fault line) None ≡ None
unfolding first_fault
fault_not number line e = rw e

-- a line that is refused
pub bad_writes : (s : OutputState) (entries : Entries) (path : List ℕ) (number : ℕ) (line : List ℕ) → reading_of_line line ≡ Malformed → Writes s (line_steps entries path number line) Whole s
bad_writes s entries path number line r = rw (steps_read entries path number line Malformed r ∙ steps-Malformed entries path number line) (writes_nothing s)

pub bad_fault : (number : ℕ) (line : List ℕ) → reading_of_line line ≡ Malformed → first_fault number (line_fault line) None ≡ Some (number, BadDefine)
bad_fault number line r = fault_is number line BadDefine (fault_read line Malformed r ∙ refusal-Malformed)

-- a line that defines a name
define_run : (entries : Entries) (path : List ℕ) (number : ℕ) (line name : List ℕ) (len : ℕ) → reading_of_line line ≡ Defines name → len ≡ body_length line
    → line_steps entries path number line ≡ definition_or_comment name (value_of entries name) ++ puts (take (length line - len) (drop len line))
define_run entries path number line name len r l =
    steps_read entries path number line (Defines name) r ∙ steps-Defines entries path number line name
    ∙ ap (λ k. definition_or_comment name (value_of entries name) ++ puts (drop k line)) (sym l)
    ∙ ap (λ b. definition_or_comment name (value_of entries name) ++ puts b) (sym (take_rest line len))

pub define_writes : {old mid new : OutputState} {e : Ending} (entries : Entries) (path : List ℕ) (number : ℕ) (line name : List ℕ) (len : ℕ) → reading_of_line line ≡ Defines name → len ≡ body_length line
    → Writes old (definition_or_comment name (value_of entries name)) Whole mid → Writes mid (puts (take (length line - len) (drop len line))) e new → Writes old (line_steps entries path number line) e new
define_writes entries path number line name len r l s t = rw (define_run entries path number line name len r l) (writes_then s t)

pub define_stop : {old new : OutputState} (entries : Entries) (path : List ℕ) (number : ℕ) (line name : List ℕ) (len : ℕ) → reading_of_line line ≡ Defines name → len ≡ body_length line
    → Writes old (definition_or_comment name (value_of entries name)) Failed new → Writes old (line_steps entries path number line) Failed new
define_stop entries path number line name len r l s = rw (define_run entries path number line name len r l) (writes_stop _ s)

pub define_fault : (number : ℕ) (line name : List ℕ) → reading_of_line line ≡ Defines name → first_fault number (line_fault line) None ≡ None
define_fault number line name r = fault_not number line (fault_read line (Defines name) r ∙ refusal-Defines name)

-- a line of text
pub plain_writes : {old new : OutputState} {e : Ending} (entries : Entries) (path : List ℕ) (number : ℕ) (line : List ℕ) → reading_of_line line ≡ Plain
    → Writes old (replaced_line entries path number line) e new → Writes old (line_steps entries path number line) e new
plain_writes entries path number line r s = rw (steps_read entries path number line Plain r ∙ steps-Plain entries path number line) s

pub plain_fault : (number : ℕ) (line : List ℕ) → reading_of_line line ≡ Plain → first_fault number (line_fault line) None ≡ None
plain_fault number line r = fault_not number line (fault_read line Plain r ∙ refusal-Plain)
