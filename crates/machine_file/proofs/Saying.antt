-- What bytes say: one thing, and no other.
use Rattle.std.proofs.Common.{◌≡◌, ℕ, Bool, true, false, List, [], Result, Ok, Err, IfOk, refl, sym, ap, ◌∙◌, subst}
use Rattle.std.specs.Str.{IsUtf8, is_utf8}
use Rattle.std.specs.declared.alloc.AllocError.{AllocError}
use Rattle.std.proofs.lemmas.Str.{IsUtf8-from_is_utf8, is_utf8-from_IsUtf8}
use Rattle.std.proofs.lemmas.Bool.{false≢true}
use Rattle.support.specs.declared.faults.refusal.Refusal.{Refusal}
use Rattle.support.specs.declared.faults.refusal.Refusal.TheVariants as refusals
use Rattle.machine_file.specs.Answers.{IsFault, IsSaid, MachineSaid, utf8_line}
use Rattle.machine_file.specs.Files.{machine_of}
use Rattle.machine_file.specs.Lines.{file_lines}
use Rattle.machine_file.specs.View.{read_in}
use Rattle.machine_file.specs.declared.fault.MachineFault.{MachineFault}
use Rattle.machine_file.specs.declared.machine.Machine.{Machine}
use Rattle.machine_file.proofs.FirstBad.{bad_read, first_bad}
use Rattle.machine_file.proofs.SaysLemmas.{machine_complete, machine_sound}

abbrev faulty : Refusal → ℕ → List ℕ → MachineSaid
faulty refusal line detail = Err (record { refusal = refusal; line = line; detail = detail })

-- what bytes say that are UTF-8, or not
abbrev said_if : List ℕ → Bool → MachineSaid
said_if bytes true = machine_of (file_lines bytes)
said_if bytes false = faulty refusals.NotUtf8 (utf8_line bytes) []

-- ---- that is said

lines_say : (bytes : List ℕ) → IsUtf8 bytes → (r : MachineSaid) → machine_of (file_lines bytes) ≡ r → IsSaid bytes r
lines_say bytes utf8 (Ok sections) e = (utf8, machine_sound (file_lines bytes) sections e)
lines_say bytes utf8 (Err fault) e =
    let w = first_bad (file_lines bytes) fault e in
    subst (λ q. IsFault q bytes fault.line fault.detail) (sym w.0) (utf8, w.1)

pub text_says : (bytes : List ℕ) → IsUtf8 bytes → IsSaid bytes (machine_of (file_lines bytes))
text_says bytes utf8 = lines_say bytes utf8 (machine_of (file_lines bytes)) refl

bytes_say : (bytes : List ℕ) (b : Bool) → is_utf8 bytes ≡ b → IsSaid bytes (said_if bytes b)
bytes_say bytes true e = text_says bytes (IsUtf8-from_is_utf8 bytes e)
bytes_say bytes false e = ((λ u. false≢true (sym e ∙ is_utf8-from_IsUtf8 bytes u)), refl, refl)

pub some_said : (bytes : List ℕ) → (said : MachineSaid) × IsSaid bytes said
some_said bytes = (said_if bytes (is_utf8 bytes), bytes_say bytes (is_utf8 bytes) refl)

-- ---- and nothing else

text_fault : (bytes : List ℕ) (q : Refusal) (line : ℕ) (detail : List ℕ) → IsUtf8 bytes → IsFault q bytes line detail
    → faulty q line detail ≡ machine_of (file_lines bytes)
text_fault bytes refusals.NotUtf8 line detail utf8 f = absurd (f.0 utf8)
text_fault bytes refusals.MachineFile line detail utf8 f = sym (bad_read (file_lines bytes) line detail f.1)
text_fault bytes q line detail utf8 f = absurd f

text_said : (bytes : List ℕ) (said : MachineSaid) → IsUtf8 bytes → IsSaid bytes said → said ≡ machine_of (file_lines bytes)
text_said bytes (Ok sections) utf8 s = sym (machine_complete (file_lines bytes) sections s.1)
text_said bytes (Err f) utf8 s = text_fault bytes f.refusal f.line f.detail utf8 s

no_text_fault : (bytes : List ℕ) (q : Refusal) (line : ℕ) (detail : List ℕ) → ¬ IsUtf8 bytes → IsFault q bytes line detail
    → faulty q line detail ≡ said_if bytes false
no_text_fault bytes refusals.NotUtf8 line detail n f =
    ap (λ (l : ℕ). faulty refusals.NotUtf8 l detail) f.1 ∙ ap (faulty refusals.NotUtf8 (utf8_line bytes)) f.2
no_text_fault bytes refusals.MachineFile line detail n f = absurd (n f.0)
no_text_fault bytes q line detail n f = absurd f

no_text_said : (bytes : List ℕ) (said : MachineSaid) → ¬ IsUtf8 bytes → IsSaid bytes said → said ≡ said_if bytes false
no_text_said bytes (Ok sections) n s = absurd (n s.0)
no_text_said bytes (Err f) n s = no_text_fault bytes f.refusal f.line f.detail n s

said_so : (bytes : List ℕ) (said : MachineSaid) (b : Bool) → is_utf8 bytes ≡ b → IsSaid bytes said → said ≡ said_if bytes b
said_so bytes said true e s = text_said bytes said (IsUtf8-from_is_utf8 bytes e) s
said_so bytes said false e s = no_text_said bytes said (λ u. false≢true (sym e ∙ is_utf8-from_IsUtf8 bytes u)) s

pub same_said : (bytes : List ℕ) (said other : MachineSaid) → IsSaid bytes said → IsSaid bytes other → said ≡ other
same_said bytes said other p q = said_so bytes said (is_utf8 bytes) refl p ∙ sym (said_so bytes other (is_utf8 bytes) refl q)

-- ---- what is answered to a text

abbrev Answer : Type 0
Answer = Result (Result Machine MachineFault) AllocError

pub read_answers : (bytes text : List ℕ) (r : Answer) → (text ≡ bytes) × IsUtf8 bytes
    → IfOk r (λ read. read_in read ≡ machine_of (file_lines text)) → IfOk r (λ read. IsSaid bytes (read_in read))
read_answers bytes text (Ok read) is e =
    subst (IsSaid bytes) (sym (e ∙ ap (λ b. machine_of (file_lines b)) is.0)) (text_says bytes is.1)
read_answers bytes text (Err none) is e = tt

pub read_only : (bytes text : List ℕ) (r : Answer) → (text ≡ bytes) × IsUtf8 bytes
    → IfOk r (λ read. read_in read ≡ machine_of (file_lines text))
    → (said : MachineSaid) → IsSaid bytes said → IfOk r (λ read. read_in read ≡ said)
read_only bytes text (Ok read) is e said s = e ∙ ap (λ b. machine_of (file_lines b)) is.0 ∙ sym (text_said bytes said is.1 s)
read_only bytes text (Err none) is e said s = tt
