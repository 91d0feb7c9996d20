-- Defines what an answer to the bytes of a machine file means.
use Rattle.std.specs.Prelude.{◌≡◌, ℕ, ◌+◌, List, [], ◌∷◌, ◌++◌, length, take, Result, Ok, Err}
use Rattle.std.specs.Str.{IsUtf8}
use Rattle.std.specs.Str.Lossy.{utf8_valid_len}
use Rattle.syntax.specs.lexer.Bytes.{newlines}
use Rattle.support.specs.declared.faults.refusal.Refusal.{Refusal}
use Rattle.support.specs.declared.faults.refusal.Refusal.TheVariants as refusals
use Rattle.std.specs.Result.{result_map_both}
use Rattle.support.specs.declared.faults.fault.Fault.{Fault}
use Rattle.support.specs.Faults.{FaultData}
use Rattle.machine_file.specs.declared.machine.Machine.{Machine}
use Rattle.machine_file.specs.Fault.{MachineFaultData, fault_of_machine_file}
use Rattle.machine_file.specs.Files.{Section, Said, nothing_said, after}
use Rattle.machine_file.specs.Reads.{AreSections, Says}
use Rattle.machine_file.specs.Lines.{file_lines}
use Rattle.machine_file.specs.View.{answer_in}

-- The line with this number is the first up to which the lines begin no machine file, for this reason.
pub record IsFirstBad (ls : List (List ℕ)) (line : ℕ) (detail : List ℕ) : Type 0 where
  -- The lines before it, the line itself, and the lines after it.
  pub before : List (List ℕ)
  pub here : List ℕ
  pub rest : List (List ℕ)
  pub parts : ls ≡ before ++ here ∷ rest
  pub number : line ≡ length before + 1
  -- The lines before it are allowed, and this is their meaning.
  pub said : Said
  pub good : Says nothing_said 0 before said
  -- The line is refused after them.
  pub why : after said line here ≡ Err detail
  -- The lines up to it are the beginning of no machine file.
  pub bad : (more : List (List ℕ)) (others : List Section) → AreSections (before ++ here ∷ more) others → ⊥

-- Returns the line of the first byte that begins no whole UTF-8 sequence.
abbrev pub utf8_line : List ℕ → ℕ
utf8_line bytes = newlines (take (utf8_valid_len bytes) bytes) + 1

-- Holds if the bytes have this fault on this line, with these details.
abbrev pub IsFault : Refusal → List ℕ → ℕ → List ℕ → Type 0
IsFault refusals.NotUtf8 bytes line detail = ¬ IsUtf8 bytes × (line ≡ utf8_line bytes) × (detail ≡ [])
IsFault refusals.MachineFile bytes line detail = IsUtf8 bytes × IsFirstBad (file_lines bytes) line detail
IsFault _ bytes line detail = ⊥

-- A reading of a machine file: its sections, or its fault.
abbrev pub MachineSaid : Type 0
MachineSaid = Result (List Section) MachineFaultData

-- Holds if this is the reading of the bytes: their lines have these sections, or this fault.
abbrev pub IsSaid : List ℕ → MachineSaid → Type 0
IsSaid bytes (Ok sections) = IsUtf8 bytes × AreSections (file_lines bytes) sections
IsSaid bytes (Err fault) = IsFault fault.refusal bytes fault.line fault.detail

-- Returns a reading with its fault as a run reports it.
abbrev pub told : MachineSaid → Result (List Section) FaultData
told said = result_map_both (λ sections. sections) fault_of_machine_file said

-- Holds if the answer is a reading of the bytes.
abbrev pub Answers : List ℕ → Result Machine Fault → Type 0
Answers bytes answer = (said : MachineSaid) × IsSaid bytes said × (answer_in answer ≡ told said)
