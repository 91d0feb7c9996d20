-- Defines what a whole template writes.
use Prim.Native.Char.{code}
use Rattle.std.specs.Prelude.{◌≡◌, ℕ, ◌+◌, false, ◌==◌, List, [], ◌∷◌, ◌++◌, Option, Some, None, Result, Ok, Err, is_some, ◌⊎◌}
use Rattle.std.specs.Prelude.{if◌then◌else◌}
use Rattle.ports.specs.Endings.{Ending, Whole, Failed}
use Rattle.ports.specs.Outputs.{Step}
use Rattle.template.specs.Config.{Entries}
use Rattle.template.specs.declared.stop.PassStop.{PassStop}
use Rattle.template.specs.declared.stop.PassStop.TheVariants.{Template, Limit, Device}
use Rattle.template.specs.Line.{Refusal, BadDefine, LongLine, line_fault, line_steps}

-- Puts a byte before the first line.
unfoldable pub onto : ℕ → List (List ℕ) → List (List ℕ)
onto b [] = (b ∷ []) ∷ []
onto b (line ∷ lines) = (b ∷ line) ∷ lines

-- Returns a template cut after each newline.
unfoldable pub lines_of : List ℕ → List (List ℕ)
lines_of [] = []
lines_of (b ∷ bytes) = if b == code "\n" then (b ∷ []) ∷ lines_of bytes else onto b (lines_of bytes)

-- Returns the steps that lines write, up to the first fault. `number` is that of the first line.
unfoldable pub steps_from : Entries → List ℕ → ℕ → List (List ℕ) → List Step
steps_from entries path number [] = []
steps_from entries path number (line ∷ lines) =
    line_steps entries path number line ++ (if is_some (line_fault line) then [] else steps_from entries path (number + 1) lines)

-- Returns the fault of the line with this number if it has one, and otherwise the first fault of the later lines, if they have one.
unfoldable pub first_fault : ℕ → Option Refusal → Option (ℕ × Refusal) → Option (ℕ × Refusal)
first_fault number (Some fault) later = Some (number, fault)
first_fault number None later = later

-- Returns the number of the first line with a fault, and the fault. `number` is that of the first line.
unfoldable pub fault_from : ℕ → List (List ℕ) → Option (ℕ × Refusal)
fault_from number [] = None
fault_from number (line ∷ lines) = first_fault number (line_fault line) (fault_from (number + 1) lines)

-- Returns the steps that a template with this path writes with these entries, up to the first fault.
abbrev pub template_steps : Entries → List ℕ → List ℕ → List Step
template_steps entries path bytes = steps_from entries path 1 (lines_of bytes)

-- Returns the line and the number of a template's fault, if it has one.
abbrev pub template_fault : List ℕ → Option (ℕ × Refusal)
template_fault bytes = fault_from 1 (lines_of bytes)

-- Returns how a pass ended. After a template's fault its whole run was taken.
abbrev pub ending_of : {T : Type 0} → Result T PassStop → Ending
ending_of (Ok x) = Whole
ending_of (Err (Template line)) = Whole
ending_of (Err (Limit line)) = Whole
ending_of (Err Device) = Failed

-- Holds if the result is that of the first fault, or of a device.
abbrev pub Agrees : {T : Type 0} → Result T PassStop → Option (ℕ × Refusal) → Type 0
Agrees (Ok x) found = found ≡ None
Agrees (Err (Template line)) found = found ≡ Some (line, BadDefine)
Agrees (Err (Limit line)) found = found ≡ Some (line, LongLine)
Agrees (Err Device) found = Unit {0}

-- Holds if one of two counts is one more, and the other unchanged.
abbrev pub OneMore : ℕ → ℕ → ℕ → ℕ → Type 0
OneMore tree_old tree_new out_old out_new = ((tree_new ≡ tree_old + 1) × (out_new ≡ out_old))
    ⊎ ((tree_new ≡ tree_old) × (out_new ≡ out_old + 1))

-- Holds if one of the two counts rose after a device fault, and none after any other result.
abbrev pub PassFailures : {T : Type 0} → ℕ → ℕ → ℕ → ℕ → Result T PassStop → Type 0
PassFailures tree_old tree_new out_old out_new (Ok x) = (tree_new ≡ tree_old) × (out_new ≡ out_old)
PassFailures tree_old tree_new out_old out_new (Err (Template line)) = (tree_new ≡ tree_old) × (out_new ≡ out_old)
PassFailures tree_old tree_new out_old out_new (Err (Limit line)) = (tree_new ≡ tree_old) × (out_new ≡ out_old)
PassFailures tree_old tree_new out_old out_new (Err Device) = OneMore tree_old tree_new out_old out_new

-- Holds if none of the bytes is this one.
abbrev pub Lacks : ℕ → List ℕ → Type 0
Lacks a [] = Unit {0}
Lacks a (b ∷ bytes) = ((b == a) ≡ false) × Lacks a bytes
