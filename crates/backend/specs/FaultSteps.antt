-- Defines the line of a fault, piece by piece.
use Rattle.std.specs.Prelude.{ℕ, List, [], ◌++◌, Option, Some, None, codes, decimal}
use Rattle.ports.specs.Outputs.{Step, faults}
use Rattle.support.specs.Faults.{FaultData, detail_sign, fault_number, words_of}

-- Returns the steps that write the sign before a detail and the detail. There are none without a sign, since the line omits the detail.
abbrev pub behind_steps : Option (List ℕ) → List ℕ → List Step
behind_steps None detail = []
behind_steps (Some sign) detail = faults sign ++ faults detail

-- Returns the steps that write the detail of a fault and the sign before it, if the line has the detail.
abbrev pub detail_steps : FaultData → List Step
detail_steps f = behind_steps (detail_sign f.refusal) f.detail

-- Returns the steps that write `E` and the number of the fault, a space, its words, and its detail.
abbrev pub text_steps : FaultData → List Step
text_steps f =
    faults (codes "E")
    ++ (faults (decimal (fault_number f.refusal)) ++ (faults (codes " ") ++ (faults (words_of f.refusal) ++ detail_steps f)))

-- Returns the steps that write the fault as the line `FILE:LINE: ERROR: TEXT` with its newline.
abbrev pub line_steps : FaultData → List Step
line_steps f =
    faults f.file
    ++ (faults (codes ":") ++ (faults (decimal f.line) ++ (faults (codes ": ERROR: ") ++ (text_steps f ++ faults (codes "\n")))))
