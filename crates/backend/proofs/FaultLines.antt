-- The line of a fault is its pieces.
use Rattle.std.proofs.Common.{◌≡◌, ℕ, List, [], ◌++◌, Option, Some, None, codes, decimal, refl, sym, ap, ◌∙◌}
use Rattle.std.proofs.lemmas.List.{map-append}
use Rattle.ports.specs.Outputs.{Step, Faults, faults}
use Rattle.support.specs.Faults.{FaultData, detail_behind, detail_sign, fault_text, fault_line, fault_number, words_of}
use Rattle.backend.specs.FaultSteps.{behind_steps, text_steps, line_steps}

pub faults-append : (a b : List ℕ) → faults (a ++ b) ≡ faults a ++ faults b
unfolding faults
faults-append a b = map-append (λ x. Faults x) a b

-- one piece more in front
faults-front : (a b : List ℕ) (steps : List Step) → steps ≡ faults b → faults a ++ steps ≡ faults (a ++ b)
faults-front a b steps e = ap (λ r. faults a ++ r) e ∙ sym (faults-append a b)

faults-nil : faults [] ≡ []
unfolding faults
faults-nil = refl

behind_steps-faults : (sign : Option (List ℕ)) (detail : List ℕ) → behind_steps sign detail ≡ faults (detail_behind sign detail)
behind_steps-faults None detail = sym faults-nil
behind_steps-faults (Some sign) detail = sym (faults-append sign detail)

text_steps-faults : (f : FaultData) → text_steps f ≡ faults (fault_text f)
text_steps-faults f =
    faults-front (codes "E") _ _ (faults-front (decimal (fault_number f.refusal)) _ _ (faults-front (codes " ") _ _
    (faults-front (words_of f.refusal) _ _ (behind_steps-faults (detail_sign f.refusal) f.detail))))

pub line_steps-faults : (f : FaultData) → line_steps f ≡ faults (fault_line f)
line_steps-faults f =
    faults-front f.file _ _ (faults-front (codes ":") _ _ (faults-front (decimal f.line) _ _ (faults-front (codes ": ERROR: ") _ _
    (ap (λ r. r ++ faults (codes "\n")) (text_steps-faults f) ∙ sym (faults-append (fault_text f) (codes "\n"))))))
