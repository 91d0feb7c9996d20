-- Values of any kind and number are taken where no keyword is.
use Rattle.std.proofs.Common.{◌≡◌, ℕ, ◌+◌, List, [], ◌∷◌, None, Some, Ok, length, refl, ap, ◌∙◌, subst, sym}
use Rattle.std.proofs.Math.Dec.{leb-zero}
use Rattle.std.specs.Prelude.{if◌then◌else◌}
use Rattle.arguments.specs.Arguments.{ArgumentsData}
use Rattle.arguments.specs.Misfits.{TooFew, arguments_check, no_misfit, positional_misfit, or_else, too_few}
use Rattle.values.specs.Data.{Data}
use Rattle.arguments.specs.Rows.{any_values}

misplaced_none : (i : ℕ) (ds : List Data) → positional_misfit any_values i ds ≡ None
misplaced_none i [] = refl
misplaced_none i (d ∷ ds) = misplaced_none (i + 1) ds

too_few_none : (n : ℕ) → too_few 0 n ≡ None
too_few_none n = ap (λ b. if b then None else Some (TooFew 0 n)) (leb-zero n)

pub no_keyword_fits : (a : ArgumentsData) → a.named ≡ [] → arguments_check any_values a ≡ Ok tt
no_keyword_fits a none =
    subst (λ ns. arguments_check any_values (record { positional = a.positional; named = ns }) ≡ Ok tt) (sym none)
    (ap (λ m. no_misfit (or_else m (or_else (positional_misfit any_values 0 a.positional) None))) (too_few_none (length a.positional))
    ∙ ap (λ m. no_misfit (or_else m None)) (misplaced_none 0 a.positional))
