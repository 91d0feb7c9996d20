-- Arguments that are asked about, one after another.
use Rattle.std.proofs.Common.{◌≡◌, ℕ, suc, ◌+◌, ◌<◌, ◌≤◌, Bor, List, Some, map, drop, length, get_or, ap, sym, refl, ◌∙◌, add-one}
use Rattle.std.proofs.Math.Seq.{drop-cons}
use Rattle.std.proofs.lemmas.List.{drop_all}
use Rattle.arguments.specs.Given.{text_or_none}
use Rattle.values.specs.Data.{Data, Items, items_append}
use Rattle.values.specs.View.{data_of}
use Rattle.values.specs.declared.value.Value.{Value}
use Rattle.machine_file.specs.Questions.{question_about}
use Rattle.world.specs.Deed.{consult, give, then}
use Rattle.methods.specs.CompilerMethods.{argument_if_supported, supported_arguments}
use Rattle.methods.specs.CompilerSaid.{argument_topic}

abbrev pub all_from : List (Bor Value) → ℕ → List Data
all_from values i = map (λ v. data_of v.now) (drop i values)

-- the next one
pub supported-drop : (taken : Items) (values : List (Bor Value)) (i : ℕ) (v : Bor Value) → i < length values → v ≡ get_or values i v
    → supported_arguments taken (all_from values i)
    ≡ then (consult (question_about (argument_topic (text_or_none (Some (data_of v.now)))))) (λ a. supported_arguments (items_append taken (argument_if_supported (data_of v.now) a)) (all_from values (i + 1)))
unfolding supported_arguments
supported-drop taken values i v h is =
    ap (λ us. supported_arguments taken (map (λ (u : Bor Value). data_of u.now) us)) (drop-cons values i v h)
    ∙ ap (λ (x : Bor Value). then (consult (question_about (argument_topic (text_or_none (Some (data_of x.now)))))) (λ a. supported_arguments (items_append taken (argument_if_supported (data_of x.now) a)) (all_from values (suc i)))) (sym is)
    ∙ rw add-one refl

-- no more
pub supported-end : (taken : Items) (values : List (Bor Value)) (i : ℕ) → length values ≤ i → supported_arguments taken (all_from values i) ≡ give taken
unfolding supported_arguments
supported-end taken values i h = ap (λ us. supported_arguments taken (map (λ (u : Bor Value). data_of u.now) us)) (drop_all i values h)
