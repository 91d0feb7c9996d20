-- Where one keyword alone says sources, and `input` is given, it says all of them.
use Rattle.std.proofs.Common.{◌≡◌, ℕ, ◌+◌, Bool, true, false, List, [], ◌∷◌, ◌++◌, map, Option, Some, None, codes, refl, sym, ap, ◌∙◌}
use Rattle.std.proofs.Common.{append-nil, arith}
use Rattle.std.specs.Prelude.{◌||◌, bytes_eq, cond, flat_map, is_some, count_by, option_map, if◌then◌else◌}
use Rattle.std.proofs.lemmas.List.Sums.{sum_by-cons}
use Rattle.std.proofs.lemmas.Bool.{or_parts}
use Rattle.arguments.specs.Arguments.{named_data}
use Rattle.arguments.specs.Leaves.{leaves_in}
use Rattle.arguments.specs.Row.{value_named}
use Rattle.arguments.specs.declared.arguments.Named.{Named}
use Rattle.values.specs.Data.{Data}
use Rattle.values.specs.Flat.{opened}
use Rattle.target_calls.specs.CustomTargets.{is_source_keyword, written_in}

abbrev pub says : Named → Bool
says n = is_source_keyword n.name

abbrev pub value_of_input : List Named → Option Data
value_of_input ns = value_named (codes "input") (map named_data ns)

abbrev pub all_written : List Named → List Data
all_written ns = flat_map written_in (map named_data ns)

count_cons : (n : Named) (ns : List Named) → count_by says (n ∷ ns) ≡ cond (says n) 1 0 + count_by says ns
count_cons n ns = sum_by-cons (λ x. cond (says x) 1 0) n ns

one_more : (b : Bool) (n : ℕ) → cond b 1 0 + n ≡ 0 → (b ≡ false) × (n ≡ 0)
one_more true n h = absurd (omega arith)
one_more false n h = (refl, omega arith)

none_written : (ns : List Named) → count_by says ns ≡ 0 → all_written ns ≡ []
none_written [] h = refl
none_written (n ∷ ns) h =
    let k = one_more (says n) (count_by says ns) (sym (count_cons n ns) ∙ h) in
    ap (λ b. (if b then opened (named_data n).1 else []) ++ all_written ns) k.0 ∙ none_written ns k.1

none_named : (ns : List Named) → count_by says ns ≡ 0 → value_of_input ns ≡ None
none_named [] h = refl
none_named (n ∷ ns) h =
    let k = one_more (says n) (count_by says ns) (sym (count_cons n ns) ∙ h) in
    let e = or_parts (bytes_eq n.name (codes "input")) (bytes_eq n.name (codes "depend_files")) k.0 in
    ap (λ b. if b then Some (named_data n).1 else value_of_input ns) e.0 ∙ none_named ns k.1

first : (is other : Bool) (d : Data) (ns : List Named) → ((count_by says ns ≡ 1) → is_some (value_of_input ns) ≡ true → all_written ns ≡ leaves_in (value_of_input ns))
    → cond (is || other) 1 0 + count_by says ns ≡ 1 → is_some (if is then Some d else value_of_input ns) ≡ true
    → (if is || other then opened d else []) ++ all_written ns ≡ leaves_in (if is then Some d else value_of_input ns)
first true other d ns rest h some =
    let none : count_by says ns ≡ 0 = omega arith in ap (λ ds. opened d ++ ds) (none_written ns none) ∙ append-nil (opened d)
first false true d ns rest h some =
    let none : count_by says ns ≡ 0 = omega arith in
    let missing : is_some (value_of_input ns) ≡ false = ap is_some (none_named ns none) in
    absurd cc
first false false d ns rest h some =
    let one : count_by says ns ≡ 1 = omega arith in rest one some

pub input_alone : (ns : List Named) → count_by says ns ≡ 1 → is_some (value_of_input ns) ≡ true → all_written ns ≡ leaves_in (value_of_input ns)
input_alone [] h some = absurd cc
input_alone (n ∷ ns) h some =
    first (bytes_eq n.name (codes "input")) (bytes_eq n.name (codes "depend_files")) (named_data n).1 ns (input_alone ns) (sym (count_cons n ns) ∙ h) some

pub is_some-option_map : {X Y : Type 0} (f : X → Y) (o : Option X) → is_some (option_map f o) ≡ is_some o
is_some-option_map f None = refl
is_some-option_map f (Some x) = refl
