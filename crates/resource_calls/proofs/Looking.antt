-- Names that are looked up, one after another.
use Rattle.std.proofs.Common.{◌≡◌, ◌==◌, ℕ, suc, ◌+◌, ◌<◌, ◌≤◌, Bor, true, false, List, [], ◌∷◌, None, refl, map, length, drop, get_or, sym}
use Rattle.std.proofs.Common.{ap, eqb-true, arith}
use Rattle.std.proofs.lemmas.Bool.{false≢true}
use Rattle.std.proofs.lemmas.List.{drop_all, drop_more}
use Rattle.world.specs.Deed.{give, then}
use Rattle.arguments.specs.Arguments.{ArgumentsData}
use Rattle.resource_calls.specs.Dependency.{ask_dependency, dependency_named, first_said, said_or}
use Rattle.resource_calls.specs.Programs.{first_program, or_else, program_named}

-- what stands behind a list
abbrev pub nothing : Bor (List ℕ)
nothing = record { ref_ptr = (0, 0); now = [] }

abbrev pub name_at : List (Bor (List ℕ)) → ℕ → List ℕ
name_at names i = (get_or names i nothing).now

abbrev pub all_from : List (Bor (List ℕ)) → ℕ → List (List ℕ)
all_from names i = map (λ n. n.now) (drop i names)

-- the next one
pub first_program-drop : (names : List (Bor (List ℕ))) (i : ℕ) → i < length names
    → first_program (all_from names i) ≡ then (program_named (name_at names i)) (λ p. or_else p (first_program (all_from names (i + 1))))
unfolding first_program
first_program-drop names i h = ap (λ (ns : List (Bor (List ℕ))). first_program (map (λ n. n.now) ns)) (drop_more names i nothing h)

-- no more
pub first_program-end : (names : List (Bor (List ℕ))) (i : ℕ) → length names ≤ i → first_program (all_from names i) ≡ first_program []
first_program-end names i h = ap (λ (ns : List (Bor (List ℕ))). first_program (map (λ n. n.now) ns)) (drop_all i names h)

-- the same of dependencies
pub first_said-drop : (a : ArgumentsData) (names : List (Bor (List ℕ))) (i : ℕ) → i < length names
    → first_said a (all_from names i) ≡ then (dependency_named (name_at names i) a) (λ d. said_or d (first_said a (all_from names (i + 1))))
unfolding first_said
first_said-drop a names i h = ap (λ (ns : List (Bor (List ℕ))). first_said a (map (λ n. n.now) ns)) (drop_more names i nothing h)

pub first_said-end : (a : ArgumentsData) (names : List (Bor (List ℕ))) (i : ℕ) → length names ≤ i → first_said a (all_from names i) ≡ first_said a []
first_said-end a names i h = ap (λ (ns : List (Bor (List ℕ))). first_said a (map (λ n. n.now) ns)) (drop_all i names h)

-- of the empty name nothing is asked
pub named_none : (name : List ℕ) (a : ArgumentsData) → (length name == 0) ≡ true → dependency_named name a ≡ give None
unfolding dependency_named
named_none [] a h = refl
named_none (b ∷ name) a h = absurd (let e : suc (length name) ≡ 0 = eqb-true (length (b ∷ name)) 0 h in omega (arith, e))

pub named_some : (name : List ℕ) (a : ArgumentsData) → (length name == 0) ≡ false → dependency_named name a ≡ ask_dependency name a
unfolding dependency_named
named_some [] a h = absurd (false≢true (sym h))
named_some (b ∷ name) a h = refl
