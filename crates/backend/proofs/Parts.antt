-- The text of `build.ninja` is its parts, target by target.
use Rattle.std.proofs.Common.{◌≡◌, ℕ, zero, suc, ◌+◌, ◌-◌, ◌<◌, List, [], ◌++◌, length, take, sym, ap, ◌∙◌, append_assoc, append-nil, codes}
use Rattle.std.proofs.Common.{arith}
use Rattle.std.specs.Prelude.{slice_get}
use Rattle.std.proofs.lemmas.Grind.{flat_map-append}
use Rattle.ports.specs.Outputs.{Step, opening_steps, closing_steps, puts}
use Rattle.build.specs.edge.Data.{EdgeData}
use Rattle.build.specs.edge.Texts.{Path}
use Rattle.build.specs.Data.{SurroundingsData}
use Rattle.build.specs.Libraries.{DeclaredTargetData, linked_of}
use Rattle.build.specs.project.World.{WorldData, edges_in}
use Rattle.build.specs.project.Adding.{edges_at, edges_between, edges_by_number, edges_if}
use Rattle.ninja.specs.Writing.{edge_text, edges_text, head_text, tail_text}
use Rattle.backend.specs.BuildFile.{build_steps}
use Rattle.ninja.specs.Defaults.{default_outputs}
use Rattle.backend.specs.Parts.{parts_steps, target_steps, targets_steps}
use Rattle.ninja.proofs.Puts.{puts-append, puts-nil}

-- ---- one target after another

-- so many targets from a number on, and then so many more
between-add : (s : SurroundingsData) (ls : List DeclaredTargetData) (a b n : ℕ) → edges_between s ls (a + b) n ≡ edges_between s ls a n ++ edges_between s ls b (n + a)
between-add s ls zero b n =
    let count : 0 + b ≡ b = omega arith in
    let place : n ≡ n + 0 = omega arith in
    ap (λ m. edges_between s ls m n) count ∙ ap (λ m. edges_between s ls b m) place
between-add s ls (suc a) b n =
    let first = edges_if s (take n ls) (slice_get ls n) in
    let count : suc a + b ≡ suc (a + b) = omega arith in
    let place : n + 1 + a ≡ n + suc a = omega arith in
    ap (λ m. edges_between s ls m n) count ∙ ap (λ r. first ++ r) (between-add s ls a b (n + 1))
    ∙ sym (append_assoc first (edges_between s ls a (n + 1)) (edges_between s ls b (n + 1 + a)))
    ∙ ap (λ m. (first ++ edges_between s ls a (n + 1)) ++ edges_between s ls b m) place

-- the edges of the first targets
abbrev pub first_edges : WorldData → ℕ → List EdgeData
first_edges w n = edges_between w.surroundings (linked_of w.targets) n 0

abbrev pub first_steps : WorldData → ℕ → List Step
first_steps w n = puts (edges_text (first_edges w n))

edges_more : (w : WorldData) (n : ℕ) → first_edges w (n + 1) ≡ first_edges w n ++ edges_at w n
edges_more w n =
    let s = w.surroundings in
    let ls = linked_of w.targets in
    let place : 0 + n ≡ n = omega arith in
    between-add s ls n 1 0 ∙ ap (λ m. first_edges w n ++ edges_between s ls 1 m) place ∙ ap (λ r. first_edges w n ++ r) (append-nil (edges_at w n))

pub steps_more : (w : WorldData) (n : ℕ) → first_steps w (n + 1) ≡ first_steps w n ++ target_steps w n
unfolding target_steps
steps_more w n =
    ap (λ es. puts (edges_text es)) (edges_more w n) ∙ ap puts (flat_map-append edge_text (first_edges w n) (edges_at w n)) ∙ puts-append (edges_text (first_edges w n)) (edges_text (edges_at w n))

-- what follows after the first targets
abbrev pub steps_after : WorldData → ℕ → ℕ → List Step
steps_after w n more = puts (edges_text (edges_between w.surroundings (linked_of w.targets) more n))

steps_split : (w : WorldData) (n more : ℕ) → first_steps w (n + more) ≡ first_steps w n ++ steps_after w n more
steps_split w n more =
    let s = w.surroundings in
    let ls = linked_of w.targets in
    let place : 0 + n ≡ n = omega arith in
    ap (λ es. puts (edges_text es)) (between-add s ls n more 0 ∙ ap (λ m. first_edges w n ++ edges_between s ls more m) place)
    ∙ ap puts (flat_map-append edge_text (first_edges w n) (edges_between s ls more n))
    ∙ puts-append (edges_text (first_edges w n)) (edges_text (edges_between s ls more n))

-- all of them, cut behind a target
pub steps_cut : (w : WorldData) (n : ℕ) → n < length w.targets
    → targets_steps w ≡ first_steps w n ++ (target_steps w n ++ steps_after w (n + 1) (length w.targets - (n + 1)))
unfolding targets_steps
steps_cut w n within =
    let rest = length w.targets - (n + 1) in
    let whole : length w.targets ≡ n + 1 + rest = omega (arith, within) in
    ap (first_steps w) whole ∙ steps_split w (n + 1) rest ∙ ap (λ r. r ++ steps_after w (n + 1) rest) (steps_more w n)
    ∙ append_assoc (first_steps w n) (target_steps w n) (steps_after w (n + 1) rest)

pub steps_none : (w : WorldData) → first_steps w 0 ≡ []
steps_none w = puts-nil

pub steps_all : (w : WorldData) (n : ℕ) → n ≡ length w.targets → first_steps w n ≡ targets_steps w
unfolding targets_steps
steps_all w n e = ap (first_steps w) e

-- ---- the file

four_parts : (a : List Step) (h t e : List ℕ) (c : List Step) → a ++ (puts h ++ (puts e ++ (puts t ++ c))) ≡ a ++ (puts (h ++ (e ++ t)) ++ c)
four_parts a h t e c =
    ap (λ r. a ++ r) (ap (λ r. puts h ++ r) (sym (append_assoc (puts e) (puts t) c) ∙ ap (λ r. r ++ c) (sym (puts-append e t))) ∙ sym (append_assoc (puts h) (puts (e ++ t)) c) ∙ ap (λ r. r ++ c) (sym (puts-append h (e ++ t))))

-- the parts that are written are the file
pub parts-build_steps : (w : WorldData) → edges_by_number w ≡ edges_in w → parts_steps w ≡ build_steps w
unfolding targets_steps
parts-build_steps w e =
    four_parts (opening_steps (codes "build.ninja")) head_text (tail_text (default_outputs w)) (edges_text (edges_by_number w)) closing_steps
    ∙ ap (λ es. opening_steps (codes "build.ninja") ++ (puts (head_text ++ (edges_text es ++ tail_text (default_outputs w))) ++ closing_steps)) e
