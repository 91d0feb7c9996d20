-- What holds of the project's edges holds of the edges of the file, with the edge `all` behind them.
use Rattle.std.proofs.Common.{◌≡◌, ℕ, zero, suc, ◌<◌, Bool, true, false, List, [], ◌∷◌, ◌++◌, length, map, refl, sym, ap, ◌∙◌, bytes_eq}
use Rattle.std.proofs.Common.{codes, append_assoc, append-nil, arith, ◌⊎◌, inl, inr}
use Rattle.std.specs.Prelude.{◌&&◌, slice_get, flat_map, if◌then◌else◌}
use Rattle.std.proofs.lemmas.Bool.{false≢true}
use Rattle.std.proofs.lemmas.Slice.Eq.{bytes_eq-Decides}
use Rattle.std.proofs.lemmas.Grind.{flat_map-append}
use Rattle.build.specs.edge.Texts.{Path, holds}
use Rattle.build.specs.edge.Paths.{source_path, is_upward}
use Rattle.build.specs.edge.Data.{EdgeData}
use Rattle.build.specs.Data.{SurroundingsData, TargetData, Build, Custom}
use Rattle.build.specs.Files.{default_paths, file_path, link_paths, object_paths, output_paths}
use Rattle.build.specs.Libraries.{DeclaredTargetData, declared_target}
use Rattle.build.specs.target_edges.Edges.{edges_of, edges_after, all_edges}
use Rattle.build.specs.project.Laws.{outputs_of, AtMostOnce, all_held, all_made, outputs_if}
use Rattle.build.specs.project.Laws as laws
use Rattle.build.specs.project.World.{WorldData, edges_in, known_in, reserved_paths, taken_in}
use Rattle.build.proofs.PathLists.{times-append}
use Rattle.build.proofs.EdgeOrder.{split_and, both, or_cases, list_all-weaker, list_all-joined, holds_append, holds_left, holds_right}
use Rattle.build.proofs.EdgeOrder.{held_more, held_self}
use Rattle.build.proofs.NoCycle.{member, times_held, sources_up}
use Rattle.build.proofs.NextMade.{outputs-build}
use Rattle.ninja.specs.Meaning.{edge_seen, edges_seen, all_seen}
use Rattle.ninja.specs.Reading.{BuildEdge}
use Rattle.ninja.specs.Defaults.{defaults_of, default_outputs, is_default}
use Rattle.backend.specs.FileEdges.{made_by, made_by_all, made_by_if, needed_by_if, are_made, Feeds, Reaches, at_once, through}
use Rattle.backend.specs.Means.{edges_read, made_by_none}

-- the edges of a file whose edge `all` needs these paths
abbrev pub with_all : List EdgeData → List Path → List BuildEdge
with_all es names = edges_seen es ++ all_seen names ∷ []

-- ---- once

made_with_all : (es : List EdgeData) (names : List Path) → made_by_all (with_all es names) ≡ outputs_of es ++ codes "all" ∷ []
made_with_all [] names = refl
made_with_all (e ∷ es) names =
    ap (λ p. p ++ made_by_all (with_all es names)) (append-nil e.outputs)
    ∙ ap (λ p. e.outputs ++ p) (made_with_all es names)
    ∙ sym (append_assoc e.outputs (outputs_of es) (codes "all" ∷ []))

pub once_with_all : (w : WorldData) → AtMostOnce (taken_in w) → AtMostOnce (made_by_none w ++ made_by_all (edges_read w))
once_with_all w once p =
    let made = outputs_of (edges_in w) in
    let all = codes "all" ∷ [] in
    let files = codes "build.ninja" ∷ codes "meson-info/introspect.json" ∷ [] in
    let h = once p in
    let taken = times-append p reserved_paths (made ++ w.outputs) in
    let held_back = times-append p all files in
    let both_made = times-append p made w.outputs in
    let none = times-append p (files ++ w.outputs) (made ++ all) in
    let none_files = times-append p files w.outputs in
    let some = times-append p made all in
    rw (made_with_all (edges_in w) (default_outputs w)) (omega arith)

-- ---- what `all` needs

held_right : (front known ps : List Path) → all_held known ps ≡ true → all_held (front ++ known) ps ≡ true
held_right front known ps e = list_all-weaker (λ p. holds p known) (λ p. holds p (front ++ known)) (λ p h. holds_right p front known h) ps e

target_held : (s : SurroundingsData) (earlier : List DeclaredTargetData) (t : TargetData) → all_held (outputs_of (edges_of s earlier (declared_target earlier t))) (default_paths t) ≡ true
target_held s earlier (Custom t) = ap (λ k. all_held k (output_paths t)) (append-nil (output_paths t)) ∙ held_self [] (output_paths t)
target_held s earlier (Build t) =
    ap (λ k. all_held k (file_path t ∷ link_paths t)) (outputs-build s earlier (declared_target earlier (Build t)).libraries t)
    ∙ held_self (object_paths s.facts.depth t) (file_path t ∷ link_paths t)

held_or_none : (b : Bool) (known paths : List Path) → all_held known paths ≡ true → all_held known (if b then paths else []) ≡ true
held_or_none true known paths h = h
held_or_none false known paths h = refl

defaults_held_after : (s : SurroundingsData) (earlier : List DeclaredTargetData) (ts : List TargetData) → all_held (outputs_of (edges_after s earlier ts)) (flat_map defaults_of ts) ≡ true
defaults_held_after s earlier [] = refl
defaults_held_after s earlier (t ∷ ts) =
    let own = edges_of s earlier (declared_target earlier t) in
    let rest = edges_after s (earlier ++ declared_target earlier t ∷ []) ts in
    let known = outputs_of own ++ outputs_of rest in
    ap (λ k. all_held k (flat_map defaults_of (t ∷ ts))) (flat_map-append (λ e. e.outputs) own rest)
    ∙ list_all-joined (λ p. holds p known) (defaults_of t) (flat_map defaults_of ts)
    (held_more (outputs_of own) (outputs_of rest) (defaults_of t) (held_or_none (is_default t) (outputs_of own) (default_paths t) (target_held s earlier t)))
    (held_right (outputs_of own) (outputs_of rest) (flat_map defaults_of ts) (defaults_held_after s (earlier ++ declared_target earlier t ∷ []) ts))

-- each path that `all` needs is an output of the project's edges
pub defaults_held : (s : SurroundingsData) (ts : List TargetData) → all_held (outputs_of (all_edges s ts)) (flat_map defaults_of ts) ≡ true
defaults_held s ts = defaults_held_after s [] ts

-- ---- before

pub made_before : (known : List Path) (es : List EdgeData) (names : List Path) → all_made known es ≡ true → all_held (known ++ outputs_of es) names ≡ true
    → are_made known (with_all es names) ≡ true
made_before known [] names made held =
    ap (λ ps. all_held known ps && true) (append-nil names)
    ∙ both (all_held known names) true (ap (λ k. all_held k names) (sym (append-nil known)) ∙ held) refl
made_before known (e ∷ es) names made held =
    let s = split_and (all_held known (laws.needs e)) (all_made (known ++ e.outputs) es) made in
    both (all_held known (laws.needs e)) (are_made (known ++ made_by (edge_seen e)) (with_all es names)) s.0
    (ap (λ outs. are_made (known ++ outs) (with_all es names)) (append-nil e.outputs)
    ∙ made_before (known ++ e.outputs) es names s.1
    (ap (λ k. all_held k names) (append_assoc known e.outputs (outputs_of es)) ∙ held))

pub all_before : (w : WorldData) → all_made (known_in w) (edges_in w) ≡ true → all_held (outputs_of (edges_in w)) (default_outputs w) ≡ true → are_made (known_in w) (edges_read w) ≡ true
all_before w made held = made_before (known_in w) (edges_in w) (default_outputs w) made (held_right (known_in w) (outputs_of (edges_in w)) (default_outputs w) held)

-- ---- no circle

-- what nothing makes and nobody knows, no edge needs
unneeded : (p : Path) (known : List Path) (es : List EdgeData) → all_made known es ≡ true → (holds p known ≡ true → ⊥) → (holds p (outputs_of es) ≡ true → ⊥)
    → (i : ℕ) → holds p (laws.needs_if (slice_get es i)) ≡ true → ⊥
unneeded p known [] made k o i h = absurd cc
unneeded p known (e ∷ es) made k o zero h =
    let s = split_and (all_held known (laws.needs e)) (all_made (known ++ e.outputs) es) made in
    k (member (λ q. holds q known) (laws.needs e) p s.0 h)
unneeded p known (e ∷ es) made k o (suc i) h =
    let s = split_and (all_held known (laws.needs e)) (all_made (known ++ e.outputs) es) made in
    unneeded p (known ++ e.outputs) es s.1
    (λ a. or_cases (holds p known) (holds p e.outputs) (sym (holds_append p known e.outputs) ∙ a) k (λ b. o (holds_left p e.outputs (outputs_of es) b)))
    (λ a. o (holds_right p e.outputs (outputs_of es) a))
    i h

-- what an edge of the file makes, the project's edge with its number makes; or it is `all`
maker : (es : List EdgeData) (names : List Path) (j : ℕ) (p : Path) → holds p (made_by_if (slice_get (with_all es names) j)) ≡ true
    → (holds p (outputs_if (slice_get es j)) ≡ true) ⊎ (p ≡ codes "all")
maker [] names zero p h = or_cases (bytes_eq p (codes "all")) false h (λ e. inr ((bytes_eq-Decides p (codes "all")).0 e)) (λ e. absurd (false≢true e))
maker [] names (suc j) p h = absurd (false≢true h)
maker (e ∷ es) names zero p h = inl (ap (holds p) (sym (append-nil e.outputs)) ∙ h)
maker (e ∷ es) names (suc j) p h = maker es names j p h

-- what an edge of the file needs, the project's edge with its number needs; or `all` does
needer : (es : List EdgeData) (names : List Path) (i : ℕ) (p : Path) → holds p (needed_by_if (slice_get (with_all es names) i)) ≡ true
    → (holds p (laws.needs_if (slice_get es i)) ≡ true) ⊎ (holds p names ≡ true)
needer [] names zero p h = inr (ap (holds p) (sym (append-nil names)) ∙ h)
needer [] names (suc i) p h = absurd (false≢true h)
needer (e ∷ es) names zero p h = inl h
needer (e ∷ es) names (suc i) p h = needer es names i p h

needed_below : (es : List EdgeData) (names : List Path) (i : ℕ) → i < length es → needed_by_if (slice_get (with_all es names) i) ≡ laws.needs_if (slice_get es i)
needed_below [] names i h = absurd (omega arith)
needed_below (e ∷ es) names zero h = refl
needed_below (e ∷ es) names (suc i) h = needed_below es names i (omega arith)

made_below : (es : List EdgeData) (j : ℕ) (p : Path) → holds p (outputs_if (slice_get es j)) ≡ true → j < length es
made_below [] j p h = absurd cc
made_below (e ∷ es) zero p h = omega arith
made_below (e ∷ es) (suc j) p h = let k = made_below es j p h in omega arith

module _ (es : List EdgeData) (names : List Path) (unneeded_all : (i : ℕ) → holds (codes "all") (needed_by_if (slice_get (with_all es names) i)) ≡ true → ⊥) where
  feeder : (j i : ℕ) (f : Feeds (with_all es names) j i) → holds f.path (outputs_if (slice_get es j)) ≡ true
  feeder j i f =
      elim (maker es names j f.path f.made) [
        | inl h ↦ h
        | inr e ↦ absurd (unneeded_all i (ap (λ p. holds p (needed_by_if (slice_get (with_all es names) i))) (sym e) ∙ f.needed))
      ]

  feeds_below : (j i : ℕ) → Feeds (with_all es names) j i → j < length es
  feeds_below j i f = made_below es j f.path (feeder j i f)

  reaches_below : (j i : ℕ) → Reaches (with_all es names) j i → j < length es
  reaches_below j i (at_once _ _ f) = feeds_below j i f
  reaches_below j i (through _ k _ f r) = feeds_below j k f

  feeds_in : (j i : ℕ) → Feeds (with_all es names) j i → i < length es → laws.Feeds es j i
  feeds_in j i f h = record { path = f.path; made = feeder j i f; needed = ap (holds f.path) (sym (needed_below es names i h)) ∙ f.needed }

  reaches_in : (j i : ℕ) → Reaches (with_all es names) j i → i < length es → laws.Reaches es j i
  reaches_in j i (at_once _ _ f) h = laws.at_once j i (feeds_in j i f h)
  reaches_in j i (through _ k _ f r) h = laws.through j k i (feeds_in j k f (reaches_below k i r)) (reaches_in k i r h)

  pub no_circle_with_all : ((i : ℕ) → laws.Reaches es i i → ⊥) → (i : ℕ) → Reaches (with_all es names) i i → ⊥
  no_circle_with_all none i r = none i (reaches_in i i r (reaches_below i i r))

-- `all` is no file of the tree, nothing that `configure_file` makes, and no output
unknown_all : (w : WorldData) → AtMostOnce (taken_in w) → holds (codes "all") (known_in w) ≡ true → ⊥
unknown_all w once h =
    let all = codes "all" in
    let sources = map (source_path w.surroundings.facts.depth) w.present in
    or_cases (holds all sources) (holds all w.outputs) (sym (holds_append all sources w.outputs) ∙ h)
    (λ a. false≢true (member is_upward sources all (sources_up w.surroundings.facts.depth w.present) a))
    (λ a.
    let t = times-append all reserved_paths (outputs_of (edges_in w) ++ w.outputs) in
    let u = times-append all (outputs_of (edges_in w)) w.outputs in
    let r = times_held all reserved_paths refl in
    let m = times_held all w.outputs a in
    let o = once all in
    absurd (omega arith))

unmade_all : (w : WorldData) → AtMostOnce (taken_in w) → holds (codes "all") (outputs_of (edges_in w)) ≡ true → ⊥
unmade_all w once h =
    let all = codes "all" in
    let t = times-append all reserved_paths (outputs_of (edges_in w) ++ w.outputs) in
    let u = times-append all (outputs_of (edges_in w)) w.outputs in
    let r = times_held all reserved_paths refl in
    let m = times_held all (outputs_of (edges_in w)) h in
    let o = once all in
    absurd (omega arith)

pub no_circle_read : (w : WorldData) → AtMostOnce (taken_in w) → all_made (known_in w) (edges_in w) ≡ true → all_held (outputs_of (edges_in w)) (default_outputs w) ≡ true
    → ((i : ℕ) → laws.Reaches (edges_in w) i i → ⊥) → (i : ℕ) → Reaches (edges_read w) i i → ⊥
no_circle_read w once made held none =
    let es = edges_in w in
    let all = codes "all" in
    let made_none = unmade_all w once in
    no_circle_with_all es (default_outputs w)
    (λ i h. elim (needer es (default_outputs w) i all h) [
      | inl a ↦ unneeded all (known_in w) es made (unknown_all w once) made_none i a
      | inr a ↦ made_none (member (λ q. holds q (outputs_of es)) (default_outputs w) all held a)
    ])
    none
