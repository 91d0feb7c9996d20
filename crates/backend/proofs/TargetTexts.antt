-- The text of a target's edges is that of its parts.
use Rattle.std.proofs.Common.{◌≡◌, ℕ, ◌<◌, true, List, [], ◌∷◌, ◌++◌, length, map, IfOk, Result, String, Global, string_bytes, refl, sym}
use Rattle.std.proofs.Common.{ap, subst, ◌∙◌, arith}
use Rattle.std.specs.List.{flat_map}
use Rattle.std.proofs.lemmas.Grind.{flat_map-append}
use Rattle.ports.specs.Outputs.{Step, puts}
use Rattle.build.specs.edge.Data.{EdgeData}
use Rattle.build.specs.edge.Holding.{is_some_list}
use Rattle.build.specs.edge.Parts.{OwnData, SharedData}
use Rattle.build.specs.edge.Paths.{object_path}
use Rattle.build.specs.edge.Texts.{Path, Text, texts}
use Rattle.build.specs.edge.View.{edge_view}
use Rattle.build.specs.declared.edge.edge.Edge.{Edge}
use Rattle.build.specs.declared.edge.rule.EdgeRule.TheVariants.{CCompile}
use Rattle.build.specs.Inputs.{input_view}
use Rattle.build.specs.Sources.{InputData}
use Rattle.build.specs.declared.sources.Input.{Input}
use Rattle.build.specs.target_edges.Parts.{compile_own, compile_shared, has_first, joined_edge}
use Rattle.build.specs.target_edges.PartsView.{build_parts_edges, parts_edges}
use Rattle.build.specs.declared.target_edges.parts.BuildParts.{BuildParts}
use Rattle.build.specs.declared.target_edges.parts.TargetParts.{TargetParts}
use Rattle.build.specs.project.Adding.{edges_at}
use Rattle.build.specs.project.World.{WorldData}
use Rattle.ninja.specs.Parts.{shared_text}
use Rattle.ninja.specs.Writing.{edge_text, edges_text}
use Rattle.backend.specs.Parts.{target_steps}
use Rattle.ninja.proofs.Puts.{puts-append, puts-flat_map}

-- where something is compiled, there is a first word
pub first_held : (ws : List (String Global)) (xs : List Input) (i : ℕ) → i < length xs → has_first ws xs ≡ true → is_some_list (texts ws) ≡ true
first_held [] [] i lt h = absurd (omega arith)
first_held [] (x ∷ xs) i lt h = absurd cc
first_held (w ∷ ws) xs i lt h = refl

pub own_is : (object source depfile description : Path) (words : List Text) (is : OwnData) → object ≡ is.output → source ≡ is.input → words ≡ is.words → description ≡ is.description → depfile ≡ is.depfile
    → (let own : OwnData = record { output = object; input = source; words = words; description = description; depfile = depfile } in own ≡ is)
own_is object source depfile description words is a b c d e =
    ap (λ x. let own : OwnData = record { output = x; input = source; words = words; description = description; depfile = depfile } in own) a
    ∙ ap (λ x. record is { input = x; words = words; description = description; depfile = depfile }) b
    ∙ ap (λ x. record is { words = x; description = description; depfile = depfile }) c
    ∙ ap (λ x. record is { description = x; depfile = depfile }) d
    ∙ ap (λ x. record is { depfile = x }) e

pub shared_is : (order_only words : List Path) (is_order_only is_words : List Path) → order_only ≡ is_order_only → words ≡ is_words
    → (let shared : SharedData = record { rule = CCompile; order_only = order_only; words = words } in shared ≡ compile_shared is_words is_order_only)
shared_is order_only words is_order_only is_words a b =
    ap (λ x. let shared : SharedData = record { rule = CCompile; order_only = x; words = words } in shared) a
    ∙ ap (λ x. let shared : SharedData = record { rule = CCompile; order_only = is_order_only; words = x } in shared) b

-- ---- all edges of a target

edges_text-map : {X : Type 0} (f : X → EdgeData) (xs : List X) → flat_map (λ x. edge_text (f x)) xs ≡ edges_text (map f xs)
edges_text-map f [] = refl
edges_text-map f (x ∷ xs) = ap (λ r. edge_text (f x) ++ r) (edges_text-map f xs)

map-map : {X Y Z : Type 0} (f : Y → Z) (g : X → Y) (xs : List X) → map (λ x. f (g x)) xs ≡ map f (map g xs)
map-map f g [] = refl
map-map f g (x ∷ xs) = ap (λ r. f (g x) ∷ r) (map-map f g xs)

-- the edge of an input
abbrev pub edge_for : BuildParts → Input → EdgeData
edge_for p i = joined_edge (texts p.words.items) (texts p.generated.items) (string_bytes p.file) (input_view i)

abbrev pub compile_steps : BuildParts → List Step
compile_steps p = flat_map (λ i. puts (edge_text (edge_for p i))) p.inputs.items

abbrev pub rest_steps : List Edge → List Step
rest_steps es = flat_map (λ e. puts (edge_text (edge_view e))) es

pub build_is : (p : BuildParts) → compile_steps p ++ rest_steps p.rest.items ≡ puts (edges_text (build_parts_edges p))
build_is p =
    let compiles = map (edge_for p) p.inputs.items in
    let rest = map edge_view p.rest.items in
    let same : compiles ≡ map (joined_edge (texts p.words.items) (texts p.generated.items) (string_bytes p.file)) (map input_view p.inputs.items) =
    map-map (joined_edge (texts p.words.items) (texts p.generated.items) (string_bytes p.file)) input_view p.inputs.items in
    ap (λ r. r ++ rest_steps p.rest.items) (puts-flat_map (λ i. edge_text (edge_for p i)) p.inputs.items ∙ ap puts (edges_text-map (edge_for p) p.inputs.items))
    ∙ ap (λ r. puts (edges_text compiles) ++ r) (puts-flat_map (λ e. edge_text (edge_view e)) p.rest.items ∙ ap puts (edges_text-map edge_view p.rest.items))
    ∙ sym (puts-append (edges_text compiles) (edges_text rest))
    ∙ ap puts (sym (flat_map-append edge_text compiles rest))
    ∙ ap (λ es. puts (edges_text (es ++ rest))) same

pub target_is : (w : WorldData) (n : ℕ) (p : TargetParts) → parts_edges p ≡ edges_at w n → puts (edges_text (parts_edges p)) ≡ target_steps w n
unfolding target_steps
target_is w n p e = ap (λ es. puts (edges_text es)) e
