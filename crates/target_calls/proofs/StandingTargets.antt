-- What a call declares without what is left out stands for what it declares.
use Rattle.std.proofs.Common.{◌≡◌, ◌≤◌, Bool, true, false, List, ◌++◌, length, codes, Option, Some, None, Ok, Err, refl, sym, ap, ◌∙◌, arith, true≢false}
use Rattle.std.specs.Prelude.{◌&&◌, nat_le, flat_map}
use Rattle.std.specs.List.{sum_by}
use Rattle.std.proofs.lemmas.Bool.{and_parts, false_from_ne_true, le-leb, leb-true}
use Rattle.std.proofs.lemmas.List.Sums.{sum_by-append}
use Rattle.support.specs.Limits.{items}
use Rattle.arguments.specs.Arguments.{ArgumentsData}
use Rattle.arguments.specs.Leaves.{leaves_named}
use Rattle.arguments.specs.Said.{Said, ◌>>=◌, found_value, no_breach}
use Rattle.arguments.specs.declared.rule.Rule.{Rule}
use Rattle.arguments.specs.declared.rule.Rule.TheVariants as rules
use Rattle.build.specs.Data.{Custom, CustomData, SourceData}
use Rattle.build.specs.Libraries.{DeclaredTargetData}
use Rattle.build.specs.Sources.{source_paths}
use Rattle.build.specs.edge.Texts.{Path, Text}
use Rattle.build.specs.project.Adding.{is_within, paths_in}
use Rattle.sources.specs.Holes.{PlaceData}
use Rattle.sources.specs.Sources.{NamedData, sources_of}
use Rattle.world.specs.Here.{HereData}
use Rattle.target_calls.specs.BuildTargets.{NamedTargetData}
use Rattle.target_calls.specs.Commands.{PartData, command_of}
use Rattle.target_calls.specs.CustomNames.{NamesData, place_of}
use Rattle.target_calls.specs.CustomTargets.{Makers, custom_from, custom_target, declared_by, declared_custom, declared_files, longest, names_from, part_by}
use Rattle.target_calls.specs.CustomTargets.{rule_broken, sources_by, sources_made, whole_command, whole_makers, with_needs, written_sources}
use Rattle.target_calls.specs.LongCommands.{short_command, short_makers, short_sources}
use Rattle.target_calls.specs.Sources.{file_in, sources_in}
use Rattle.target_calls.proofs.AnsweredAlike.{Alike, alike_long, alike_self}
use Rattle.target_calls.proofs.FirstItems.{SameFirst, same_append}
use Rattle.target_calls.proofs.StandingCommands.{Stands, StandsIf, command_stands, paths}
use Rattle.target_calls.proofs.StandingSources.{FilesStand, FilesStandIf, sources_stand}

-- ---- what is said

-- both are refused alike, or have these values
abbrev pub SaidAs : {A : Type 0} → (A → A → Type 0) → Said A → Said A → Type 0
SaidAs R (Ok a) (Ok b) = R a b
SaidAs R (Err r) (Err s) = r ≡ s
SaidAs R (Ok a) (Err s) = ⊥
SaidAs R (Err r) (Ok b) = ⊥

then_same : {A B : Type 0} (R : B → B → Type 0) (m : Said A) (f g : A → Said B) → ((x : A) → SaidAs R (f x) (g x)) → SaidAs R (m >>= f) (m >>= g)
then_same R (Ok x) f g h = h x
then_same R (Err r) f g h = refl

then_as : {A B : Type 0} (R : A → A → Type 0) (S : B → B → Type 0) (m n : Said A) (f g : A → Said B)
    → SaidAs R m n → ((x y : A) → R x y → SaidAs S (f x) (g y)) → SaidAs S (m >>= f) (n >>= g)
then_as R S (Ok x) (Ok y) f g r h = h x y r
then_as R S (Err r) (Err s) f g e h = e
then_as R S (Ok x) (Err s) f g r h = absurd r
then_as R S (Err r) (Ok y) f g e h = absurd e

-- ---- the command

found_as : (o p : Option PartData) (rule : Rule) (text : Text) → StandsIf o p → SaidAs Stands (found_value o rule text) (found_value p rule text)
found_as None None rule text s = refl
found_as (Some p) (Some q) rule text s = s
found_as None (Some q) rule text s = absurd s
found_as (Some p) None rule text s = absurd s

part_as : (here : HereData) (a : ArgumentsData) (place : PlaceData) (name : Text)
    → SaidAs Stands (part_by whole_makers here a place name) (part_by short_makers here a place name)
part_as here a place name =
    let ds = leaves_named name a in
    found_as (command_of here place ds) (short_command here place ds) rules.HasMeaning name (command_stands here place ds)

-- the second command and its needs stand for the first ones
record Whole (p q : PartData) : Type 0 where
  words : SameFirst p.words q.words
  needs : SameFirst p.needs q.needs
  fewer_words : length q.words ≤ length p.words
  fewer_needs : paths q ≤ paths p
  all : length q.words ≤ items → paths q ≤ items → q ≡ p

whole_from : (p q d e : PartData) (ns ms : List SourceData) → Stands p q → Stands d e → FilesStand ns ms
    → Whole (with_needs p (d.needs ++ ns)) (with_needs q (e.needs ++ ms))
whole_from p q d e ns ms s t v =
    let make : List Text → List SourceData → PartData = λ words needs. record { words = words; needs = needs } in
    let whole = sum_by-append paths_in p.needs (d.needs ++ ns) in
    let more = sum_by-append paths_in d.needs ns in
    let short = sum_by-append paths_in q.needs (e.needs ++ ms) in
    let shorter = sum_by-append paths_in e.needs ms in
    record {
      words = s.words;
      needs = same_append p.needs q.needs (d.needs ++ ns) (e.needs ++ ms) s.needs (same_append d.needs e.needs ns ms t.needs v.needs);
      fewer_words = s.fewer_words;
      fewer_needs = omega (arith, whole, more, short, shorter, s.fewer_needs, t.fewer_needs, v.fewer);
      all = λ h k.
          let few : paths q ≤ items = omega (arith, short, k) in
          let fewer : paths e ≤ items = omega (arith, short, shorter, k) in
          let fewest : sum_by paths_in ms ≤ items = omega (arith, short, shorter, k) in
          ap (λ ws. make ws (q.needs ++ (e.needs ++ ms))) (s.all_words h few)
          ∙ ap (λ l. make p.words (l ++ (e.needs ++ ms))) (s.all_needs few)
          ∙ ap (λ l. make p.words (p.needs ++ (l ++ ms))) (t.all_needs fewer)
          ∙ ap (λ l. make p.words (p.needs ++ (d.needs ++ l))) (v.all fewest);
    }

files_found : (o p : Option (List SourceData)) (rule : Rule) (text : Text) → FilesStandIf o p
    → SaidAs FilesStand (found_value o rule text) (found_value p rule text)
files_found None None rule text s = refl
files_found (Some ns) (Some ms) rule text s = s
files_found None (Some ms) rule text s = absurd s
files_found (Some ns) None rule text s = absurd s

made_as : (here : HereData) (a : ArgumentsData) (name : Text) → SaidAs FilesStand (sources_made sources_in here a name) (sources_made short_sources here a name)
made_as here a name =
    let found : (List DeclaredTargetData → List NamedData → Option (List SourceData)) → List NamedData → Said (List SourceData) =
    λ make ns. found_value (make here.earlier ns) rules.HasMeaning name in
    then_same FilesStand (sources_of here.source_root here.folder (leaves_named name a)) (found sources_in) (found short_sources)
    (λ ns. files_found (sources_in here.earlier ns) (short_sources here.earlier ns) rules.HasMeaning name (sources_stand here.earlier ns))

command_as : (here : HereData) (a : ArgumentsData) (place : PlaceData)
    → SaidAs Whole (whole_command whole_makers here a place) (whole_command short_makers here a place)
command_as here a place =
    let command = λ (m : Makers). part_by m here a place (codes "command") in
    let depends = λ (m : Makers). part_by m here a place (codes "depends") in
    let files = λ (m : Makers). sources_made m.sources here a (codes "depend_files") in
    let last : PartData → PartData → List SourceData → Said PartData = λ p d ns. Ok (with_needs p (d.needs ++ ns)) in
    let later : Makers → PartData → PartData → Said PartData = λ m p d. files m >>= last p d in
    let after : Makers → PartData → Said PartData = λ m p. depends m >>= later m p in
    then_as Stands Whole (command whole_makers) (command short_makers) (after whole_makers) (after short_makers) (part_as here a place (codes "command"))
    (λ p q s. then_as Stands Whole (depends whole_makers) (depends short_makers) (later whole_makers p) (later short_makers q) (part_as here a place (codes "depends"))
    (λ d e t. then_as FilesStand Whole (files whole_makers) (files short_makers) (last p d) (last q e) (made_as here a (codes "depend_files"))
    (λ ns ms v. whole_from p q d e ns ms s t v)))

-- ---- the target

within_by : (here : HereData) (a : ArgumentsData) (names : NamesData) (inputs : List SourceData) (p q : PartData) → Whole p q
    → (b : Bool) → is_within (Custom (custom_target here a names inputs q)) ≡ b → Alike (Custom (custom_target here a names inputs p)) (Custom (custom_target here a names inputs q))
within_by here a names inputs p q w true h =
    let parts = and_parts (nat_le (longest a) items) (nat_le (length q.words) items && nat_le (sum_by paths_in q.needs) items) h in
    let both = and_parts (nat_le (length q.words) items) (nat_le (sum_by paths_in q.needs) items) parts.1 in
    let same = w.all (leb-true (length q.words) items both.0) (leb-true (paths q) items both.1) in
    alike_self (Custom (custom_target here a names inputs p)) (Custom (custom_target here a names inputs q)) (ap (λ x. Custom (custom_target here a names inputs x)) same)
within_by here a names inputs p q w false h =
    let t = custom_target here a names inputs p in
    let long : is_within (Custom t) ≡ true → is_within (Custom (custom_target here a names inputs q)) ≡ true = λ e.
    let parts = and_parts (nat_le (longest a) items) (nat_le (length p.words) items && nat_le (sum_by paths_in p.needs) items) e in
    let both = and_parts (nat_le (length p.words) items) (nat_le (sum_by paths_in p.needs) items) parts.1 in
    let words : length q.words ≤ items = omega (arith, leb-true (length p.words) items both.0, w.fewer_words) in
    let needs : paths q ≤ items = omega (arith, leb-true (paths p) items both.1, w.fewer_needs) in
    rw (parts.0, le-leb (length q.words) items words, le-leb (paths q) items needs) refl in
    alike_long t q.words q.needs w.words w.needs (false_from_ne_true (is_within (Custom t)) (λ e. true≢false (sym (long e) ∙ h))) h

alike_custom : (here : HereData) (a : ArgumentsData) (names : NamesData) (inputs : List SourceData) (p q : PartData) → Whole p q
    → Alike (Custom (custom_target here a names inputs p)) (Custom (custom_target here a names inputs q))
alike_custom here a names inputs p q w = within_by here a names inputs p q w (is_within (Custom (custom_target here a names inputs q))) refl

custom_as : (here : HereData) (a : ArgumentsData) (inputs : List SourceData) → SaidAs (λ t u. Alike (Custom t) (Custom u)) (custom_from whole_makers here a inputs) (custom_from short_makers here a inputs)
custom_as here a inputs =
    let both : CustomData → CustomData → Type 0 = λ t u. Alike (Custom t) (Custom u) in
    let from = flat_map (source_paths here.depth) inputs in
    let command = λ (m : Makers) (names : NamesData). whole_command m here a (place_of here from names) in
    let last : NamesData → PartData → Said CustomData = λ names p. Ok (custom_target here a names inputs p) in
    let after : Makers → NamesData → Said CustomData = λ m names. command m names >>= last names in
    then_same both (names_from here a from) (after whole_makers) (after short_makers)
    (λ names. then_as Whole both (command whole_makers names) (command short_makers names) (last names) (last names) (command_as here a (place_of here from names))
    (λ p q w. alike_custom here a names inputs p q w))

-- ---- the call

-- a project answers what is declared alike, and the files are the same
pub record NamedAlike (d e : NamedTargetData) : Type 0 where
  pub target : Alike d.target e.target
  pub files : e.files ≡ d.files

files_as : (here : HereData) (a : ArgumentsData) (inputs : List SourceData) (files : List Path)
    → SaidAs NamedAlike (declared_files whole_makers here a inputs files) (declared_files short_makers here a inputs files)
files_as here a inputs files =
    let last : CustomData → Said NamedTargetData = λ t. Ok (record { target = Custom t; files = files }) in
    then_as (λ t u. Alike (Custom t) (Custom u)) NamedAlike (custom_from whole_makers here a inputs) (custom_from short_makers here a inputs) last last (custom_as here a inputs)
    (λ t u same. record { target = same; files = refl })

pub declared_alike : (here : HereData) (a : ArgumentsData) → SaidAs NamedAlike (declared_custom here a) (declared_by short_makers here a)
unfolding declared_by
declared_alike here a =
    let inputs = sources_by here a (codes "input") in
    let files : Makers → List NamedData → List SourceData → Said NamedTargetData = λ m named is. declared_files m here a is (flat_map file_in named) in
    let rest : Makers → List NamedData → Said NamedTargetData = λ m named. inputs >>= files m named in
    let whole : Makers → Unit {0} → Said NamedTargetData = λ m u. written_sources here a >>= rest m in
    then_same NamedAlike (no_breach (rule_broken a)) (whole whole_makers) (whole short_makers)
    (λ u. then_same NamedAlike (written_sources here a) (rest whole_makers) (rest short_makers)
    (λ named. then_same NamedAlike inputs (files whole_makers named) (files short_makers named) (λ is. files_as here a is (flat_map file_in named))))
