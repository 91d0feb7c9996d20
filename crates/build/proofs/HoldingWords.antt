-- What is asked before words are made is what Ninja can hold of them.
use Rattle.std.proofs.Common.{◌≡◌, ℕ, zero, suc, ◌-◌, Bool, true, false, List, [], ◌∷◌, ◌++◌, map, codes, bytes_eq, refl, sym, ap, ◌∙◌, inl}
use Rattle.std.proofs.Common.{inr}
use Rattle.std.specs.Prelude.{◌&&◌, ◌||◌, flat_map, nat_le, if◌then◌else◌}
use Rattle.std.specs.List.{list_all}
use Rattle.std.proofs.lemmas.Bool.{cases_Bool, and_parts}
use Rattle.std.proofs.lemmas.List.Folds.{list_all-append, list_all-map}
use Rattle.std.proofs.lemmas.Slice.Eq.{bytes_eq-Decides}
use Rattle.build.specs.edge.Texts.{Path, Text, holds, put_new, put_all_new, first_kept}
use Rattle.build.specs.edge.Paths.{way_up, source_root}
use Rattle.build.specs.edge.Holding.{is_path, value_held}
use Rattle.build.specs.Data.{FlagsData, ListsData, SurroundingsData, BuildData}
use Rattle.build.specs.Files.{is_library}
use Rattle.build.specs.Sources.{items_of_dependencies, list_with_dependencies, generated_paths}
use Rattle.build.specs.target_edges.Parts.{front_words, shared_held, options_held, includes_held, arguments_held, words_held}
use Rattle.build.specs.target_edges.Parts.{compiles_held}
use Rattle.build.specs.target_edges.Words.{word_if, include_words, includes, value_words, warning_words}
use Rattle.build.specs.target_edges.Words.{option_words, argument_words, compile_words}
use Rattle.build.proofs.Holding.{and_true}

abbrev pub all_held : List Text → Bool
all_held ws = list_all value_held ws

-- ---- of equal texts the first

among : (p : Text → Bool) (t : Text) (ks : List Text) → holds t ks ≡ true → list_all p ks ≡ true → p t ≡ true
among p t [] h a = absurd cc
among p t (k ∷ ks) h a = elim (cases_Bool (bytes_eq t k)) [
  | inl e ↦ ap p ((bytes_eq-Decides t k).0 e) ∙ (and_parts (p k) (list_all p ks) a).0
  | inr e ↦ among p t ks (sym (ap (λ b. b || holds t ks) e) ∙ h) (and_parts (p k) (list_all p ks) a).1
]

and_known : (a b : Bool) → (a ≡ true → b ≡ true) → a ≡ (a && b)
and_known true b h = sym (h refl)
and_known false b h = refl

one_more : (p : Text → Bool) (kept : List Text) (t : Text) → list_all p (put_new kept t) ≡ (list_all p kept && p t)
one_more p kept t = elim (cases_Bool (holds t kept)) [
  | inl e ↦ ap (λ b. list_all p (if b then kept else kept ++ t ∷ [])) e ∙ and_known (list_all p kept) (p t) (among p t kept e)
  | inr e ↦
      ap (λ b. list_all p (if b then kept else kept ++ t ∷ [])) e ∙ list_all-append p kept (t ∷ []) ∙ ap (λ b. list_all p kept && b) (and_true (p t))
]

and_assoc : (a b c : Bool) → ((a && b) && c) ≡ (a && (b && c))
and_assoc true b c = refl
and_assoc false b c = refl

all_more : (p : Text → Bool) (kept ts : List Text) → list_all p (put_all_new kept ts) ≡ (list_all p kept && list_all p ts)
all_more p kept [] = sym (and_true (list_all p kept))
all_more p kept (t ∷ ts) =
    all_more p (put_new kept t) ts ∙ ap (λ b. b && list_all p ts) (one_more p kept t) ∙ and_assoc (list_all p kept) (p t) (list_all p ts)

pub first_kept_all : (p : Text → Bool) (ts : List Text) → list_all p (first_kept ts) ≡ list_all p ts
first_kept_all p ts = all_more p [] ts

-- ---- lists of lists

pub flat_all : {X : Type 0} (p : Text → Bool) (g : X → List Text) (xs : List X) → list_all p (flat_map g xs) ≡ list_all (λ x. list_all p (g x)) xs
flat_all p g [] = refl
flat_all p g (x ∷ xs) = list_all-append p (g x) (flat_map g xs) ∙ ap (λ b. list_all p (g x) && b) (flat_all p g xs)

same_all : (p q : Text → Bool) → ((t : Text) → p t ≡ q t) → (ts : List Text) → list_all p ts ≡ list_all q ts
same_all p q h [] = refl
same_all p q h (t ∷ ts) = ap (λ b. b && list_all p ts) (h t) ∙ ap (λ b. q t && b) (same_all p q h ts)

-- what the dependencies bring of a list
pub brought_held : {W : Type 0} (list : ListsData → List Text) (see : W → ListsData) (ws : List W)
    → all_held (flat_map list (map see ws)) ≡ list_all (λ w. all_held (list (see w))) ws
brought_held list see ws = flat_all value_held list (map see ws) ∙ list_all-map (λ l. all_held (list l)) see ws

-- ---- folders

way_value : (n : ℕ) (rest : Text) → value_held (way_up n ++ rest) ≡ value_held rest
way_value zero rest = refl
way_value (suc n) rest = way_value n rest

twice : (a : Bool) → (a && (a && true)) ≡ a
twice true = refl
twice false = refl

include_held : (depth : ℕ) (folder : Path) → all_held (include_words depth folder) ≡ value_held folder
include_held depth [] = and_true (value_held (source_root depth)) ∙ way_value (depth - 1) (codes "..")
include_held depth (b ∷ bs) =
    let f : Path = b ∷ bs in
    ap (λ v. value_held f && (v && true)) (way_value (depth - 1) (codes "../" ++ f)) ∙ twice (value_held f)

folders_held : (depth : ℕ) (fs : List Path) → all_held (flat_map (include_words depth) fs) ≡ all_held fs
folders_held depth fs = flat_all value_held (include_words depth) fs ∙ same_all (λ f. all_held (include_words depth f)) value_held (include_held depth) fs

includes_are : (depth : ℕ) (t : BuildData) → all_held (includes depth t) ≡ includes_held t
includes_are depth t =
    let fs = list_with_dependencies (λ l. l.include_folders) t in
    first_kept_all value_held (include_words depth t.folder ++ flat_map (include_words depth) fs)
    ∙ list_all-append value_held (include_words depth t.folder) (flat_map (include_words depth) fs)
    ∙ ap (λ b. b && all_held (flat_map (include_words depth) fs)) (include_held depth t.folder)
    ∙ ap (λ b. value_held t.folder && b) (folders_held depth fs ∙ list_all-append value_held t.own.include_folders (items_of_dependencies (λ l. l.include_folders) t))

-- ---- options

word_held : (b : Bool) (w : Text) → value_held w ≡ true → all_held (word_if b w) ≡ true
word_held false w h = refl
word_held true w h = rw h refl

value_words_held : (front value none : Text) → value_held none ≡ true → value_held (front ++ value) ≡ value_held value → all_held (value_words front value none) ≡ value_held value
value_words_held front value none none_held front_held = elim (cases_Bool (bytes_eq value none)) [
  | inl e ↦ ap (λ b. all_held (if b then [] else (front ++ value) ∷ [])) e ∙ sym (ap value_held ((bytes_eq-Decides value none).0 e) ∙ none_held)
  | inr e ↦ ap (λ b. all_held (if b then [] else (front ++ value) ∷ [])) e ∙ (and_true (value_held (front ++ value)) ∙ front_held)
]

behind_true : (xs ys : List Text) → all_held xs ≡ true → all_held (xs ++ ys) ≡ all_held ys
behind_true xs ys h = list_all-append value_held xs ys ∙ ap (λ b. b && all_held ys) h

warnings_held : (level : ℕ) → all_held (warning_words level) ≡ true
warnings_held level =
    let all = word_if (nat_le 1 level) (codes "-Wall") in
    let extra = word_if (nat_le 2 level) (codes "-Wextra") in
    let pedantic = word_if (nat_le 3 level) (codes "-Wpedantic") in
    behind_true all (extra ++ pedantic) (word_held (nat_le 1 level) (codes "-Wall") refl)
    ∙ behind_true extra pedantic (word_held (nat_le 2 level) (codes "-Wextra") refl)
    ∙ word_held (nat_le 3 level) (codes "-Wpedantic") refl

options_are : (f : FlagsData) → all_held (option_words f) ≡ options_held f
options_are f =
    let debug = word_if f.is_debug (codes "-g") in
    let optimization = value_words (codes "-O") f.optimization (codes "plain") in
    let behind = optimization ++ debug in
    let standard = value_words (codes "-std=") f.c_std (codes "none") in
    let errors = word_if f.is_werror (codes "-Werror") in
    behind_true (warning_words f.warning_level) (errors ++ (standard ++ behind)) (warnings_held f.warning_level)
    ∙ behind_true errors (standard ++ behind) (word_held f.is_werror (codes "-Werror") refl)
    ∙ list_all-append value_held standard behind
    ∙ ap (λ b. b && all_held behind) (value_words_held (codes "-std=") f.c_std (codes "none") refl refl)
    ∙ ap (λ b. value_held f.c_std && b)
    (list_all-append value_held optimization debug
    ∙ ap (λ b. b && all_held debug) (value_words_held (codes "-O") f.optimization (codes "plain") refl refl)
    ∙ ap (λ b. value_held f.optimization && b) (word_held f.is_debug (codes "-g") refl)
    ∙ and_true (value_held f.optimization))

-- ---- arguments

arguments_are : (s : SurroundingsData) (t : BuildData) → all_held (argument_words s t) ≡ arguments_held s t
arguments_are s t =
    let more = s.facts.flags.c_args ++ t.own.compile_args in
    list_all-append value_held s.arguments (items_of_dependencies (λ l. l.compile_args) t ++ more)
    ∙ ap (λ b. all_held s.arguments && b)
    (list_all-append value_held (items_of_dependencies (λ l. l.compile_args) t) more
    ∙ ap (λ b. all_held (items_of_dependencies (λ l. l.compile_args) t) && b) (list_all-append value_held s.facts.flags.c_args t.own.compile_args))

-- ---- all words

words_are : (s : SurroundingsData) (t : BuildData) → all_held (front_words (compile_words s t)) ≡ words_held s t
words_are s t =
    let pic = word_if (is_library t.kind) (codes "-fPIC") in
    let arguments = argument_words s t in
    let options = option_words s.facts.flags in
    let folders = includes s.facts.depth t in
    list_all-append value_held (compile_words s t) (codes "-MD" ∷ codes "-MQ" ∷ [])
    ∙ and_true (all_held (compile_words s t))
    ∙ list_all-append value_held s.facts.compiler (folders ++ (options ++ (pic ++ arguments)))
    ∙ ap (λ b. all_held s.facts.compiler && b)
    (list_all-append value_held folders (options ++ (pic ++ arguments))
    ∙ ap (λ b. b && all_held (options ++ (pic ++ arguments))) (includes_are s.facts.depth t)
    ∙ ap (λ b. includes_held t && b)
    (list_all-append value_held options (pic ++ arguments)
    ∙ ap (λ b. b && all_held (pic ++ arguments)) (options_are s.facts.flags)
    ∙ ap (λ b. options_held s.facts.flags && b) (behind_true pic arguments (word_held (is_library t.kind) (codes "-fPIC") refl) ∙ arguments_are s t)))

pub shared_are : (s : SurroundingsData) (t : BuildData) → shared_held (front_words (compile_words s t)) (generated_paths t) ≡ compiles_held s t
shared_are s t = ap (λ b. list_all is_path (generated_paths t) && b) (words_are s t)
