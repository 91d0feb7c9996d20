-- Defines the options that every project has.
use Rattle.std.specs.Prelude.{ℕ, Bool, true, false, List, [], ◌∷◌, map, Option, Some, None, codes, if◌then◌else◌, bytes_eq}
use Rattle.std.specs.List.{list_any}
use Rattle.option_values.specs.declared.kind.FeatureState.TheVariants as feature
use Rattle.option_values.specs.Kinds as kind
use Rattle.option_values.specs.Values as value

-- An option: its name, what it takes, and its default value.
pub record BuiltIn : Type 0 where
  pub name : List ℕ
  pub kind : kind.Kind
  pub value : value.Value

-- Returns the option of this name that takes any text, with its default.
abbrev pub text : List ℕ → List ℕ → BuiltIn
text name default = record { name = name; kind = kind.Text; value = value.Text default }

-- Returns the option of this name that takes a boolean, with its default.
abbrev pub boolean : List ℕ → Bool → BuiltIn
boolean name default = record { name = name; kind = kind.Boolean; value = value.Boolean default }

-- Returns the option of this name that takes one of the choices, with its default.
abbrev pub combo : List ℕ → List (List ℕ) → List ℕ → BuiltIn
combo name choices default = record { name = name; kind = kind.Combo choices; value = value.Combo default }

-- Returns the option of this name that takes words as a shell splits them. By default it has none.
abbrev pub words : List ℕ → BuiltIn
words name = record { name = name; kind = kind.Words; value = value.Array [] }

-- Returns the types of a build (`buildtype`).
abbrev pub build_types : List (List ℕ)
build_types = codes "plain" ∷ codes "debug" ∷ codes "debugoptimized" ∷ codes "release" ∷ codes "minsize" ∷ []

-- Returns the levels of optimization.
abbrev pub levels : List (List ℕ)
levels = codes "plain" ∷ codes "0" ∷ codes "g" ∷ codes "1" ∷ codes "2" ∷ codes "3" ∷ codes "s" ∷ []

-- Returns the levels of warnings.
abbrev pub warnings : List (List ℕ)
warnings = codes "0" ∷ codes "1" ∷ codes "2" ∷ codes "3" ∷ []

-- Returns the standards of C.
abbrev pub standards : List (List ℕ)
standards =
    codes "none" ∷ codes "c89" ∷ codes "c99" ∷ codes "c11" ∷ codes "c17"
    ∷ codes "gnu89" ∷ codes "gnu99" ∷ codes "gnu11" ∷ codes "gnu17" ∷ []

-- Returns the kinds of a library that declares none.
abbrev pub libraries : List (List ℕ)
libraries = codes "shared" ∷ codes "static" ∷ []

-- Returns the options of every project, in their order.
unfoldable pub built_ins : List BuiltIn
built_ins =
    text (codes "prefix") (codes "/usr/local")
    ∷ text (codes "bindir") (codes "bin")
    ∷ text (codes "libdir") (codes "lib")
    ∷ text (codes "includedir") (codes "include")
    ∷ text (codes "datadir") (codes "share")
    ∷ text (codes "mandir") (codes "share/man")
    ∷ text (codes "sysconfdir") (codes "etc")
    ∷ combo (codes "buildtype") build_types (codes "debug")
    ∷ boolean (codes "debug") true
    ∷ combo (codes "optimization") levels (codes "0")
    ∷ combo (codes "warning_level") warnings (codes "1")
    ∷ boolean (codes "werror") false
    ∷ combo (codes "c_std") standards (codes "none")
    ∷ combo (codes "default_library") libraries (codes "shared")
    ∷ words (codes "c_args")
    ∷ words (codes "c_link_args")
    ∷ record { name = codes "auto_features"; kind = kind.Feature; value = value.Feature feature.Auto }
    ∷ []

-- Returns whether every project has an option of this name.
unfoldable pub is_built_in : List ℕ → Bool
is_built_in name = list_any (λ b. bytes_eq name b.name) built_ins

-- An option with what it takes.
pub record NamedKind : Type 0 where
  pub name : List ℕ
  pub kind : kind.Kind

-- Returns the name and the kind of each option that every project has, in the order of `built_ins`.
unfoldable pub built_in_kinds : List NamedKind
built_in_kinds = map (λ b. record { name = b.name; kind = b.kind }) built_ins

-- Records the kind of an option. A known option keeps its place, and a new one is last.
abbrev pub put_kind : NamedKind → List NamedKind → List NamedKind
put_kind k [] = k ∷ []
put_kind k (l ∷ ls) = if bytes_eq k.name l.name then record l { kind = k.kind } ∷ ls else l ∷ put_kind k ls

-- Returns the kind of the first option with this name, and none if no option has it.
abbrev pub kind_among : List NamedKind → List ℕ → Option kind.Kind
kind_among [] name = None
kind_among (k ∷ ks) name = if bytes_eq name k.name then Some k.kind else kind_among ks name

-- Returns what the option with this name takes, if every project has it.
unfoldable pub built_in_kind : List ℕ → Option kind.Kind
built_in_kind name = kind_among built_in_kinds name

-- Adds one more row of the table.
abbrev pub add_kind : List NamedKind → BuiltIn → List NamedKind
add_kind ks b = put_kind (record { name = b.name; kind = b.kind }) ks
