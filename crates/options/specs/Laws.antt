-- States what holds of all final values.
use Rattle.std.specs.Prelude.{ℕ, Bool, true, false, List, [], ◌∷◌, map, Option, Some, None, bytes_eq, if◌then◌else◌}
use Rattle.std.specs.List.{list_all}
use Rattle.support.specs.Among.{is_among}
use Rattle.option_values.specs.BuiltIns.{BuiltIn, built_ins}
use Rattle.option_values.specs.Integers.{is_within}
use Rattle.option_values.specs.Kinds as kind
use Rattle.option_values.specs.Lists.{are_among}
use Rattle.option_values.specs.Values as value
use Rattle.options.specs.option_file.Declarations.{Declaration}
use Rattle.option_values.specs.Settings.{Setting}
use Rattle.options.specs.Verdicts.{Verdict, Sets, Warns, Refuses, kind_named}

-- ---- each value has its option's type

-- Returns whether a value is one of an option that takes this kind.
abbrev pub fits : kind.Kind → value.Value → Bool
fits kind.Text (value.Text text) = true
fits kind.Boolean (value.Boolean boolean) = true
fits (kind.Combo choices) (value.Combo choice) = is_among choices choice
fits (kind.Integer least greatest) (value.Integer number) = is_within least greatest number
fits (kind.Array choices) (value.Array items) = are_among choices items
fits kind.Words (value.Array items) = true
fits kind.Feature (value.Feature state) = true
fits _ v = false

-- Returns whether an option that takes this kind, if there is one, takes the value.
abbrev pub fits_known : Option kind.Kind → value.Value → Bool
fits_known None v = false
fits_known (Some k) v = fits k v

-- Returns whether there is an option with this name that takes the value.
abbrev pub has_fitting : List Declaration → Setting → Bool
has_fitting ds s = fits_known (kind_named ds s.name) s.value

-- Returns whether each setting has the name of an option that takes its value.
abbrev pub all_fit : List Declaration → List Setting → Bool
all_fit ds ss = list_all (has_fitting ds) ss

-- ---- the names are those that every project has, followed by the declared ones

-- Returns the names of the settings, in their order.
abbrev pub names_in : List Setting → List (List ℕ)
names_in ss = map (λ s. s.name) ss

-- Returns the names of the options that every project has, in the order of their table.
abbrev pub built_in_names : List (List ℕ)
built_in_names = map (λ (b : BuiltIn). b.name) built_ins

-- Returns the names of the declared options, in the order of their declarations.
abbrev pub declared_names : List Declaration → List (List ℕ)
declared_names ds = map (λ d. d.name) ds

-- ---- the last place that gives an option a value decides

-- Returns the later setting if there is one, and else this one.
abbrev pub or_later : Option Setting → Option Setting → Option Setting
or_later (Some later) s = Some later
or_later None s = s

-- Returns what a verdict gives the option with this name.
abbrev pub set_by : Verdict → List ℕ → Option Setting
set_by (Sets s) name = if bytes_eq name s.name then Some s else None
set_by (Warns other) name = None
set_by (Refuses fault) name = None

-- Returns what the last of these verdicts gives the option with this name.
abbrev pub last_setting : List Verdict → List ℕ → Option Setting
last_setting [] name = None
last_setting (v ∷ vs) name = or_later (last_setting vs name) (set_by v name)
