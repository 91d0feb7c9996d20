-- Defines which values of a command, and which sources that it needs, are left out because there are too many already.
--
-- A list of paths is left out where the command has had it before, and has too many words or needs too many paths. Such a call is refused,
-- and the refusal is that of the whole command. So what is made of a call grows with its text and with the lists that it names, each once.
use Rattle.std.specs.Prelude.{ℕ, ◌+◌, min, nat_eq, nat_lt, Bool, true, false, List, [], ◌∷◌, ◌++◌, length, bytes_eq, codes}
use Rattle.std.specs.Prelude.{Option, Some, None, option_and_then, if◌then◌else◌}
use Rattle.std.specs.List.{list_any}
use Rattle.support.specs.Limits.{items}
use Rattle.support.specs.Sets.{insert_key}
use Rattle.values.specs.Data.{Data, text, object}
use Rattle.values.specs.declared.object.Object.{Object}
use Rattle.values.specs.declared.object.Object.TheVariants as objects
use Rattle.build.specs.edge.Texts.{Path, Text}
use Rattle.build.specs.Data.{SourceData}
use Rattle.build.specs.Libraries.{DeclaredTargetData}
use Rattle.sources.specs.Holes.{PlaceData}
use Rattle.sources.specs.Outputs.{outputs_at}
use Rattle.sources.specs.Sources.{NamedData, outputs}
use Rattle.world.specs.Here.{HereData}
use Rattle.target_calls.specs.Commands.{PartData, joined_parts, no_part, part_of}
use Rattle.target_calls.specs.CustomTargets.{Makers}
use Rattle.target_calls.specs.Sources.{source_in}

-- What is known of the lists of paths that a command has had.
pub record HadData : Type 0 where
  -- How many outputs of custom targets it needs, at most one more than is allowed.
  pub paths : ℕ
  -- The numbers of the lists that it has had since it was too long. All inputs are 0, all outputs 1, and the outputs of the custom target
  -- n are n + 2.
  pub lists : List ℕ

-- Returns what is known of a command without words.
abbrev pub no_lists : HadData
no_lists = record { paths = 0; lists = [] }

-- Returns whether the command has had a list since it was too long, and what is known after the list.
abbrev pub list_noted : (is_long : Bool) (list : ℕ) → HadData → Bool × HadData
list_noted false list had = (false, had)
list_noted true list had = (list_any (nat_eq list) had.lists, record had { lists = insert_key nat_eq had.lists list })

-- Returns what is known after these outputs were added.
abbrev pub counted : Option (List Path) → HadData → HadData
counted None had = had
counted (Some paths) had = record had { paths = min (items + 1) (min (items + 1) had.paths + min (items + 1) (length paths)) }

-- Counts the outputs, unless they are left out.
abbrev pub counted_unless : Bool × HadData → Option (List Path) → Bool × HadData
counted_unless noted found = if noted.0 then noted else (false, counted found noted.1)

-- Returns whether the outputs of a custom target are left out, and what is known after them.
abbrev pub outputs_noted : List DeclaredTargetData → (number : ℕ) → HadData → Bool × HadData
outputs_noted earlier number had =
    counted_unless (list_noted (nat_lt items had.paths) (number + 2) had) (outputs_at earlier number)

-- Returns whether a text is left out from a command with so many words, and what is known after it.
abbrev pub text_noted : (words : ℕ) → Text → HadData → Bool × HadData
text_noted words t had =
    if bytes_eq t (codes "@INPUT@") then list_noted (nat_lt items words) 0 had
    else (if bytes_eq t (codes "@OUTPUT@") then list_noted (nat_lt items words) 1 had else (false, had))

-- Returns whether an object is left out, and what is known after it.
abbrev pub object_noted : List DeclaredTargetData → Object → HadData → Bool × HadData
object_noted earlier (objects.CustomTarget number count) had = outputs_noted earlier number had
object_noted earlier _ had = (false, had)

-- Returns whether a value is left out from a command with so many words, and what is known after it.
abbrev pub noted : List DeclaredTargetData → (words : ℕ) → Data → HadData → Bool × HadData
noted earlier words (text t) had = text_noted words t had
noted earlier words (object o) had = object_noted earlier o had
noted earlier words _ had = (false, had)

-- Returns a part followed by those of some values, without those that are left out.
abbrev pub short_behind : HereData → PlaceData → PartData → HadData → List Data → Option PartData
short_behind here place whole had [] = Some whole
short_behind here place whole had (d ∷ ds) =
    if (noted here.earlier (length whole.words) d had).0
    then short_behind here place whole (noted here.earlier (length whole.words) d had).1 ds
    else option_and_then
    (λ p. short_behind here place (joined_parts whole p) (noted here.earlier (length whole.words) d had).1 ds) (part_of here place d)

-- Returns the command of these values without those that are left out, and none if one of the values cannot be in a command.
abbrev pub short_command : HereData → PlaceData → List Data → Option PartData
short_command here place ds = short_behind here place no_part no_lists ds

-- ---- sources

-- Returns whether a source is left out, and what is known after it.
abbrev pub source_noted : List DeclaredTargetData → NamedData → HadData → Bool × HadData
source_noted earlier (outputs number) had = outputs_noted earlier number had
source_noted earlier _ had = (false, had)

-- Returns sources followed by those that are named, without those that are left out.
abbrev pub sources_behind : List DeclaredTargetData → List SourceData → HadData → List NamedData → Option (List SourceData)
sources_behind earlier whole had [] = Some whole
sources_behind earlier whole had (n ∷ ns) =
    if (source_noted earlier n had).0 then sources_behind earlier whole (source_noted earlier n had).1 ns
    else option_and_then (λ s. sources_behind earlier (whole ++ s ∷ []) (source_noted earlier n had).1 ns) (source_in earlier n)

-- Returns the sources that are named, without those that are left out, and none if one of them is an output that no target has.
abbrev pub short_sources : List DeclaredTargetData → List NamedData → Option (List SourceData)
short_sources earlier ns = sources_behind earlier [] no_lists ns

-- Makes commands and sources without what is left out.
abbrev pub short_makers : Makers
short_makers = record { command = short_command; sources = short_sources }
