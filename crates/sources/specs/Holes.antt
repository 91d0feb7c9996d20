-- Defines the values of the placeholders of a custom target: `custom_target` of the page "Reference manual".
use Prim.Native.Char.{code}
use Rattle.std.specs.Prelude.{nat_lt, nat_eq, Bool, ◌==◌, ◌&&◌, List, [], ◌∷◌, ◌++◌, length, drop, slice_get, bytes_eq, codes}
use Rattle.std.specs.Prelude.{Option, Some, None, option_map, if◌then◌else◌}
use Rattle.std.specs.List.{list_all, starts_with, slice_split}
use Rattle.std.specs.Char.{is_ascii_digit}
use Rattle.std.specs.Str.Parse.{digits_value}
use Rattle.build.specs.edge.Texts.{Path, Text}
use Rattle.support.specs.paths.Names.{plain_name, base_name}
use Rattle.sources.specs.declared.placeholders.PlaceholderScope.{PlaceholderScope}
use Rattle.sources.specs.declared.placeholders.PlaceholderScope.TheVariants.{Command, FileName}

-- The values that placeholders of a custom target refer to. All paths are relative to the build directory.
pub record PlaceData : Type 0 where
  pub inputs : List Path
  pub outputs : List Path
  pub depfile : Option Path
  -- The folder of the definition file, in the build directory and in the source directory.
  pub build_folder : Path
  pub source_folder : Path
  -- The source directory.
  pub source_root : Path

-- The meaning of a name between two `@`: a placeholder has a text, or has no value in this call and is refused (E9). Any other name stays
-- as it is.
pub data MeaningData : Type 0 where
  stays : MeaningData
  refused : MeaningData
  means : (text : Text) → MeaningData

-- Returns the meaning of a placeholder: its text, and a refusal if it has none.
abbrev pub means_if : Option Text → MeaningData
means_if None = refused
means_if (Some text) = means text

-- Returns the only path, and none if there is not exactly one.
abbrev pub only_of : List Path → Option Path
only_of [] = None
only_of (p ∷ []) = Some p
only_of (p ∷ q ∷ ps) = None

-- Returns the first path.
abbrev pub first_of : List Path → Option Path
first_of [] = None
first_of (p ∷ ps) = Some p

-- Holds if a text is at least one digit and nothing else.
abbrev pub is_number : Text → Bool
is_number text = nat_lt 0 (length text) && list_all is_ascii_digit text

-- Returns the meaning of a number: the path with this number, from 0.
abbrev pub meaning_of_number : List Path → (digits : Text) → MeaningData
meaning_of_number paths digits = if is_number digits then means_if (slice_get paths (digits_value 10 digits)) else stays

-- Returns the text after a prefix, and none if the text does not begin with it.
abbrev pub rest_after : Text → Text → Option Text
rest_after front text = if starts_with nat_eq text front then Some (drop (length front) text) else None

-- Returns the meaning of a number if there is one, and otherwise another meaning.
abbrev pub numbered_if : List Path → Option Text → MeaningData → MeaningData
numbered_if paths None other = other
numbered_if paths (Some digits) other = meaning_of_number paths digits

-- Returns the meaning of `INPUT` or `OUTPUT` with a number.
abbrev pub numbered_name : PlaceData → Text → MeaningData
numbered_name at name =
    numbered_if at.inputs (rest_after (codes "INPUT") name) (numbered_if at.outputs (rest_after (codes "OUTPUT") name) stays)

-- Returns a path with the ending `.p`.
abbrev pub with_p : Path → Path
with_p path = path ++ codes ".p"

-- Returns the meaning of a name of a directory, of the depfile, or of a numbered file.
abbrev pub place_name : PlaceData → Text → MeaningData
place_name at name =
    if bytes_eq name (codes "OUTDIR") then means at.build_folder
    else (if bytes_eq name (codes "SOURCE_ROOT") then means at.source_root
    else (if bytes_eq name (codes "BUILD_ROOT") then means (codes ".")
    else (if bytes_eq name (codes "CURRENT_SOURCE_DIR") then means at.source_folder
    else (if bytes_eq name (codes "PRIVATE_DIR") then means_if (option_map with_p (first_of at.outputs))
    else (if bytes_eq name (codes "DEPFILE") then means_if at.depfile else numbered_name at name)))))

-- Returns the meaning of `INPUT` or `OUTPUT`, and of the names above.
abbrev pub file_name : PlaceData → Text → MeaningData
file_name at name =
    if bytes_eq name (codes "INPUT") then means_if (only_of at.inputs)
    else (if bytes_eq name (codes "OUTPUT") then means_if (only_of at.outputs) else place_name at name)

-- Returns the meaning of a further name. The names of one input are valid everywhere, the others only in the command.
abbrev pub other_name : PlaceholderScope → PlaceData → Text → MeaningData
other_name Command at name = file_name at name
other_name FileName at name = stays

-- Returns the meaning of a name between two `@`.
abbrev pub meaning_of_name : PlaceholderScope → PlaceData → Text → MeaningData
meaning_of_name scope at name =
    if bytes_eq name (codes "PLAINNAME") then means_if (option_map plain_name (only_of at.inputs))
    else (if bytes_eq name (codes "BASENAME") then means_if (option_map base_name (only_of at.inputs)) else other_name scope at name)

-- ---- texts with placeholders

-- Returns a text followed by the rest, if there is a rest.
abbrev pub behind_text : Text → Option Text → Option Text
behind_text text rest = option_map (λ t. text ++ t) rest

-- Returns a text with the name between two `@` handled: `next` follows if it stays, and `after` if it is replaced.
abbrev pub step : MeaningData → (name text : Text) (next after : Option Text) → Option Text
step stays name text next after = behind_text (codes "@" ++ name) next
step refused name text next after = None
step (means value) name text next after = behind_text (value ++ text) after

-- Returns the filled parts of a text after its first `@`.
abbrev pub filled_behind : (Text → MeaningData) → (parts : List Text) → Option Text
filled_behind m [] = Some []
filled_behind m (p ∷ []) = Some (codes "@" ++ p)
filled_behind m (p ∷ q ∷ rest) = step (m p) p q (filled_behind m (q ∷ rest)) (filled_behind m rest)

-- Returns the filled parts of a text.
abbrev pub filled_parts : (Text → MeaningData) → (parts : List Text) → Option Text
filled_parts m [] = Some []
filled_parts m (p ∷ parts) = behind_text p (filled_behind m parts)

-- Returns a text with its placeholders replaced from the left, without scanning the result again. Returns none if a placeholder is refused.
abbrev pub filled_text : PlaceholderScope → PlaceData → Text → Option Text
filled_text scope at text = filled_parts (meaning_of_name scope at) (slice_split (λ b. b == code "@") text)

-- ---- arguments

-- Returns the paths, and none if there are none.
abbrev pub some_of : List Path → Option (List Text)
some_of [] = None
some_of (p ∷ ps) = Some (p ∷ ps)

-- Returns a list of one argument, if there is one.
abbrev pub one_word : Option Text → Option (List Text)
one_word None = None
one_word (Some text) = Some (text ∷ [])

-- Returns the arguments for a text of the command: all inputs or outputs if it is that placeholder alone.
abbrev pub words_of : PlaceData → Text → Option (List Text)
words_of at text =
    if bytes_eq text (codes "@INPUT@") then some_of at.inputs
    else (if bytes_eq text (codes "@OUTPUT@") then some_of at.outputs else one_word (filled_text Command at text))
