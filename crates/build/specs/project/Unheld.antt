-- Defines which text of a target `build.ninja` can't hold (E21).
use Rattle.std.specs.Prelude.{not, List, [], ◌∷◌, Option, Some, None, if◌then◌else◌}
use Rattle.std.specs.List.{find}
use Rattle.std.specs.Option.{option_or, unwrap_or}
use Rattle.build.specs.edge.Texts.{Path, Text}
use Rattle.build.specs.edge.Holding.{path_held, value_held}
use Rattle.build.specs.Data.{SourceData, Tree, Built, Made, ListsData, BuildData, CustomData, TargetData, Build, Custom}

infixl 10 ◌or◌
-- Returns the first text, or the second if there is no first one.
abbrev pub ◌or◌ : Option Text → Option Text → Option Text
first or second = option_or first second

-- ---- the first text that it can't hold

-- Returns the path unless `build.ninja` can hold it.
abbrev pub unheld_path : Path → Option Path
unheld_path path = if path_held path then None else Some path

-- Returns the first path that it can't hold.
abbrev pub unheld_paths : List Path → Option Path
unheld_paths paths = find (λ p. not (path_held p)) paths

-- Returns the first word that it can't hold.
abbrev pub unheld_words : List Text → Option Text
unheld_words words = find (λ w. not (value_held w)) words

-- Returns the path if there is one and `build.ninja` can't hold it.
abbrev pub unheld_path_if : Option Path → Option Path
unheld_path_if None = None
unheld_path_if (Some path) = unheld_path path

-- Returns the word if there is one and `build.ninja` can't hold it.
abbrev pub unheld_word_if : Option Text → Option Text
unheld_word_if None = None
unheld_word_if (Some word) = if value_held word then None else Some word

-- Returns the path, unless `build.ninja` can hold it. It can hold what another target makes.
abbrev pub unheld_source : SourceData → Option Path
unheld_source (Tree path) = unheld_path path
unheld_source (Built path) = unheld_path path
unheld_source (Made paths) = None

-- Returns the path of the first source that `build.ninja` can't hold. Outputs of other targets are not checked.
abbrev pub unheld_sources : List SourceData → Option Path
unheld_sources [] = None
unheld_sources (s ∷ ss) = unheld_source s or unheld_sources ss

-- ---- of a target

-- Returns the first text of these lists that it can't hold.
abbrev pub unheld_lists : ListsData → Option Text
unheld_lists l =
    unheld_sources l.sources or unheld_words l.include_folders or unheld_words l.compile_args or unheld_words l.link_args

-- Returns the first text of the dependencies' lists that it can't hold.
abbrev pub unheld_brought : List ListsData → Option Text
unheld_brought [] = None
unheld_brought (l ∷ ls) = unheld_lists l or unheld_brought ls

-- Looks at the target's folder, its name and number, its lists, and the lists of its dependencies.
abbrev pub unheld_of_build : BuildData → Option Text
unheld_of_build t =
    unheld_path t.folder or unheld_path t.name or unheld_path_if t.soversion or unheld_lists t.own or unheld_brought t.dependencies

-- Looks at the target's folder, its outputs, its sources, and its command.
abbrev pub unheld_of_custom : CustomData → Option Text
unheld_of_custom t =
    unheld_path t.folder or unheld_paths t.outputs or unheld_sources t.inputs or unheld_sources t.needs
    or unheld_words t.words or unheld_word_if t.depfile

-- Returns the first text that it can't hold. If there is none, a word of each command is at fault, and the target's name is returned.
abbrev pub unheld_text : TargetData → Text
unheld_text (Build t) = unwrap_or (unheld_of_build t) t.name
unheld_text (Custom t) = unwrap_or (unheld_of_custom t) t.name

-- Returns the first of these words.
abbrev pub unheld_word : List Text → Text
unheld_word words = unwrap_or (unheld_words words) []
