-- Defines `files` and `include_directories`, which make values of paths in the source directory.
use Rattle.std.specs.Prelude.{ℕ, List, [], ◌∷◌, Option, Some}
use Rattle.arguments.specs.Arguments.{ArgumentsData}
use Rattle.arguments.specs.Each.{each_said}
use Rattle.arguments.specs.Said.{Said, found_value}
use Rattle.arguments.specs.declared.rule.Rule.{Rule}
use Rattle.arguments.specs.declared.rule.Rule.TheVariants as rules
use Rattle.values.specs.Data.{Data}
use Rattle.values.specs.Flat.{flat_all}
use Rattle.support.specs.paths.Paths.{folder_path, tree_path}
use Rattle.world.specs.Deed.{Deed, give, read, ◌>>=◌, answer_or_refusal, required_file}
use Rattle.world.specs.Fit.{deed_of_result}
use Rattle.world.specs.Here.{HereData, here_of}
use Rattle.sources.specs.Values.{directories_at, files_at}
use Rattle.target_calls.specs.declared.tree.Wanted.{Wanted}
use Rattle.target_calls.specs.declared.tree.Wanted.TheVariants as wants

-- Returns the file or the folder that a text of the present definition file names. The root is a folder.
abbrev pub path_named : HereData → Wanted → List ℕ → Option (List ℕ)
path_named here wants.File t = tree_path here.source_root here.folder t
path_named here wants.Folder t = folder_path here.source_root here.folder t

-- Returns the rule that a text breaks if it names nothing.
abbrev pub rule_of : Wanted → Rule
rule_of wants.File = rules.NamesFile
rule_of wants.Folder = rules.NamesFolder

-- Returns the path that a text names. A text that names none breaks a rule.
abbrev pub named_by : HereData → Wanted → List ℕ → Said (List ℕ)
named_by here wanted t = found_value (path_named here wanted t) (rule_of wanted) t

-- Returns the paths that all texts name. The first text that names none breaks a rule.
abbrev pub paths_named : HereData → Wanted → List (List ℕ) → Said (List (List ℕ))
paths_named here wanted ts = each_said (named_by here wanted) [] ts

-- Returns the paths of the files or folders that texts name, and refuses a text that names none with E9.
unfoldable pub named_paths : Wanted → List (List ℕ) → Deed (List (List ℕ))
named_paths wanted ts = do
  facts ← read
  deed_of_result (paths_named (here_of facts) wanted ts)

-- Refuses the call at the first of these files that is missing (E14).
unfoldable pub all_required : List (List ℕ) → Deed (Unit {0})
all_required [] = give tt
all_required (p ∷ ps) = do
  _ ← required_file p
  all_required ps

-- Returns the list of the files that texts name (`files`). If one text names no file, none is looked at.
unfoldable pub files : ArgumentsData → Deed (Option Data)
files a = do
  ps ← named_paths wants.File (flat_all a.positional)
  _ ← all_required ps
  d ← answer_or_refusal (files_at ps)
  give (Some d)

-- Returns the object of the directories that texts name (`include_directories`). It does not check whether the directories exist, and
-- ignores the keyword `is_system`.
unfoldable pub include_directories : ArgumentsData → Deed (Option Data)
include_directories a = do
  ps ← named_paths wants.Folder (flat_all a.positional)
  d ← answer_or_refusal (directories_at ps)
  give (Some d)
