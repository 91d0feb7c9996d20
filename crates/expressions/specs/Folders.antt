-- Defines how folders are entered, and how their definition files are read.
use Rattle.std.specs.Prelude.{ℕ, List, [], length, nat_lt, not, bytes_eq, Option, Some, None, refl}
use Rattle.std.specs.List.{list_any}
use Rattle.syntax.specs.Tree.{Statements}
use Rattle.arguments.specs.Rules.{breach_message}
use Rattle.arguments.specs.declared.rule.Rule.TheVariants as rules
use Rattle.support.specs.declared.faults.refusal.Refusal.TheVariants as refusals
use Rattle.support.specs.paths.Paths.{folder_below}
use Rattle.world.specs.Costs.{definition_file}
use Rattle.world.specs.World.{Facts, with_place}
use Rattle.world.specs.Deed.{refuse, ask, read, change, need}
use Rattle.world.specs.DefinitionFiles.{statements_of_bytes}
use Rattle.world.specs.Plan.{Plan, deed, enter, entered, ◌>>=◌, give}

-- Makes the first line of a folder's definition file the present place.
abbrev pub go_to : List ℕ → Plan (Unit {0})
go_to folder = deed (change (with_place (definition_file folder) folder 1) (λ facts. refl))

-- Makes an earlier place the present one again.
abbrev pub go_back : Facts → Plan (Unit {0})
go_back outer = deed (change (with_place outer.file outer.folder outer.line) (λ facts. refl))

-- Enters a folder whose definition file has these bytes, and refuses one without a definition file (E14).
abbrev pub opened_by : List ℕ → Option (List ℕ) → Plan Statements
opened_by folder None = deed (refuse refusals.FileMissing (definition_file folder))
opened_by folder (Some bytes) = do
  _ ← enter folder
  _ ← go_to folder
  deed (statements_of_bytes bytes)

-- Returns the statements of a folder's definition file, and refuses with E14 if it is absent. The folder counts as entered before its file
-- is read.
abbrev pub statements_of_folder : List ℕ → Plan Statements
statements_of_folder folder = do
  bytes ← deed (ask (definition_file folder))
  opened_by folder bytes

-- Returns the folder that a text names, unless it was entered before. Refuses with E12 about the text otherwise.
abbrev pub fresh_by : List ℕ → Option (List ℕ) → List (List ℕ) → Plan (List ℕ)
fresh_by text None folders = deed (refuse refusals.Subdir (breach_message rules.IsBelow text))
fresh_by text (Some folder) folders = do
  _ ← deed (need (not (list_any (bytes_eq folder) folders)) refusals.Subdir (breach_message rules.IsNew text))
  _ ← deed (need (nat_lt (length folders) 4096) refusals.Limit [])
  give folder

-- Returns the folder that a text names, unless it was entered before. At most 4,096 folders are entered.
abbrev pub fresh : List ℕ → Plan (List ℕ)
fresh text = do
  facts ← deed read
  folders ← entered
  fresh_by text (folder_below facts.folder text) folders
