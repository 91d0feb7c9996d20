-- Defines which rule a refused target breaks, and by which text or keyword.
use Rattle.std.specs.Prelude.{ℕ, List, [], ◌∷◌, ◌++◌, Option, Some, None, codes, if◌then◌else◌}
use Rattle.std.specs.Option.{option_to_list, unwrap_or}
use Rattle.arguments.specs.declared.rule.Rule.{Rule}
use Rattle.arguments.specs.declared.rule.Rule.TheVariants as rules
use Rattle.build.specs.edge.Texts.{Path, Text}
use Rattle.support.specs.paths.Names.{is_file_name}
use Rattle.build.specs.project.Adding.{is_target_name}
use Rattle.build.specs.project.World.{WorldData}
use Rattle.build.specs.Data.{Build, BuildData, Built, Custom, CustomData, ListsData, Made, SourceData, TargetData, Tree}
use Rattle.build.specs.Files.{file_name, link_names}
use Rattle.build.specs.Libraries.{DeclaredTargetData, linked_of, links_libraries}
use Rattle.build.specs.Sources.{is_foreign}

-- A rule, and the text or the keyword that breaks it.
abbrev pub Breach : Type 0
Breach = Rule × List ℕ

-- Returns the first path, and otherwise the later one.
abbrev pub or_later : Option Path → Option Path → Option Path
or_later (Some path) later = Some path
or_later None later = later

-- ---- names

-- Returns the first name that no file may have.
abbrev pub bad_name : List Text → Option Text
bad_name [] = None
bad_name (n ∷ ns) = if is_file_name n then bad_name ns else Some n

-- ---- sources

-- Returns the path of a source, which is empty for outputs of targets.
abbrev pub path_of : SourceData → Path
path_of (Tree path) = path
path_of (Built path) = path
path_of (Made paths) = []

-- Returns the path of a file that is neither a C source nor a header.
abbrev pub foreign_path : SourceData → Option Path
foreign_path s = if is_foreign s then Some (path_of s) else None

-- Returns the first of some sources that is neither a C source nor a header.
abbrev pub foreign_in : List SourceData → Option Path
foreign_in [] = None
foreign_in (s ∷ ss) = or_later (foreign_path s) (foreign_in ss)

-- Returns the first of the dependencies' sources that is neither a C source nor a header.
abbrev pub foreign_among : List ListsData → Option Path
foreign_among [] = None
foreign_among (l ∷ ls) = or_later (foreign_in l.sources) (foreign_among ls)

-- Returns the first such file among the sources of the target, and then of its dependencies.
abbrev pub foreign_of : BuildData → Option Path
foreign_of t = or_later (foreign_in t.own.sources) (foreign_among t.dependencies)

-- ---- the target

-- Returns what breaks a rule about sources or linked libraries.
abbrev pub source_breach : List DeclaredTargetData → BuildData → Option Path → Breach
source_breach earlier t (Some path) = (rules.IsSource, path)
source_breach earlier t None =
    if links_libraries earlier t then (rules.HasSource, t.name) else (rules.TakesLibraries, codes "link_with")

-- Returns what a target breaks: the rule about names of files if a name is bad, and otherwise one about sources or linked libraries.
abbrev pub file_breach : List DeclaredTargetData → BuildData → Option Text → Breach
file_breach earlier t (Some name) = (rules.IsFileName, name)
file_breach earlier t None = source_breach earlier t (foreign_of t)

-- Returns what breaks a rule: the target's name, a name of its files, a bad source file, a linked target that is no library, or a lack of
-- sources.
abbrev pub build_fit : List DeclaredTargetData → BuildData → Breach
build_fit earlier t =
    if is_target_name t.name then file_breach earlier t (bad_name (file_name t ∷ link_names t)) else (rules.IsTargetName, t.name)

-- Returns what breaks a rule: the name of an output or of the depfile.
abbrev pub custom_fit : CustomData → Breach
custom_fit t = (rules.IsFileName, unwrap_or (bad_name (t.outputs ++ option_to_list t.depfile)) [])

-- Returns the rule that a refused target breaks, and the text or the keyword that breaks it.
abbrev pub fit_breach : WorldData → TargetData → Breach
fit_breach p (Build t) = build_fit (linked_of p.targets) t
fit_breach p (Custom t) = custom_fit t
