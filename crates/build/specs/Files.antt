-- Defines the files that a target makes.
use Prim.Native.Char.{code}
use Rattle.std.specs.Prelude.{ℕ, Bool, true, false, ◌==◌, List, [], ◌∷◌, ◌++◌, map, bytes_eq, codes, Option, Some, None, option_map}
use Rattle.std.specs.Prelude.{if◌then◌else◌}
use Rattle.build.specs.edge.Texts.{Path, Text}
use Rattle.build.specs.edge.Paths.{object_path}
use Rattle.support.specs.paths.Paths.{path_in}
use Rattle.build.specs.Data.{BuildData, CustomData, TargetData, Build, Custom}
use Rattle.build.specs.Sources.{compiled_inputs}
use Rattle.build.specs.declared.target.TargetKind.{TargetKind}
use Rattle.build.specs.declared.target.TargetKind.TheVariants.{Executable, StaticLibrary, SharedLibrary}

-- Returns whether a target of this kind is a static library.
abbrev pub is_static : TargetKind → Bool
is_static StaticLibrary = true
is_static _ = false

-- Returns whether a target of this kind is a shared library.
abbrev pub is_shared : TargetKind → Bool
is_shared SharedLibrary = true
is_shared _ = false

-- Returns whether a target of this kind is a static or a shared library.
abbrev pub is_library : TargetKind → Bool
is_library Executable = false
is_library _ = true

-- Returns the first number of a version: `1` of `1.2.3`.
abbrev pub first_number : Text → Text
first_number [] = []
first_number (b ∷ bs) = if b == code "." then [] else b ∷ first_number bs

-- Returns `soversion`, or the first number of `version`.
abbrev pub so_number : Option Text → Option Text → Option Text
so_number version None = option_map first_number version
so_number version (Some soversion) = Some soversion

-- Returns `version`, or `soversion`.
abbrev pub file_number : Option Text → Option Text → Option Text
file_number None soversion = soversion
file_number (Some version) soversion = Some version

-- Returns `libNAME.so`, with a number after it.
abbrev pub numbered_so : Text → Option Text → Text
numbered_so name None = codes "lib" ++ (name ++ codes ".so")
numbered_so name (Some number) = codes "lib" ++ (name ++ (codes ".so." ++ number))

-- Returns the name by which a starting program finds a shared library: `libNAME.so.S`, or `libNAME.so`.
abbrev pub so_name : BuildData → Text
so_name t = numbered_so t.name (so_number t.version t.soversion)

-- Returns the name of the file of a kind.
abbrev pub file_name_of : TargetKind → BuildData → Text
file_name_of Executable t = t.name
file_name_of StaticLibrary t = codes "lib" ++ (t.name ++ codes ".a")
file_name_of SharedLibrary t = numbered_so t.name (file_number t.version t.soversion)

-- Returns the name of the target's file: `NAME`, `libNAME.a` or `libNAME.so`. After a dot follows a shared library's `version`, or else
-- its `soversion`, if it has one.
abbrev pub file_name : BuildData → Text
file_name t = file_name_of t.kind t

-- Returns the path of the target's file.
abbrev pub file_path : BuildData → Path
file_path t = path_in t.folder (file_name t)

-- Returns the names of the links to a shared library with a number: `libNAME.so.S`, unless it is the file itself, and `libNAME.so`.
abbrev pub numbered_names : Option Text → BuildData → List Text
numbered_names None t = []
numbered_names (Some number) t = (if bytes_eq (so_name t) (file_name t) then [] else so_name t ∷ []) ++ numbered_so t.name None ∷ []

-- Returns the names of the symbolic links to the target's file, given its kind. Only a shared library with a number has any.
abbrev pub link_names_of : TargetKind → BuildData → List Text
link_names_of Executable t = []
link_names_of StaticLibrary t = []
link_names_of SharedLibrary t = numbered_names (so_number t.version t.soversion) t

-- Returns the names of the symbolic links to the target's file. The links are in the folder of that file.
abbrev pub link_names : BuildData → List Text
link_names t = link_names_of t.kind t

-- Returns the paths of the symbolic links.
abbrev pub link_paths : BuildData → List Path
link_paths t = map (path_in t.folder) (link_names t)

-- Returns the objects of the sources that are compiled.
abbrev pub object_paths : ℕ → BuildData → List Path
object_paths depth t = map (λ i. object_path (file_path t) i.name) (compiled_inputs depth t)

-- Returns the outputs of a custom target.
abbrev pub output_paths : CustomData → List Path
output_paths t = map (path_in t.folder) t.outputs

-- Returns the path of the file in which the command of a custom target lists what it has read.
abbrev pub depfile_path : CustomData → Option Path
depfile_path t = option_map (path_in t.folder) t.depfile

-- Returns the paths by which the edge `all` names a target: its outputs and symbolic links.
abbrev pub default_paths : TargetData → List Path
default_paths (Build t) = file_path t ∷ link_paths t
default_paths (Custom t) = output_paths t
