-- Defines the edges of a target, given the earlier targets.
--
-- For an executable, each C source is compiled to an object, and the objects and libraries are linked to its file. For a static library,
-- the objects are put into an archive. A shared library is linked, and if it has a number, symbolic links lead to its file. A custom target
-- has one edge.
use Rattle.std.specs.Prelude.{ℕ, List, [], ◌∷◌, ◌++◌, map, flat_map, codes, Option, Some, None, if◌then◌else◌}
use Rattle.build.specs.edge.Texts.{Path, Text}
use Rattle.build.specs.edge.Paths.{object_path}
use Rattle.build.specs.edge.Data.{EdgeData}
use Rattle.build.specs.declared.edge.rule.EdgeRule.{EdgeRule}
use Rattle.build.specs.declared.edge.rule.EdgeRule.TheVariants as rule
use Rattle.build.specs.Data.{SurroundingsData, BuildData, CustomData, TargetData, Build, Custom}
use Rattle.build.specs.Sources.{InputData, compiled_inputs, generated_paths, source_paths}
use Rattle.build.specs.Files.{file_name, file_path, link_paths, object_paths, output_paths, depfile_path, is_static}
use Rattle.build.specs.Libraries.{DeclaredTargetData, declared_target}
use Rattle.build.specs.target_edges.Words.{compile_words, link_words, library_files}

-- ---- compiling

-- Returns the words of a compile command that differ between sources.
abbrev pub source_words : (object depfile source : Path) → List Text
source_words object depfile source =
    codes "-MD" ∷ codes "-MQ" ∷ object ∷ codes "-MF" ∷ depfile ∷ codes "-o" ∷ object ∷ codes "-c" ∷ source ∷ []

-- Returns the edge that compiles a source. The compiler lists the headers that it has read in `OBJ.d`.
abbrev pub object_edge : (words : List Text) (generated : List Path) (object source : Path) → EdgeData
object_edge words generated object source = record {
  rule = rule.CCompile;
  outputs = object ∷ [];
  inputs = source ∷ [];
  implicit = [];
  order_only = generated;
  words = words ++ source_words object (object ++ codes ".d") source;
  redirect = None;
  description = codes "Compiling C object " ++ object;
  depfile = Some (object ++ codes ".d");
}

-- Returns the edge of an input, for the target whose file is `file`.
abbrev pub compile_edge : (words : List Text) (generated : List Path) (file : Path) → InputData → EdgeData
compile_edge words generated file i = object_edge words generated (object_path file i.name) i.path

-- Returns the edges that compile the target's sources.
abbrev pub compile_edges : SurroundingsData → BuildData → List EdgeData
compile_edges s t = map (compile_edge (compile_words s t) (generated_paths t) (file_path t)) (compiled_inputs s.facts.depth t)

-- ---- the file

-- Returns the edge that puts objects into an archive.
abbrev pub archive_edge : (archiver : List Text) (file : Path) (objects : List Path) → EdgeData
archive_edge archiver file objects = record {
  rule = rule.Ar;
  outputs = file ∷ [];
  inputs = objects;
  implicit = [];
  order_only = [];
  words = archiver ++ (codes "csr" ∷ file ∷ objects);
  redirect = None;
  description = codes "Archiving " ++ file;
  depfile = None;
}

-- Returns the edge that links objects and libraries.
abbrev pub link_edge : (words : List Text) (file : Path) (objects libraries : List Path) → EdgeData
link_edge words file objects libraries = record {
  rule = rule.CLink;
  outputs = file ∷ [];
  inputs = objects;
  implicit = libraries;
  order_only = [];
  words = words;
  redirect = None;
  description = codes "Linking target " ++ file;
  depfile = None;
}

-- Returns the edge that makes the target's file from its objects.
abbrev pub file_edge : SurroundingsData → List DeclaredTargetData → List ℕ → BuildData → (file : Path) (objects : List Path) → EdgeData
file_edge s earlier ns t file objects =
    if is_static t.kind then archive_edge s.facts.archiver file objects
    else link_edge (link_words s earlier ns t file objects) file objects (library_files earlier ns)

-- ---- symbolic links

-- Returns the edge that makes a symbolic link to a file.
abbrev pub symlink_edge : (file : Path) (name : Text) (link : Path) → EdgeData
symlink_edge file name link = record {
  rule = rule.Symlink;
  outputs = link ∷ [];
  inputs = file ∷ [];
  implicit = [];
  order_only = [];
  words = codes "ln" ∷ codes "-f" ∷ codes "-s" ∷ name ∷ link ∷ [];
  redirect = None;
  description = codes "Linking name " ++ link;
  depfile = None;
}

-- Returns the edges that make the target's symbolic links.
abbrev pub link_edges : BuildData → List EdgeData
link_edges t = map (symlink_edge (file_path t) (file_name t)) (link_paths t)

-- ---- custom targets

-- Returns the first path, and none if the list is empty.
abbrev pub first_of : List Path → Option Path
first_of [] = None
first_of (p ∷ ps) = Some p

-- Returns the rule of a custom target, which may have a depfile.
abbrev pub custom_rule : Option Text → EdgeRule
custom_rule None = rule.Custom
custom_rule (Some depfile) = rule.CustomDep

-- Returns a space and the path, to be appended to a description.
abbrev pub and_path : Path → Text
and_path path = codes " " ++ path

-- Returns the edge of a custom target.
abbrev pub custom_edge : ℕ → CustomData → EdgeData
custom_edge depth t = record {
  rule = custom_rule t.depfile;
  outputs = output_paths t;
  inputs = flat_map (source_paths depth) t.inputs;
  implicit = flat_map (source_paths depth) t.needs;
  order_only = [];
  words = t.words;
  redirect = if t.captures then first_of (output_paths t) else None;
  description = codes "Generating" ++ flat_map and_path (output_paths t);
  depfile = depfile_path t;
}

-- ---- all edges

-- Returns the edges of a build target that links these libraries, by their numbers.
abbrev pub build_edges : SurroundingsData → List DeclaredTargetData → List ℕ → BuildData → List EdgeData
build_edges s earlier ns t = compile_edges s t ++ (file_edge s earlier ns t (file_path t) (object_paths s.facts.depth t) ∷ link_edges t)

-- Returns the edges of a target that links these libraries.
abbrev pub target_edges : SurroundingsData → List DeclaredTargetData → List ℕ → TargetData → List EdgeData
target_edges s earlier ns (Build t) = build_edges s earlier ns t
target_edges s earlier ns (Custom t) = custom_edge s.facts.depth t ∷ []

-- Returns the edges of a target, given the earlier targets.
abbrev pub edges_of : SurroundingsData → List DeclaredTargetData → DeclaredTargetData → List EdgeData
edges_of s earlier l = target_edges s earlier l.libraries l.target

-- Returns the edges of targets, given the earlier ones.
abbrev pub edges_after : SurroundingsData → List DeclaredTargetData → List TargetData → List EdgeData
edges_after s earlier [] = []
edges_after s earlier (t ∷ ts) =
    edges_of s earlier (declared_target earlier t) ++ edges_after s (earlier ++ declared_target earlier t ∷ []) ts

-- Returns the edges of all targets, in the order of their declaration.
abbrev pub all_edges : SurroundingsData → List TargetData → List EdgeData
all_edges s ts = edges_after s [] ts
