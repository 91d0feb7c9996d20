-- Libraries that a person worked out, which the definitions have to give.
use Rattle.std.proofs.Common.{◌≡◌, ℕ, true, false, List, [], ◌∷◌, Some, None, map, codes, refl}
use Rattle.build.specs.edge.Texts.{Text}
use Rattle.build.specs.Data.{TargetData, Build, Tree, BuildData}
use Rattle.build.specs.Files.{file_name, so_name}
use Rattle.build.specs.Libraries.{linked_of}
use Rattle.build.specs.declared.target.TargetKind.{TargetKind}
use Rattle.build.specs.declared.target.TargetKind.TheVariants.{Executable, StaticLibrary, SharedLibrary}

-- a target of the root, of one source, that links these
abbrev target : TargetKind → Text → List ℕ → BuildData
target kind name numbers = record {
  kind = kind;
  folder = [];
  name = name;
  own = record { sources = Tree (codes "x.c") ∷ []; include_folders = []; compile_args = []; link_args = []; link_with = numbers };
  dependencies = [];
  version = None;
  soversion = None;
  is_default = true;
  is_installed = false;
}

abbrev libraries : List TargetData → List (List ℕ)
libraries targets = map (λ l. l.libraries) (linked_of targets)

-- a ladder of static libraries: each stands before those that it uses, once
ladder : libraries (Build (target StaticLibrary (codes "a") []) ∷ Build (target StaticLibrary (codes "b") (0 ∷ [])) ∷ Build (target StaticLibrary (codes "c") (1 ∷ 0 ∷ []))
    ∷ Build (target Executable (codes "e") (0 ∷ 2 ∷ [])) ∷ [])
    ≡ [] ∷ (0 ∷ []) ∷ (1 ∷ 0 ∷ []) ∷ (2 ∷ 1 ∷ 0 ∷ []) ∷ []
ladder = refl

-- what a shared library links it keeps for itself
shared : libraries (Build (target StaticLibrary (codes "a") []) ∷ Build (target SharedLibrary (codes "s") (0 ∷ [])) ∷ Build (target Executable (codes "e") (1 ∷ [])) ∷ [])
    ≡ [] ∷ (0 ∷ []) ∷ (1 ∷ []) ∷ []
shared = refl

-- the file of a shared library with a version, and the name by which it is found
file_of : file_name (record (target SharedLibrary (codes "foo") []) { version = Some (codes "1.2.3") }) ≡ codes "libfoo.so.1.2.3"
file_of = refl

found_as : so_name (record (target SharedLibrary (codes "foo") []) { version = Some (codes "1.2.3") }) ≡ codes "libfoo.so.1"
found_as = refl
