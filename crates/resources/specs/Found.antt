-- Defines the objects that `dependency` and `find_program` return.
use Rattle.std.specs.Prelude.{ℕ, true, false, List, [], Result, Ok, codes}
use Rattle.support.specs.ResultSteps.{◌>>=◌}
use Rattle.values.specs.declared.object.Dependency.{Dependency}
use Rattle.values.specs.declared.refusal.OperationRefusal.{OperationRefusal}
use Rattle.values.specs.declared.refusal.OperationRefusal.TheVariants as refusal
use Rattle.values.specs.Limits.{within_bytes}
use Rattle.values.specs.Copies.{within_texts}

-- Returns a dependency that has only arguments for the compiler and the linker.
abbrev pub of_arguments : List ℕ → List ℕ → List (List ℕ) → List (List ℕ) → Dependency
of_arguments name version compile_args link_args = record {
  is_found = true;
  name = name;
  version = version;
  include_directories = [];
  compile_args = compile_args;
  link_args = link_args;
  link_with = [];
  sources = [];
}

-- Returns the dependency with this name, version and arguments, or the refusal if one is too large.
abbrev pub found_dependency : (name version : List ℕ) (compile_args link_args : List (List ℕ)) → Result Dependency OperationRefusal
found_dependency name version compile_args link_args = do
  its_name ← within_bytes name
  its_version ← within_bytes version
  to_compile ← within_texts compile_args
  to_link ← within_texts link_args
  Ok (of_arguments its_name its_version to_compile to_link)

-- Returns a dependency that was not found, which has only a name.
abbrev pub absent : List ℕ → Dependency
absent name = record {
  is_found = false;
  name = name;
  version = codes "unknown";
  include_directories = [];
  compile_args = [];
  link_args = [];
  link_with = [];
  sources = [];
}

-- Returns the dependency with this name that was not found, or the refusal if the name is too long.
abbrev pub missing_dependency : List ℕ → Result Dependency OperationRefusal
missing_dependency name = do
  its_name ← within_bytes name
  Ok (absent its_name)
