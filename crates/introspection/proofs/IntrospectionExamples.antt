-- The text of a document that is written out.
use Rattle.std.proofs.Common.{◌≡◌, true, false, None, Some, [], ◌∷◌, ◌++◌, codes, refl}
use Rattle.std.specs.Prelude.{pos}
use Rattle.std.specs.Fmt.{digits}
use Rattle.serde_json.proofs.OnLiterals.{serde_json_on_literals}
use Rattle.build.specs.Data.{FactsData, text, boolean, integer, texts, BuildData, CustomData, Build, Custom}
use Rattle.build.specs.declared.facts.OptionType.TheVariants as types
use Rattle.build.specs.declared.target.TargetKind.TheVariants.{SharedLibrary}
use Rattle.build.specs.project.World.{WorldData, new_world}
use Rattle.introspection.specs.Document.{definition_file, document_of, document_text}

abbrev facts : FactsData
facts = record {
  name = codes "p";
  version = codes "undefined";
  license = [];
  depth = 1;
  source_root = codes "/s";
  build_root = codes "/s/build";
  compiler = codes "cc" ∷ [];
  archiver = codes "ar" ∷ [];
  flags = record {
    warning_level = 1;
    is_werror = false;
    c_std = codes "none";
    optimization = codes "0";
    is_debug = true;
    c_args = [];
    c_link_args = [];
  };
  options = record { name = codes "prefix"; kind = types.String; value = text (codes "/usr/local") }
      ∷ record { name = codes "werror"; kind = types.Boolean; value = boolean false }
      ∷ record { name = codes "size"; kind = types.Integer; value = integer (pos 12) }
      ∷ record { name = codes "c_args"; kind = types.Array; value = texts (codes "-Da=\"b\"" ∷ []) }
      ∷ [];
}

-- a shared library with a number, whose symbolic link is not shown
abbrev library : BuildData
library = record {
  kind = SharedLibrary;
  folder = codes "lib";
  name = codes "a";
  own = record { sources = []; include_folders = []; compile_args = []; link_args = []; link_with = [] };
  dependencies = [];
  version = None;
  soversion = Some (codes "1");
  is_default = true;
  is_installed = true;
}

abbrev made : CustomData
made = record {
  name = codes "made";
  folder = [];
  outputs = codes "a.c" ∷ codes "a.h" ∷ [];
  inputs = [];
  needs = [];
  words = codes "true" ∷ [];
  captures = false;
  depfile = None;
  longest = 1;
  is_default = false;
  is_installed = false;
}

-- of one file the last place counts
abbrev full : WorldData
full = record (new_world facts) {
  targets = Build library ∷ Custom made ∷ [];
  present = codes "meson.build" ∷ codes "a.c" ∷ [];
  absent = codes "meson.options" ∷ [];
  dependencies = record { name = codes "m"; version = codes "1.2"; is_found = true } ∷ [];
  installs = record { source = codes "/s/b"; destination = codes "/x" }
      ∷ record { source = codes "/s/a"; destination = codes "/y" }
      ∷ record { source = codes "/s/b"; destination = codes "/z" }
      ∷ [];
  tests = record {
    name = codes "t";
    command = codes "/s/build/t" ∷ [];
    environment = codes "K=v" ∷ [];
    suites = codes "one" ∷ codes "two" ∷ [];
    should_fail = false;
    timeout = pos 30;
  } ∷ [];
}

nothing_declared : document_text (new_world facts) ≡
    codes "{\"buildoptions\":[{\"name\":\"prefix\",\"type\":\"string\",\"value\":\"/usr/local\"}," ++ (
    codes "{\"name\":\"werror\",\"type\":\"boolean\",\"value\":false},{\"name\":\"size\",\"type\":\"integer\",\"value\":12}," ++ (
    codes "{\"name\":\"c_args\",\"type\":\"array\",\"value\":[\"-Da=\\\"b\\\"\"]}],\"buildsystem_files\":{\"absent\":[]," ++ (
    codes "\"present\":[]},\"dependencies\":[],\"installed\":{},\"projectinfo\":{\"license\":[]," ++
    codes "\"name\":\"p\",\"version\":\"undefined\"},\"targets\":[],\"tests\":[]}")))
unfolding document_of digits serde_json_on_literals
nothing_declared = refl

all_declared : document_text full ≡
    codes "{\"buildoptions\":[{\"name\":\"prefix\",\"type\":\"string\",\"value\":\"/usr/local\"}," ++ (
    codes "{\"name\":\"werror\",\"type\":\"boolean\",\"value\":false},{\"name\":\"size\",\"type\":\"integer\",\"value\":12}," ++ (
    codes "{\"name\":\"c_args\",\"type\":\"array\",\"value\":[\"-Da=\\\"b\\\"\"]}]," ++ (
    codes "\"buildsystem_files\":{\"absent\":[\"meson.options\"],\"present\":[\"meson.build\",\"a.c\"]}," ++ (
    codes "\"dependencies\":[{\"found\":true,\"name\":\"m\",\"version\":\"1.2\"}],\"installed\":{\"/s/a\":\"/y\",\"/s/b\":\"/z\"}," ++ (
    codes "\"projectinfo\":{\"license\":[],\"name\":\"p\",\"version\":\"undefined\"}," ++ (
    codes "\"targets\":[{\"build_by_default\":true,\"defined_in\":\"lib/meson.build\",\"filename\":[\"lib/liba.so.1\"]," ++ (
    codes "\"installed\":true,\"name\":\"a\",\"type\":\"shared library\"}," ++ (
    codes "{\"build_by_default\":false,\"defined_in\":\"meson.build\",\"filename\":[\"a.c\",\"a.h\"]," ++ (
    codes "\"installed\":false,\"name\":\"made\",\"type\":\"custom\"}],\"tests\":[{\"cmd\":[\"/s/build/t\"],\"env\":[\"K=v\"]," ++
    codes "\"name\":\"t\",\"should_fail\":false,\"suite\":[\"one\",\"two\"],\"timeout\":30}]}")))))))))
unfolding definition_file document_of digits serde_json_on_literals
all_declared = refl
