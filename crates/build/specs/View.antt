-- Defines facts and targets, without their place in memory.
use Rattle.std.specs.Prelude.{map, string_bytes, option_map}
use Rattle.build.specs.edge.Texts.{texts}
use Rattle.build.specs.Data as plain
use Rattle.build.specs.declared.facts.Flags.{Flags}
use Rattle.build.specs.declared.facts.Facts.{Facts}
use Rattle.build.specs.declared.facts.OptionEntry.{OptionEntry}
use Rattle.build.specs.declared.facts.OptionValue.{OptionValue}
use Rattle.build.specs.declared.facts.OptionValue.TheVariants as value
use Rattle.build.specs.declared.facts.Surroundings.{Surroundings}
use Rattle.build.specs.declared.target.Source.{Source}
use Rattle.build.specs.declared.target.Source.TheVariants as source
use Rattle.build.specs.declared.target.Lists.{Lists}
use Rattle.build.specs.declared.target.BuildTarget.{BuildTarget}
use Rattle.build.specs.declared.target.CustomTarget.{CustomTarget}
use Rattle.build.specs.declared.target.Target.{Target}
use Rattle.build.specs.declared.target.Target.TheVariants as target

-- Returns the flags of the code as plain data, with each string as its bytes.
abbrev pub flags_view : Flags → plain.FlagsData
flags_view f = record {
  warning_level = f.warning_level;
  is_werror = f.is_werror;
  c_std = string_bytes f.c_std;
  optimization = string_bytes f.optimization;
  is_debug = f.is_debug;
  c_args = texts f.c_args.items;
  c_link_args = texts f.c_link_args.items;
}

-- Returns an option's value of the code as plain data, with each string as its bytes.
abbrev pub option_view : OptionValue → plain.OptionData
option_view (value.Text t) = plain.text (string_bytes t)
option_view (value.Boolean b) = plain.boolean b
option_view (value.Integer n) = plain.integer n
option_view (value.Texts ts) = plain.texts (texts ts.items)

-- Returns a listed option of the code as plain data: its name, its type and its value.
abbrev pub option_entry_view : OptionEntry → plain.OptionEntryData
option_entry_view e = record { name = string_bytes e.name; kind = e.kind; value = option_view e.value }

-- Returns the facts of the code as plain data, with each string as its bytes. Nothing is left out.
abbrev pub facts_view : Facts → plain.FactsData
facts_view f = record {
  name = string_bytes f.name;
  version = string_bytes f.version;
  license = texts f.license.items;
  depth = f.depth;
  source_root = string_bytes f.source_root;
  build_root = string_bytes f.build_root;
  compiler = texts f.compiler.items;
  archiver = texts f.archiver.items;
  flags = flags_view f.flags;
  options = map option_entry_view f.options.items;
}

-- Returns the facts and the project's arguments of the code as plain data, with each string as its bytes.
abbrev pub surroundings_view : Surroundings → plain.SurroundingsData
surroundings_view s = record {
  facts = facts_view s.facts;
  arguments = texts s.arguments.items;
  link_arguments = texts s.link_arguments.items;
}

-- Returns a source of the code as plain data. A list of outputs that targets share in memory becomes a plain list.
abbrev pub source_view : Source → plain.SourceData
source_view (source.Tree path) = plain.Tree (string_bytes path)
source_view (source.Built path) = plain.Built (string_bytes path)
source_view (source.Made paths) = plain.Made (texts paths.value.items)

-- Returns the lists of a target or a dependency as plain data, with each string as its bytes.
abbrev pub lists_view : Lists → plain.ListsData
lists_view l = record {
  sources = map source_view l.sources.items;
  include_folders = texts l.include_folders.items;
  compile_args = texts l.compile_args.items;
  link_args = texts l.link_args.items;
  link_with = l.link_with.items;
}

-- Returns an executable or a library of the code as plain data. Lists that targets share in memory become plain lists.
abbrev pub build_view : BuildTarget → plain.BuildData
build_view t = record {
  kind = t.kind;
  folder = string_bytes t.folder;
  name = string_bytes t.name;
  own = lists_view t.own;
  dependencies = map (λ l. lists_view l.value) t.dependencies.items;
  version = option_map string_bytes t.version;
  soversion = option_map string_bytes t.soversion;
  is_default = t.is_default;
  is_installed = t.is_installed;
}

-- Returns a custom target of the code as plain data, with each string as its bytes. Nothing is left out.
abbrev pub custom_view : CustomTarget → plain.CustomData
custom_view t = record {
  name = string_bytes t.name;
  folder = string_bytes t.folder;
  outputs = texts t.outputs.items;
  inputs = map source_view t.inputs.items;
  needs = map source_view t.needs.items;
  words = texts t.words.items;
  captures = t.captures;
  depfile = option_map string_bytes t.depfile;
  longest = t.longest;
  is_default = t.is_default;
  is_installed = t.is_installed;
}

-- Returns a target of the code as plain data. The code holds it in a box, which is left out.
abbrev pub target_view : Target → plain.TargetData
target_view (target.Build t) = plain.Build (build_view t.value)
target_view (target.Custom t) = plain.Custom (custom_view t.value)
