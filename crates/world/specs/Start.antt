-- Defines the world in which a run begins.
use Rattle.std.specs.Prelude.{List, [], None, false, codes}
use Rattle.machine_file.specs.Files.{Section}
use Rattle.build.specs.project.World.{new_world}
use Rattle.build.specs.Data.{FactsData, unset_flags}
use Rattle.world.specs.Settings.{SettingsData}
use Rattle.world.specs.World.{World}

-- Returns the facts of a project before `project` is called: its directories. All else is empty or off.
abbrev pub facts_before_project : SettingsData → FactsData
facts_before_project s = record {
  name = [];
  version = [];
  license = [];
  depth = s.depth;
  source_root = s.source_root;
  build_root = s.build_root;
  compiler = [];
  archiver = [];
  flags = unset_flags;
  options = [];
}

-- Returns the first world, at the first line of the root file: there are no variables or declarations, and nothing was entered, looked at
-- or asked.
abbrev pub first_world : SettingsData → List Section → World
first_world s machine = record {
  facts = record {
    file = codes "meson.build";
    folder = [];
    line = 1;
    settings = s;
    variables = λ _. None;
    options = [];
    configurations = [];
    is_begun = false;
    project = new_world (facts_before_project s);
  };
  machine = machine;
  entered = [];
  looked = [];
  asked = [];
}
