-- Defines the view of settings.
use Rattle.std.specs.Prelude.{map, string_bytes}
use Rattle.world.specs.Settings.{SettingsData}
use Rattle.world.specs.declared.settings.Settings.{Settings}

-- Returns the plain data of settings.
abbrev pub settings_view : Settings → SettingsData
settings_view s = record {
  words = map string_bytes s.words.items;
  depth = s.depth;
  source_root = string_bytes s.source_root;
  build_root = string_bytes s.build_root;
}
