-- Defines the view of where outputs are installed.
use Rattle.std.specs.Prelude.{string_bytes}
use Rattle.target_calls.specs.CustomInstalls.{WayData}
use Rattle.target_calls.specs.declared.custom_installs.Way.{Way}

-- Returns the plain data of where outputs are installed.
abbrev pub way_view : Way → WayData
way_view w = record { build_root = string_bytes w.build_root; folder = string_bytes w.folder; destination = string_bytes w.destination }
