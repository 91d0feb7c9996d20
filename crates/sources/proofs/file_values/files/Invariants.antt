use Rattle.std.proofs.Common.{◌≡◌, map, drop, string_bytes}
use Rattle.values.specs.Data.{no_items}
use Rattle.values.specs.View.{items_of}
use Rattle.sources.specs.Values.{files_behind}
use Rattle.sources.proofs.file_values.files.Given as goal

-- the files so far and the paths that are left decide
abbrev pub invariant-loop-path : goal.invariant-loop-path
invariant-loop-path l =
    files_behind (items_of l.files.items) (map string_bytes (drop l.path-index l.paths)) ≡ files_behind no_items (map string_bytes l.paths)
