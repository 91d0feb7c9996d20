-- Defines what a tree in memory shows: its files, and whether the next call fails.
use Rattle.std.specs.Prelude.{ℕ, Bool, true, List, map, String, Vec, string_bytes}
use Rattle.std.specs.declared.alloc.Global.{Global}
use Rattle.std.specs.List.{list_any}
use Rattle.std.specs.Option.{option_map_or}
use Rattle.std.specs.Str.{bytes_eq}
use Rattle.ports.specs.memory.Plan.{Planned}
use Rattle.ports.specs.Tree.{TreeState}
use Rattle.ports.specs.declared.memory.tree.MemTree.{MemTree}
use Rattle.ports.specs.declared.memory.plan.TreeCall.{TreeCall}

-- Returns the paths and bytes of these pairs.
abbrev pub contents : List (String Global × Vec ℕ Global) → List (List ℕ × List ℕ)
contents files = map (λ file. (string_bytes file.0, file.1.items)) files

-- Returns the state of a tree in memory, which is always steady.
abbrev pub mem_tree_seen : MemTree → TreeState
mem_tree_seen tree = record { files = contents tree.files.entries; failures = tree.failures; steady = true }

-- Returns the plan of the tree.
abbrev pub mem_tree_plan : MemTree → Planned TreeCall
mem_tree_plan tree = record { piece = tree.plan.piece; kind = tree.plan.kind; number = tree.plan.number }

-- Returns whether the path is one of these.
abbrev pub is_one_of : List (String Global) → List ℕ → Bool
is_one_of paths path = list_any (λ p. bytes_eq path (string_bytes p)) paths

-- Returns whether the tree answers for this path.
abbrev pub mem_tree_knows : MemTree → List ℕ → Bool
mem_tree_knows tree path = option_map_or (λ known. is_one_of known.keys path) tree.known true
