use Rattle.std.proofs.Common.{◌≡◌, ◌++◌, map, drop, take, string_bytes}
use Rattle.options.specs.Verdicts.{Assignment}
use Rattle.options.specs.View.{defaults_in}
use Rattle.project_calls.specs.Defaults.{entry_defaults}
use Rattle.project_calls.proofs.defaults.defaults.Given as goal

-- those so far are of the texts so far
abbrev pub invariant-loop-text : goal.invariant-loop-text
invariant-loop-text l = defaults_in l.defaults.items ≡ map Assignment (map string_bytes (take l.text-index l.texts))

-- those so far and those of the keys that are left are all
abbrev pub invariant-loop-i : goal.invariant-loop-i
invariant-loop-i l =
    defaults_in l.defaults.items ++ entry_defaults (drop l.i l.keys) (drop l.i (map string_bytes l.printed))
    ≡ map Assignment (map string_bytes l.texts) ++ entry_defaults l.keys (map string_bytes l.printed)
