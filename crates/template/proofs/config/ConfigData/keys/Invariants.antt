use Rattle.std.proofs.Common.{◌≡◌, ◌++◌, map}
use Rattle.template.specs.Config.{names}
use Rattle.template.specs.ConfigData.{entries_of}
use Rattle.template.proofs.config.ConfigData.keys.Given as goal

abbrev pub invariant-loop-name : goal.invariant-loop-name
invariant-loop-name l = map (λ key. key.now) l.keys.items ++ names (entries_of l.name-iterator) ≡ names l.self.entries
