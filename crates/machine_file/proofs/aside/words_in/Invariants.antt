use Rattle.std.proofs.Common.{◌≡◌, map, take}
use Rattle.values.specs.View.{data_of}
use Rattle.machine_file.specs.View.{strings_in}
use Rattle.machine_file.specs.Asides.{words_in}
use Rattle.machine_file.proofs.aside.words_in.Given as goal

abbrev pub invariant-loop-value : goal.invariant-loop-value
invariant-loop-value l = strings_in l.words.items ≡ words_in (map (λ v. data_of v.now) (take l.value-index l.values))
