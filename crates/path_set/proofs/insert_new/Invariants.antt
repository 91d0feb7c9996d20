use Rattle.std.proofs.Common.{◌≡◌, ◌++◌, take, drop}
use Rattle.support.specs.Texts.{texts}
use Rattle.path_set.specs.Paths.{IsFront, first_taken}
use Rattle.path_set.proofs.insert_new.Given as goal

abbrev pub invariant-loop-path : goal.invariant-loop-path
invariant-loop-path l = record {
  tested : first_taken (texts l.fn.paths.keys) (texts l.fresh) ≡ first_taken (texts l.paths.keys) (texts (drop l.path-index l.fresh));
  added : texts l.paths.keys ≡ texts l.fn.paths.keys ++ texts (take l.path-index l.fresh);
  begins : IsFront l.fn.paths.keys l.paths.keys;
}
