use Rattle.std.proofs.Common.{◌≡◌, ◌++◌, List, Bor, Result, Option, None, IfOk, option_map, sym, ap, subst, ◌∙◌}
use Rattle.std.specs.declared.alloc.AllocError.{AllocError}
use Rattle.std.proofs.lemmas.Result.{IfOk-weaker}
use Rattle.support.specs.Texts.{texts}
use Rattle.path_set.specs.Paths.{Path, first_taken}
use Rattle.path_set.proofs.PathLists.{taken_first, taken_then, told_none, told_path}
use Rattle.path_set.proofs.claim.Goals.{in-Ok-None, in-Ok-Some, in-Err}
use Rattle.path_set.proofs.claim.Goals as goal

-- the same answer, written otherwise
tested_as : (found : Option Path) {taken result : Result (Option (Bor Path)) AllocError} → taken ≡ result
    → IfOk result (λ t. option_map (λ p. p.now) t ≡ found) → IfOk taken (λ t. option_map (λ p. p.now) t ≡ found)
tested_as found is tested = subst (λ r. IfOk r (λ (t : Option (Bor Path)). option_map (λ p. p.now) t ≡ found)) (sym is) tested

-- the first list was added, and the second tested
tested_then : (old these others : List Path) {mid : List Path} {taken result : Result (Option (Bor Path)) AllocError} → taken ≡ result → None ≡ first_taken old these
    → mid ≡ old ++ these → IfOk result (λ t. option_map (λ p. p.now) t ≡ first_taken mid others)
    → IfOk taken (λ t. option_map (λ p. p.now) t ≡ first_taken old (these ++ others))
tested_then old these others {mid = mid} {result = result} is none added tested =
    tested_as (first_taken old (these ++ others)) is (IfOk-weaker result (λ (t : Option (Bor Path)). option_map (λ p. p.now) t ≡ first_taken mid others)
    (λ t. option_map (λ p. p.now) t ≡ first_taken old (these ++ others)) (λ t e. e ∙ ap (λ s. first_taken s others) added ∙ sym (taken_then old these others (sym none))) tested)

pub returns-then-not-keep-clause-tested : goal.returns-then-not-keep-clause-tested
returns-then-not-keep-clause-tested c =
    let old = texts c.args.paths.now.keys in
    let these = texts c.args.these.now in
    let others = texts c.args.others.now in
    elim c.match-insert_new.branch [
      | in-Ok-None w ↦ tested_then old these others w.taken-is (told_none _ w.in-Ok-None.ensures.tested w.in-Ok-None.field-0-is)
          (w.in-Ok-None.ensures.added w.in-Ok-None.field-0-is) w.insert_new-taken.ensures.tested
      | in-Ok-Some w ↦ tested_as (first_taken old (these ++ others)) w.taken-is
          (sym (taken_first old these others w.in-Ok-Some.path.now (sym (told_path _ w.in-Ok-Some.ensures.tested w.in-Ok-Some.field-0-is))))
      | in-Err w ↦ tested_as (first_taken old (these ++ others)) w.taken-is tt
    ]

pub returns-else-not-keep-clause-tested : goal.returns-else-not-keep-clause-tested
returns-else-not-keep-clause-tested c =
    let old = texts c.args.paths.now.keys in
    let these = texts c.args.these.now in
    let others = texts c.args.others.now in
    elim c.match-insert_new.branch [
      | in-Ok-None w ↦ tested_then old these others w.taken-is (told_none _ w.in-Ok-None.ensures.tested w.in-Ok-None.field-0-is)
          (w.in-Ok-None.ensures.added w.in-Ok-None.field-0-is) w.insert_new-taken.ensures.tested
      | in-Ok-Some w ↦ tested_as (first_taken old (these ++ others)) w.taken-is
          (sym (taken_first old these others w.in-Ok-Some.path.now (sym (told_path _ w.in-Ok-Some.ensures.tested w.in-Ok-Some.field-0-is))))
      | in-Err w ↦ tested_as (first_taken old (these ++ others)) w.taken-is tt
    ]
