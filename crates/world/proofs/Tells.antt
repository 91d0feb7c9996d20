-- What is told.
use Rattle.std.proofs.Common.{◌≡◌, ℕ, true, false, List, [], ◌∷◌, ◌++◌, map, append-nil, refl, sym, ap, subst, ◌∙◌, arith}
use Rattle.std.proofs.lemmas.List.{map-append}
use Rattle.ports.specs.Outputs.{Step, logs, Sends, all, part}
use Rattle.world.specs.Gives.{Ends}
use Rattle.world.specs.Making.{sent_steps}
use Rattle.world.specs.World.{World}
use Rattle.world.specs.Run.{Done, marks_of}
use Rattle.world.specs.Trace.{Told, steps_of, ends_of, Seen, Adds, Begins}

pub steps_of-told : (ss : List Step) → steps_of (map Told ss) ≡ ss
steps_of-told [] = refl
steps_of-told (s ∷ ss) = ap (λ l. s ∷ l) (steps_of-told ss)

ends_of-told : (ss : List Step) → ends_of (map Told ss) ≡ 0
ends_of-told [] = refl
ends_of-told (s ∷ ss) = ends_of-told ss

told_added : (old new : Seen) (ss : List Step) → Sends old.out new.out ss true → new.ticks ≡ old.ticks → new.names ≡ old.names → Adds old (map Told ss) new
told_added old new ss sent ticks names = record {
  sent = subst (λ l. Sends old.out new.out l true) (sym (steps_of-told ss)) sent;
  ticks = omega (arith, ticks, ends_of-told ss);
  names = record { more = []; is = names ∙ sym (append-nil old.names) };
}

-- all steps were taken
pub ends_told : (old new : Seen) (ss : List Step) (w : World) → Sends old.out new.out ss true → new.ticks ≡ old.ticks → new.names ≡ old.names → Ends (sent_steps ss w) (Done tt) w old new
ends_told old new ss w sent ticks names = record { is = refl; written = told_added old new ss sent ticks names }

-- a beginning of them
pub begins_told : (old new : Seen) (ss sent left : List Step) (w : World) → ss ≡ sent ++ left → Sends old.out new.out sent true → new.ticks ≡ old.ticks
    → new.names ≡ old.names → Begins (marks_of (sent_steps ss w)) old new
begins_told old new ss sent left w is some ticks names = record {
  made = map Told sent;
  left = map Told left;
  all = ap (map Told) is ∙ map-append Told sent left;
  written = told_added old new sent some ticks names;
}

-- a beginning of what is logged was taken
pub begins_logs : (old new : Seen) (s : List ℕ) (w : World) → Sends old.out new.out (logs s) false → new.ticks ≡ old.ticks
    → new.names ≡ old.names → Begins (marks_of (sent_steps (logs s) w)) old new
begins_logs old new s w (part sent left is taken) ticks names = begins_told old new (logs s) sent left w is (all taken) ticks names
