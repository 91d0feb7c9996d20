-- How calls that write follow one another.
use Rattle.std.proofs.Common.{◌≡◌, ℕ, ◌+◌, ◌-◌, ◌≤◌, ◌<◌, ◌^◌, get_or, Bool, true, false, IsSome, List, [], ◌∷◌, ◌++◌, map, take, drop}
use Rattle.std.proofs.Common.{length, Option, Some, None, Result, Ok, Err, IsErr, is_err, refl, sym, ap, subst, ◌∙◌, append_assoc, arith}
use Rattle.std.proofs.Math.Seq.{take-add}
use Rattle.std.proofs.lemmas.List.{take_more, drop_more, map-append, append-nil, take-append-drop, take_rest, length-drop}
use Rattle.std.specs.List.{flat_map}
use Rattle.std.proofs.lemmas.Grind.{flat_map-append}
use Rattle.std.proofs.lemmas.Bool.{false≢true}
use Rattle.ports.specs.declared.fault.DeviceFault.{DeviceFault}
use Rattle.ports.specs.Outputs.{Event, Open, Byte, Close, Log, Fault, OutputState, Step, Opens, Puts, Closes, Logs, Faults}
use Rattle.ports.specs.Outputs.{name_or_empty, events_of_steps, name_after, opening_steps, Takes}
use Rattle.ports.specs.Outputs.{Sends, all, part, IsOpen, Took, Makes, Writes}
use Rattle.ports.specs.Endings.{Ending, Whole, Failed, Short, ending_of_result, is_whole, failures_after}

-- ---- names and events

pub name_after-append : (name : Option (List ℕ)) (a b : List Step) → name_after name (a ++ b) ≡ name_after (name_after name a) b
unfolding name_after
name_after-append name [] b = refl
name_after-append name (Opens next ∷ a) b = name_after-append (Some next) a b
name_after-append name (Puts byte ∷ a) b = name_after-append name a b
name_after-append name (Closes ∷ a) b = name_after-append None a b
name_after-append name (Logs byte ∷ a) b = name_after-append name a b
name_after-append name (Faults byte ∷ a) b = name_after-append name a b

told-append : (name : Option (List ℕ)) (a b : List Step) → events_of_steps name (a ++ b) ≡ events_of_steps name a ++ events_of_steps (name_after name a) b
unfolding events_of_steps name_after
told-append name [] b = refl
told-append name (Opens next ∷ a) b = ap (λ r. Open next ∷ r) (told-append (Some next) a b)
told-append name (Puts byte ∷ a) b = ap (λ r. Byte (name_or_empty name) byte ∷ r) (told-append name a b)
told-append name (Closes ∷ a) b = ap (λ r. Close (name_or_empty name) ∷ r) (told-append None a b)
told-append name (Logs byte ∷ a) b = ap (λ r. Log byte ∷ r) (told-append name a b)
told-append name (Faults byte ∷ a) b = ap (λ r. Fault byte ∷ r) (told-append name a b)

-- ---- steps that were taken

pub takes_nothing : (s : OutputState) → Takes s s []
unfolding events_of_steps name_after
takes_nothing s = record { tells = λ h. h; name = refl; events = λ _. sym (append-nil s.events) }

pub takes_then : {old mid new : OutputState} {a b : List Step} → Takes old mid a → Takes mid new b → Takes old new (a ++ b)
takes_then {old} {mid} {new} {a} {b} s t = record {
  tells = λ h. t.tells (s.tells h);
  name = t.name ∙ ap (λ n. name_after n b) s.name ∙ sym (name_after-append old.open_name a b);
  events = λ h.
      t.events (s.tells h) ∙ ap (λ m. m ++ events_of_steps mid.open_name b) (s.events h) ∙ append_assoc old.events (events_of_steps old.open_name a) (events_of_steps mid.open_name b)
      ∙ ap (λ n. old.events ++ (events_of_steps old.open_name a ++ events_of_steps n b)) s.name ∙ ap (λ r. old.events ++ r) (sym (told-append old.open_name a b));
}

-- outputs that do not tell owe no events
pub takes_untold : {old new : OutputState} (steps : List Step) → old.tells ≡ false → new.open_name ≡ name_after old.open_name steps → Takes old new steps
takes_untold steps e name = record { tells = λ h. absurd (false≢true (sym e ∙ h)); name = name; events = λ h. absurd (false≢true (sym e ∙ h)) }

-- ---- one call of a device

pub failures_failed : {T : Type 0} (n : ℕ) (r : Result T DeviceFault) → is_err r ≡ true → n + 1 ≡ failures_after n (ending_of_result r)
failures_failed n (Ok x) h = absurd (false≢true h)
failures_failed n (Err e) h = refl

pub failures_whole : {T : Type 0} (n : ℕ) (r : Result T DeviceFault) → is_err r ≡ false → n ≡ failures_after n (ending_of_result r)
failures_whole n (Ok x) h = refl
failures_whole n (Err e) h = absurd (false≢true (sym h))

-- ---- a run, or a beginning of it

-- steps that were taken are a run that was sent
pub sends_all : {old new : OutputState} {run : List Step} (whole : Bool) → Takes old new run → Sends old new run whole
sends_all true t = all t
sends_all {run = run} false t = part run [] (sym (append-nil run)) t

-- before the first call
pub sends_nothing : (s : OutputState) → Sends s s [] true
sends_nothing s = all (takes_nothing s)

-- the whole of a run and then this much of another
pub sends_then : {old mid new : OutputState} {a b : List Step} {whole : Bool} → Sends old mid a true → Sends mid new b whole → Sends old new (a ++ b) whole
sends_then (all s) (all t) = all (takes_then s t)
sends_then {a = a} (all s) (part sent left e t) = part (a ++ sent) left (ap (λ r. a ++ r) e ∙ sym (append_assoc a sent left)) (takes_then s t)

-- all or a beginning of a run is a beginning of it
pub sends_part : {old new : OutputState} {a : List Step} {whole : Bool} → Sends old new a whole → Sends old new a false
sends_part (all t) = sends_all false t
sends_part (part sent left e t) = part sent left e t

-- no more of the run is sent
pub sends_stop : {old new : OutputState} {a : List Step} (b : List Step) → Sends old new a false → Sends old new (a ++ b) false
sends_stop b (part sent left e t) = part sent (left ++ b) (ap (λ r. r ++ b) e ∙ append_assoc sent left b) t

-- a beginning of each run: nothing was sent
pub sends_none : (s : OutputState) (run : List Step) → Sends s s run false
sends_none s run = part [] run refl (takes_nothing s)

-- at the exit of a `?`
pub sends_exit : {old new : OutputState} {a : List Step} {T : Type 0} (r : Result T DeviceFault) → IsErr r → Sends old new a false → Sends old new a (is_whole (ending_of_result r))
sends_exit (Ok x) e s = absurd (false≢true e)
sends_exit (Err x) e s = s

-- ---- calls that make outputs

-- one call of a device
pub makes_took : {old new : OutputState} {run : List Step} {e : Ending} → Took old run e new → Makes old run e new
makes_took t = record { sends = sends_all _ t.takes; failures = t.failures }

pub makes_writes : {old new : OutputState} {run : List Step} {e : Ending} → Writes old run e new → Makes old run e new
makes_writes w = record { sends = w.sends; failures = w.failures }

pub makes_then : {old mid new : OutputState} {a b : List Step} {e : Ending} → Makes old a Whole mid → Makes mid b e new → Makes old (a ++ b) e new
makes_then {e = e} s t = record { sends = sends_then s.sends t.sends; failures = t.failures ∙ ap (λ n. failures_after n e) s.failures }

-- a call that failed, or that ended short of its run
pub makes_stop : {old new : OutputState} {a : List Step} {e : Ending} (b : List Step) → is_whole e ≡ false → Makes old a e new → Makes old (a ++ b) e new
makes_stop {old} {new} {a} {e} b h s = record {
  sends = subst (λ w. Sends old new (a ++ b) w) (sym h) (sends_stop b (subst (λ w. Sends old new a w) h s.sends));
  failures = s.failures;
}

-- a call that took nothing of its run
pub makes_none : {old new : OutputState} {run : List Step} → Makes old [] Failed new → Makes old run Failed new
makes_none {run = run} s = makes_stop run refl s

-- ---- calls that write into what is open

pub writes_nothing : (s : OutputState) → Writes s [] Whole s
writes_nothing s = record { sends = sends_nothing s; name = refl; failures = refl }

pub writes_then : {old mid new : OutputState} {a b : List Step} {e : Ending} → Writes old a Whole mid → Writes mid b e new → Writes old (a ++ b) e new
writes_then {e = e} s t = record { sends = sends_then s.sends t.sends; name = t.name ∙ s.name; failures = t.failures ∙ ap (λ n. failures_after n e) s.failures }

pub writes_stop : {old new : OutputState} {a : List Step} (b : List Step) → Writes old a Failed new → Writes old (a ++ b) Failed new
writes_stop b s = record { sends = sends_stop b s.sends; name = s.name; failures = s.failures }

-- the same where the call ended short of its run for another reason
pub writes_cut : {old new : OutputState} {a : List Step} {e : Ending} (b : List Step) → is_whole e ≡ false → Writes old a e new → Writes old (a ++ b) e new
writes_cut {old} {new} {a} {e} b h s = record {
  sends = subst (λ w. Sends old new (a ++ b) w) (sym h) (sends_stop b (subst (λ w. Sends old new a w) h s.sends));
  name = s.name;
  failures = s.failures;
}

-- nothing was written, for another reason than a device
pub writes_none : (s : OutputState) (run : List Step) → Writes s run Short s
writes_none s run = record { sends = sends_none s run; name = refl; failures = refl }

-- one call of a device that opens and closes nothing
pub writes_took : {old new : OutputState} {steps : List Step} {e : Ending} → name_after old.open_name steps ≡ old.open_name → Took old steps e new → Writes old steps e new
writes_took k t = record { sends = sends_all _ t.takes; name = t.takes.name ∙ k; failures = t.failures }

-- at the exit of a `?`
pub writes_exit : {old new : OutputState} {a : List Step} {T : Type 0} (r : Result T DeviceFault) → IsErr r → Writes old a Failed new → Writes old a (ending_of_result r) new
writes_exit (Ok x) e s = absurd (false≢true e)
writes_exit (Err x) e s = s

-- an output that was begun is open
pub open_opened : {old new : OutputState} (name : List ℕ) → Took old (opening_steps name) Whole new → old.failures + 1 < 2 ^ 64 → IsOpen new
unfolding opening_steps name_after
open_opened name t room = record { room = subst (λ n. n + 1 < 2 ^ 64) (sym t.failures) room; name = subst (λ n. IsSome n) (sym t.takes.name) refl }

-- what was open is open still
pub open_after : {old new : OutputState} {a : List Step} → Writes old a Whole new → IsOpen old → IsOpen new
open_after s h = record { room = subst (λ n. n + 1 < 2 ^ 64) (sym s.failures) h.room; name = subst (λ n. IsSome n) (sym s.name) h.name }

-- ---- loops

-- a loop over short calls has come this far
pub record IsSentTo (old now : OutputState) (run : List Step) (bytes : List ℕ) (at : ℕ) : Type 0 where
  pub in_range : at ≤ length bytes
  pub writes : Writes old run Whole now

-- before the first call
pub sent_none : (f : ℕ → Step) (s : OutputState) (bytes : List ℕ) → IsSentTo s s (map f (take 0 bytes)) bytes 0
sent_none f s bytes = record { in_range = omega arith; writes = writes_nothing s }

-- one call more
pub sent_more : (f : ℕ → Step) {old mid new : OutputState} (bytes : List ℕ) (at n : ℕ)
    → ((name : Option (List ℕ)) (bs : List ℕ) → name_after name (map f bs) ≡ name)
    → IsSentTo old mid (map f (take at bytes)) bytes at
    → n ≤ length (take (length bytes - at) (drop at bytes)) → Took mid (map f (take n (take (length bytes - at) (drop at bytes)))) Whole new
    → IsSentTo old new (map f (take (at + n) bytes)) bytes (at + n)
sent_more f bytes at n keeps s within took = record {
  in_range = let e = ap length (take_rest bytes at) in omega (arith, length-drop at bytes, s.in_range);
  writes = rw (take-add, map-append) (writes_then s.writes (rw take_rest at (writes_took (keeps _ _) took)));
}

-- a call that failed
pub sent_short : (f : ℕ → Step) {old mid new : OutputState} (bytes : List ℕ) (at : ℕ)
    → IsSentTo old mid (map f (take at bytes)) bytes at → Took mid [] Failed new → Writes old (map f bytes) Failed new
unfolding name_after
sent_short f bytes at s t =
    rw (← take-append-drop at bytes, map-append) (writes_then s.writes (writes_stop (map f (drop at bytes)) (writes_took refl t)))

-- a loop that sends one run for each item: one item more
pub writes_next : {X : Type 0} (f : X → List Step) {old mid new : OutputState} (xs : List X) (i : ℕ) (x : X)
    → Writes old (flat_map f (take i xs)) Whole mid → i < length xs → x ≡ get_or xs i x → Writes mid (f x) Whole new → Writes old (flat_map f (take (i + 1) xs)) Whole new
writes_next f xs i x s le is t = rw (take_more xs i x le, flat_map-append, ← is, append-nil) (writes_then s t)

-- and where an item's run stopped
pub writes_until : {X : Type 0} (f : X → List Step) {old mid new : OutputState} (xs : List X) (i : ℕ) (x : X)
    → Writes old (flat_map f (take i xs)) Whole mid → i < length xs → x ≡ get_or xs i x → Writes mid (f x) Failed new → Writes old (flat_map f xs) Failed new
writes_until f xs i x s le is t =
    rw (← take-append-drop i xs, flat_map-append, drop_more xs i x le, ← is) (writes_then s (writes_stop (flat_map f (drop (i + 1) xs)) t))

-- the same of what was sent alone
pub sends_next : {X : Type 0} (f : X → List Step) {old mid new : OutputState} (xs : List X) (i : ℕ) (x : X)
    → Sends old mid (flat_map f (take i xs)) true → i < length xs → x ≡ get_or xs i x → Sends mid new (f x) true → Sends old new (flat_map f (take (i + 1) xs)) true
sends_next f xs i x s le is t = rw (take_more xs i x le, flat_map-append, ← is, append-nil) (sends_then s t)

pub sends_until : {X : Type 0} (f : X → List Step) {old mid new : OutputState} (xs : List X) (i : ℕ) (x : X)
    → Sends old mid (flat_map f (take i xs)) true → i < length xs → x ≡ get_or xs i x → Sends mid new (f x) false → Sends old new (flat_map f xs) false
sends_until f xs i x s le is t =
    rw (← take-append-drop i xs, flat_map-append, drop_more xs i x le, ← is) (sends_then s (sends_stop (flat_map f (drop (i + 1) xs)) t))

-- for `using`: how what the calls of a function send follows, up to each exit
pub ruleset sending = (sends_nothing, sends_then, sends_stop, sends_none, sends_exit, sends_next, sends_until, open_opened, open_after)

-- for `using`: how the calls of a function follow one another, up to each exit
pub ruleset writing = (writes_nothing, writes_then, writes_stop, writes_exit, writes_next, writes_until, open_opened, open_after)
