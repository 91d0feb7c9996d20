-- Where a call that writes stops.
use Rattle.std.proofs.Common.{◌≡◌, ℕ, ◌+◌, ◌<◌, List, ◌++◌, length, take, drop, get_or, Result, Ok, Err, IsErrAnd, refl, sym, subst}
use Rattle.std.specs.List.{flat_map}
use Rattle.std.proofs.lemmas.List.{drop_more, take-append-drop}
use Rattle.std.proofs.lemmas.Grind.{flat_map-append}
use Rattle.ports.specs.Endings.{Ending, Failed, Whole}
use Rattle.ports.specs.Outputs.{OutputState, Step, Makes, Writes, puts}
use Rattle.ports.proofs.Sending.{makes_stop, makes_writes, writes_cut, writes_none, writes_then}
use Rattle.backend.specs.BuildFile.{ending_of}
use Rattle.backend.specs.declared.stop.WriteStop.{WriteStop}
use Rattle.backend.specs.declared.stop.WriteStop.TheVariants as stops

-- at the exit of a `?` on a device
pub writes_device : {B : Type 0} {old new : OutputState} {run : List Step} (r : Result B WriteStop) → IsErrAnd r (λ e. e ≡ stops.Device) → Writes old run Failed new → Writes old run (ending_of r) new
writes_device (Ok x) e w = absurd e
writes_device {old = old} {new = new} {run = run} (Err s) e w = subst (λ x. Writes old run (ending_of {B = Unit {0}} (Err x)) new) (sym e) w

pub makes_device : {B : Type 0} {old new : OutputState} {run : List Step} (r : Result B WriteStop) → IsErrAnd r (λ e. e ≡ stops.Device) → Makes old run Failed new → Makes old run (ending_of r) new
makes_device (Ok x) e w = absurd e
makes_device {old = old} {new = new} {run = run} (Err s) e w = subst (λ x. Makes old run (ending_of {B = Unit {0}} (Err x)) new) (sym e) w

-- where memory ran out before anything was written
pub writes_wants : {B : Type 0} (r : Result B WriteStop) (s : OutputState) (run : List Step) → IsErrAnd r (λ e. e ≡ stops.Memory) → Writes s run (ending_of r) s
writes_wants (Ok x) s run e = absurd e
writes_wants (Err x) s run e = subst (λ x. Writes s run (ending_of {B = Unit {0}} (Err x)) s) (sym e) (writes_none s run)

pub makes_wants : {B : Type 0} (r : Result B WriteStop) (s : OutputState) (run : List Step) → IsErrAnd r (λ e. e ≡ stops.Memory) → Makes s run (ending_of r) s
makes_wants r s run e = makes_writes (writes_wants r s run e)

-- at the exit of a `?` that hands its stop on: no more is written
pub writes_ends : {B : Type 0} {old new : OutputState} {a : List Step} (r : Result B WriteStop) (x : WriteStop) (b : List Step)
    → IsErrAnd r (λ e. e ≡ x) → Writes old a (ending_of {B = Unit {0}} (Err x)) new → Writes old (a ++ b) (ending_of r) new
writes_ends (Ok y) x b e w = absurd e
writes_ends {old = old} {new = new} {a = a} (Err y) stops.Device b e w = subst (λ x. Writes old (a ++ b) (ending_of {B = Unit {0}} (Err x)) new) (sym e) (writes_cut b refl w)
writes_ends {old = old} {new = new} {a = a} (Err y) stops.Memory b e w = subst (λ x. Writes old (a ++ b) (ending_of {B = Unit {0}} (Err x)) new) (sym e) (writes_cut b refl w)

pub makes_ends : {B : Type 0} {old new : OutputState} {a : List Step} (r : Result B WriteStop) (x : WriteStop) (b : List Step)
    → IsErrAnd r (λ e. e ≡ x) → Makes old a (ending_of {B = Unit {0}} (Err x)) new → Makes old (a ++ b) (ending_of r) new
makes_ends (Ok y) x b e w = absurd e
makes_ends {old = old} {new = new} {a = a} (Err y) stops.Device b e w = subst (λ x. Makes old (a ++ b) (ending_of {B = Unit {0}} (Err x)) new) (sym e) (makes_stop b refl w)
makes_ends {old = old} {new = new} {a = a} (Err y) stops.Memory b e w = subst (λ x. Makes old (a ++ b) (ending_of {B = Unit {0}} (Err x)) new) (sym e) (makes_stop b refl w)

-- a loop that sends one run for each item: where an item's run stopped
pub writes_ends_at : {X B : Type 0} (f : X → List Step) {old mid new : OutputState} (xs : List X) (i : ℕ) (x : X) (r : Result B WriteStop) (s : WriteStop)
    → Writes old (flat_map f (take i xs)) Whole mid → i < length xs → x ≡ get_or xs i x → IsErrAnd r (λ e. e ≡ s)
    → Writes mid (f x) (ending_of {B = Unit {0}} (Err s)) new → Writes old (flat_map f xs) (ending_of r) new
writes_ends_at f xs i x r s before lt at e w =
    rw (← take-append-drop i xs, flat_map-append, drop_more xs i x lt, ← at) (writes_then before (writes_ends r s (flat_map f (drop (i + 1) xs)) e w))
