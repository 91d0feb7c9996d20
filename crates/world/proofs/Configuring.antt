-- Changes of configuration data, against their deeds.
use Rattle.std.proofs.Common.{◌≡◌, ◌↔◌, ℕ, Bool, true, false, not, List, [], Result, Ok, Err, IsErrOf, IsTrue, OnOk, OnErr, IsErrAnd, Some}
use Rattle.std.proofs.Common.{None, unwrap_or, sym, subst, ap, ◌∙◌, refl}
use Rattle.std.specs.Prelude.{slice_get}
use Rattle.std.proofs.lemmas.Option.{get_or_from_slice_get, unwrap_or-slice_get}
use Rattle.support.specs.declared.faults.refusal.Refusal.TheVariants as refusals
use Rattle.ports.specs.Outputs.{OutputState}
use Rattle.ports.specs.Tree.{TreeState}
use Rattle.template.specs.Config.{Configuration}
use Rattle.template.specs.declared.config.SetStop.{SetStop}
use Rattle.template.specs.declared.config.SetStop.TheVariants as set_stops
use Rattle.world.specs.Answering.{State, Carries, IsConfigured, Refuses}
use Rattle.world.specs.Configuring.{configuration_at, configure, is_frozen_at, no_values, with_configured}
use Rattle.world.specs.Store.{world_after_change}
use Rattle.world.specs.World.{World, fault_here}
use Rattle.world.specs.declared.stop.Stop.{Stop}
use Rattle.world.specs.declared.stop.Stop.TheVariants as stops
use Rattle.world.proofs.Answering.{carries_wanted, carries_change, carries_read, carries_stop, carries_then, need_yes, need_no}
use Rattle.world.proofs.Marks.{front_as}

pub found_at : (n : ℕ) (cs : List Configuration) (c : Configuration) → slice_get cs n ≡ Some c → configuration_at n cs ≡ c
found_at n cs c is = get_or_from_slice_get cs n c no_values is

pub none_at : (n : ℕ) (cs : List Configuration) → slice_get cs n ≡ None → configuration_at n cs ≡ no_values
none_at n cs is = sym (unwrap_or-slice_get cs n no_values) ∙ ap (λ o. unwrap_or o no_values) is

not_frozen : (b : Bool) (given : Result (Unit {0}) SetStop) → given ≡ Ok tt → (IsErrOf given set_stops.Frozen ↔ IsTrue b) → not b ≡ true
not_frozen true given is h = absurd (let e : Ok tt ≡ Err set_stops.Frozen = sym is ∙ h.1 refl in cc)
not_frozen false given is h = refl

is_frozen : (b : Bool) (given : Result (Unit {0}) SetStop) → given ≡ Err set_stops.Frozen → (IsErrOf given set_stops.Frozen ↔ IsTrue b) → not b ≡ false
is_frozen true given is h = refl
is_frozen false given is h = absurd (let e : false ≡ true = h.0 is in cc)

-- a change that is refused
refused : (number : ℕ) (f : Configuration → Configuration) {s : State} (result : Result (Unit {0}) Stop) → not (is_frozen_at number s.world.facts.configurations) ≡ false
    → Refuses (fault_here s.world refusals.Frozen []) result → Carries (λ u. u) (configure number f) s result s
unfolding configure
refused number f (Ok x) test is = absurd is
refused number f (Err e) test is = carries_read (carries_stop {view = λ (u : Unit {0}). u} {s = e} (need_no _ refusals.Frozen [] test is) refl)

-- a change that is made
changed_so : (number : ℕ) (f : Configuration → Configuration) {w w1 : World} {names names1 : List (List ℕ)} {tree : TreeState} {out : OutputState} {lent : ℕ × ℕ × ℕ}
    → not (is_frozen_at number w.facts.configurations) ≡ true → w1 ≡ world_after_change (with_configured f number) w → names1 ≡ names
    → Carries (λ u. u) (configure number f) (record { world = w; names = names; tree = tree; out = out; lent = lent }) (Ok tt) (record { world = w1; names = names1; tree = tree; out = out; lent = lent })
unfolding configure
changed_so number f test changed named = carries_read (carries_then {view = λ (u : Unit {0}). u} {x = tt} (need_yes _ refusals.Frozen [] test) (carries_change changed named))

pub carries_configured : (number : ℕ) (f : Configuration → Configuration) {w w1 : World} {names names1 : List (List ℕ)} {tree : TreeState} {out : OutputState} {lent : ℕ × ℕ × ℕ} (given : Result (Unit {0}) SetStop)
    {result : Result (Unit {0}) Stop} → OnOk given (w1 ≡ world_after_change (with_configured f number) w) → (IsErrOf given set_stops.Frozen ↔ IsTrue (is_frozen_at number w.facts.configurations)) → OnErr given (w1 ≡ w) → names1 ≡ names
    → IsConfigured w1 given result
    → Carries (λ u. u) (configure number f) (record { world = w; names = names; tree = tree; out = out; lent = lent }) result (record { world = w1; names = names1; tree = tree; out = out; lent = lent })
carries_configured number f {w = w} {w1 = w1} {names = names} {names1 = names1} {tree = tree} {out = out} {lent = lent} (Ok u) {result = result} changed frozen same named is =
    subst (λ r. Carries (λ (v : Unit {0}). v) (configure number f) (record { world = w; names = names; tree = tree; out = out; lent = lent }) r (record { world = w1; names = names1; tree = tree; out = out; lent = lent })) (sym is)
    (changed_so number f (not_frozen _ (Ok u) refl frozen) changed named)
carries_configured number f {w = w} {w1 = w1} {names = names} {names1 = names1} {tree = tree} {out = out} {lent = lent} (Err set_stops.Frozen) {result = result} changed frozen same named is =
    let old : State = record { world = w; names = names; tree = tree; out = out; lent = lent } in
    let here : Refuses (fault_here w refusals.Frozen []) result = subst (λ v. Refuses (fault_here v refusals.Frozen []) result) same is in
    subst (λ v. Carries (λ (u : Unit {0}). u) (configure number f) old result (record { world = v; names = names1; tree = tree; out = out; lent = lent })) (sym same)
    (subst (λ ns. Carries (λ (u : Unit {0}). u) (configure number f) old result (record { world = w; names = ns; tree = tree; out = out; lent = lent })) (sym named)
    (refused number f {s = old} result (is_frozen _ (Err set_stops.Frozen) refl frozen) here))
carries_configured number f (Err set_stops.Memory) {result = result} changed frozen same named is =
    carries_wanted (subst (λ r. IsErrAnd r (λ e. e ≡ stops.Memory)) (sym is) refl) (front_as named)
