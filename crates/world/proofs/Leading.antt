-- Loops, against deeds that recurse.
use Rattle.std.proofs.Common.{◌≡◌, ℕ, ◌+◌, Result, Ok, Err, IsErrAnd, refl, ap, subst, ◌∙◌, arith}
use Rattle.world.specs.Deed.{Deed, then, perform}
use Rattle.world.specs.Gives.{failures_after}
use Rattle.world.specs.Answering.{State, seen_at, Carries, Leads, HasRoom}
use Rattle.world.proofs.Follow.{gives_later, begun, done, further}
use Rattle.world.proofs.Holding.{holds_later, stays_here, stays_on}
use Rattle.world.proofs.Answering.{carries_stop}
use Rattle.world.specs.declared.stop.Stop.{Stop}

pub leads_start : {A : Type 0} {d : Deed A} {s : State} → Leads d s d s
leads_start {d = d} {s = s} = record { gives = λ files n h. begun (perform files d s.world) (seen_at s n); stays = stays_here s.tree; tree = refl; out = refl; same = refl }

-- one call more
pub leads_on : {A B C : Type 0} {view : C → A} {whole : Deed B} {d : Deed A} {next : A → Deed B} {s0 s s1 : State} {x : C}
    → Leads whole s0 (then d next) s → Carries view d s (Ok x) s1 → Leads whole s0 (next (view x)) s1
leads_on {view = view} {d = d} {next = next} {s = s} {x = x} l k = record {
  gives = λ files n h. further (l.gives files n h) (done (perform files d s.world) (λ a. perform files (next a)) (view x) (k.gives files n (holds_later l.stays h)));
  stays = stays_on l.stays k.stays;
  tree = omega (arith, l.tree, l.out, k.device.tree, k.device.out, k.device.sum);
  out = omega (arith, l.tree, l.out, k.device.tree, k.device.out, k.device.sum);
  same = k.same ∙ l.same;
}

-- the rest is done
sum_of : {a b c d : ℕ} → a ≡ c → b ≡ d → c + d ≡ a + b
sum_of p q = omega (arith, p, q)

pub leads_end : {B D : Type 0} {view : D → B} {whole rest : Deed B} {s0 s s1 : State} {result : Result D Stop} → Leads whole s0 rest s → Carries view rest s result s1 → Carries view whole s0 result s1
leads_end {view = view} {s1 = s1} {result = result} l k = record {
  gives = λ files n h. gives_later view result s1.world (seen_at s1 n) (l.gives files n h) (k.gives files n (holds_later l.stays h));
  stays = stays_on l.stays k.stays;
  device = record { tree = omega (arith, l.tree, k.device.tree); out = omega (arith, l.out, k.device.out); sum = k.device.sum ∙ ap (λ m. failures_after m result) (sum_of l.tree l.out) };
  same = k.same ∙ l.same;
}

pub leads_stop : {A B C D : Type 0} {view : C → A} {view' : D → B} {whole : Deed B} {d : Deed A} {next : A → Deed B} {s0 s s1 : State} {e : Stop} {result : Result D Stop}
    → Leads whole s0 (then d next) s → Carries view d s (Err e) s1 → IsErrAnd result (λ x. x ≡ e) → Carries view' whole s0 result s1
leads_stop l k is = leads_end l (carries_stop k is)

-- the same deed, written otherwise
pub leads_as : {B : Type 0} {whole rest other : Deed B} {s0 s : State} → rest ≡ other → Leads whole s0 rest s → Leads whole s0 other s
leads_as {whole = whole} {s0 = s0} {s = s} e l = subst (λ d. Leads whole s0 d s) e l

-- the devices have the room that they had
pub room_on : {B : Type 0} {whole rest : Deed B} {s0 s : State} → Leads whole s0 rest s → HasRoom s0 → HasRoom s
room_on l r = record { tree = omega (arith, l.tree, r.tree); out = omega (arith, l.out, r.out) }
