-- Calls of an evaluation one after another, against their plans.
use Rattle.std.proofs.Common.{◌≡◌, ℕ, ◌+◌, ◌<◌, ◌≤◌, List, [], ◌∷◌, ◌++◌, map, length, drop, get_or, append-nil, add-one, drop-cons}
use Rattle.std.proofs.Common.{drop_of_length-le, Result, Ok, Err, IsErrAnd, refl, sym, ap, subst, ◌∙◌, append_assoc}
use Rattle.ports.specs.Outputs.{OutputState}
use Rattle.ports.specs.Tree.{TreeState}
use Rattle.support.specs.declared.faults.refusal.Refusal.{Refusal}
use Rattle.world.specs.Answering.{Refuses}
use Rattle.world.specs.Deed.{Files, read, change}
use Rattle.world.specs.Store.{world_after_change}
use Rattle.world.specs.Gives.{Gives, Holds, is_ended}
use Rattle.world.specs.Plan.{Plan, deed, ruled, next, carry, give, refuse}
use Rattle.world.specs.Trace.{Mark, Ended, Seen, seen_from_parts}
use Rattle.world.specs.Run.{Run, ran, Act, Done, Faulted, after, follow, marks_of, with_end}
use Rattle.world.specs.World.{World, Facts, LeavesPaths, with_facts, with_line}
use Rattle.world.specs.declared.stop.Stop.{Stop}
use Rattle.world.specs.declared.stop.Stop.TheVariants as stops
use Rattle.world.proofs.Follow.{begun, done, further, gives_later, stopped_later, wanted_later, ended_later, refused_later, gives_rule}
use Rattle.world.proofs.Marks.{none_added}
use Rattle.expressions.specs.Contexts.{Stand, Given, Leads, seen_of}

-- one call, and then the rest
pub given_then : {A B C D : Type 0} {view : C → A} {view' : D → B} {files : Files} {p : Plan A} {others : A → Plan B} {s0 s1 s2 : Stand} {x : C} {result : Result D Stop}
    → Given view files p s0 (Ok x) s1 → Given view' files (others (view x)) s1 result s2 → Given view' files (next p others) s0 result s2
given_then {view = view} {view' = view'} {files = files} {p = p} {others = others} {s0 = s0} {s2 = s2} {x = x} {result = result} g h = record {
  gives = gives_later view' result s2.world (seen_of s2) (done (carry files p s0.world) (λ a. carry files (others a)) (view x) g.gives) h.gives;
  holds = h.holds;
}

-- a call that stops
pub given_stop : {A B C D : Type 0} {view : C → A} {view' : D → B} {files : Files} {p : Plan A} {others : A → Plan B} {s0 s1 : Stand} {s : Stop} {result : Result D Stop}
    → Given view files p s0 (Err s) s1 → IsErrAnd result (λ e. e ≡ s) → Given view' files (next p others) s0 result s1
given_stop {view = view} {view' = view'} {files = files} {p = p} {others = others} {s0 = s0} {s1 = s1} {s = s} {result = result} g is = record {
  gives = stopped_later view view' (carry files p s0.world) (λ a. carry files (others a)) s s1.world s1.world (seen_of s1) result (begun _ (seen_of s0)) is refl g.gives;
  holds = g.holds;
}

-- the last one stops
pub given_same : {A B : Type 0} {view : B → A} {files : Files} {p : Plan A} {s0 s1 : Stand} {s : Stop} {result : Result B Stop} → Given view files p s0 (Err s) s1
    → IsErrAnd result (λ e. e ≡ s) → Given view files p s0 result s1
given_same {result = Ok x} g is = absurd is
given_same {view = view} {files = files} {p = p} {s0 = s0} {s1 = s1} {result = Err e} g is = subst (λ d. Given view files p s0 (Err d) s1) (sym is) g

-- want of memory
pub given_none : {A B : Type 0} {view : B → A} {files : Files} {p : Plan A} {s : Stand} {result : Result B Stop} → Holds s.tree files → IsErrAnd result (λ e. e ≡ stops.Memory)
    → Given view files p s result s
given_none {view = view} {files = files} {p = p} {s = s} {result = result} h is = record {
  gives = wanted_later view s.world (seen_of s) result (begun (carry files p s.world) (seen_of s)) is;
  holds = h;
}

-- an answer is given
pub given_give : {A B : Type 0} {view : B → A} {files : Files} {a : A} {s : Stand} {x : B} → Holds s.tree files → view x ≡ a → Given view files (give a) s (Ok x) s
given_give {view = view} {files = files} {a = a} {s = s} {x = x} h is = record {
  gives = ended_later view x a s.world (seen_of s) is (begun (carry files (give a) s.world) (seen_of s));
  holds = h;
}

refused_gives : {A B : Type 0} (view : B → A) (files : Files) (line : ℕ) (refusal : Refusal) (detail : List ℕ) (w : World) (result : Result B Stop) (old : Seen)
    → Refuses (record { file = w.facts.file; line = line; refusal = refusal; detail = detail }) result → Gives view (carry files (refuse line refusal detail) w) result w old old
refused_gives view files line refusal detail w (Ok x) old is = absurd is
refused_gives view files line refusal detail w (Err s) old is =
    refused_later view (record { file = w.facts.file; line = line; refusal = refusal; detail = detail }) s (with_facts w (with_line line w.facts)) w old (begun _ old) is refl

-- it is refused
pub given_refuse : {A B : Type 0} {view : B → A} {files : Files} {line : ℕ} {refusal : Refusal} {detail : List ℕ} {s : Stand} {result : Result B Stop}
    → Holds s.tree files → Refuses (record { file = s.world.facts.file; line = line; refusal = refusal; detail = detail }) result → Given view files (refuse line refusal detail) s result s
given_refuse {view = view} {files = files} {line = line} {refusal = refusal} {detail = detail} {s = s} {result = result} h is = record {
  gives = refused_gives view files line refusal detail s.world result (seen_of s) is;
  holds = h;
}

-- the same plan, written otherwise
pub given_as : {A B : Type 0} {view : B → A} {files : Files} {p q : Plan A} {s s1 : Stand} {result : Result B Stop} → p ≡ q → Given view files p s result s1 → Given view files q s result s1
given_as {view = view} {files = files} {s = s} {s1 = s1} {result = result} e g = subst (λ x. Given view files x s result s1) e g

-- the facts are read
pub given_read : {B D : Type 0} {view : D → B} {files : Files} {others : Facts → Plan B} {s0 s1 : Stand} {result : Result D Stop}
    → Given view files (others s0.world.facts) s0 result s1 → Given view files (next (deed read) others) s0 result s1
given_read {view = view} {files = files} {others = others} {s0 = s0} {s1 = s1} {result = result} g = record {
  gives = gives_later view result s1.world (seen_of s1) (done (carry files (deed read) s0.world) (λ a. carry files (others a)) s0.world.facts (record { is = refl; written = none_added (seen_of s0) })) g.gives;
  holds = g.holds;
}

-- the rule of a node, where the counter is raised when it has ended
pub given_rule : {A B : Type 0} {view : B → A} {files : Files} {p : Plan A} {s0 : Stand} {w : World} {names : List (List ℕ)} {tree : TreeState} {out : OutputState} {n m : ℕ} {result : Result B Stop}
    → m ≡ n + is_ended result → Given view files p s0 result (record { world = w; names = names; tree = tree; out = out; ticks = n })
    → Given view files (ruled p) s0 result (record { world = w; names = names; tree = tree; out = out; ticks = m })
given_rule {view = view} {files = files} {p = p} {s0 = s0} {w = w} {names = names} {out = out} {n = n} {m = m} {result = result} e g = record {
  gives = subst (λ k. Gives view (carry files (ruled p) s0.world) result w (seen_of s0) (record { out = out; ticks = k; names = names })) (sym e)
      (gives_rule view (carry files p s0.world) result w (seen_of s0) (record { out = out; ticks = n; names = names }) g.gives);
  holds = g.holds;
}

-- the facts change
pub given_change : {files : Files} {f : Facts → Facts} {leaves : LeavesPaths f} {w w1 : World} {names names1 : List (List ℕ)} {tree : TreeState} {out : OutputState} {n : ℕ}
    → Holds tree files → w1 ≡ world_after_change f w → names1 ≡ names
    → Given (λ (u : Unit {0}). u) files (deed (change f leaves)) (record { world = w; names = names; tree = tree; out = out; ticks = n }) (Ok tt) (record { world = w1; names = names1; tree = tree; out = out; ticks = n })
given_change {files = files} {f = f} {leaves = leaves} {w = w} {w1 = w1} {names = names} {names1 = names1} {tree = tree} {out = out} {n = n} h is same = record {
  gives = subst (λ v. Gives (λ (u : Unit {0}). u) (carry files (deed (change f leaves)) w) (Ok tt) v (seen_from_parts out n names) (seen_from_parts out n names1)) (sym is)
      (subst (λ ns. Gives (λ (u : Unit {0}). u) (carry files (deed (change f leaves)) w) (Ok tt) (world_after_change f w) (seen_from_parts out n names) (seen_from_parts out n ns)) (sym same) (record { is = refl; written = none_added (seen_from_parts out n names) }));
  holds = h;
}

-- it is refused, and the rest never comes
pub given_refused : {A B C : Type 0} {view : C → B} {files : Files} {line : ℕ} {refusal : Refusal} {detail : List ℕ} {others : A → Plan B} {s : Stand} (result : Result C Stop)
    → Holds s.tree files → Refuses (record { file = s.world.facts.file; line = line; refusal = refusal; detail = detail }) result → Given view files (next (refuse line refusal detail) others) s result s
given_refused (Ok x) h is = absurd is
given_refused {A = A} {view = view} {files = files} {line = line} {refusal = refusal} {detail = detail} {s = s} (Err e) h is =
    given_stop {view = λ (a : A). a} (given_refuse {A = A} {B = A} {view = λ (a : A). a} {files = files} {line = line} {refusal = refusal} {detail = detail} {s = s} {result = Err e} h is) refl

-- a call that stops, inside of what comes first
pub given_stop_inside : {A B C D E : Type 0} {view : C → A} {view' : D → B} {files : Files} {p : Plan A} {others : A → Plan E} {more : E → Plan B} {s0 s1 : Stand} {s : Stop} {result : Result D Stop}
    → Given view files p s0 (Err s) s1 → IsErrAnd result (λ e. e ≡ s) → Given view' files (next (next p others) more) s0 result s1
given_stop_inside {E = E} {s = s} g is = given_stop {view = λ (x : E). x} (given_stop {view' = λ (x : E). x} {result = Err s} g refl) is

-- ---- loops

after-after : {A : Type 0} (ms ns : List Mark) (r : Run A) → after ms (after ns r) ≡ after (ms ++ ns) r
after-after ms ns (ran o w os) = ap (ran o w) (sym (append_assoc ms ns os))

pub follow-after : {A B : Type 0} (ms : List Mark) (r : Run A) (others : A → Act B) → follow (after ms r) others ≡ after ms (follow r others)
follow-after ms (ran (Done x) w ns) others = sym (after-after ms ns (others x w))
follow-after ms (ran (Faulted f) w ns) others = refl

pub with_end-after : {A : Type 0} (ms : List Mark) (r : Run A) → with_end (after ms r) ≡ after ms (with_end r)
with_end-after ms (ran o w ns) = ap (ran o w) (append_assoc ms ns (Ended ∷ []))

-- what was done of a plan, and what is left of it
pub leads_start : {A : Type 0} {files : Files} {p : Plan A} {s : Stand} → Holds s.tree files → Leads files p s p s
leads_start {files = files} {p = p} {s = s} h = record { continues = begun (carry files p s.world) (seen_of s); holds = h }

pub leads_further : {A : Type 0} {files : Files} {p q r : Plan A} {s0 s1 s2 : Stand} → Leads files p s0 q s1 → Leads files q s1 r s2 → Leads files p s0 r s2
leads_further l m = record { continues = further l.continues m.continues; holds = m.holds }

-- one call, and then the rest
pub leads_next : {A B C : Type 0} {view : C → A} {files : Files} {p : Plan A} {others : A → Plan B} {s0 s1 : Stand} {x : C}
    → Given view files p s0 (Ok x) s1 → Leads files (next p others) s0 (others (view x)) s1
leads_next {view = view} {files = files} {p = p} {others = others} {s0 = s0} {x = x} g = record {
  continues = done (carry files p s0.world) (λ a. carry files (others a)) (view x) g.gives;
  holds = g.holds;
}

-- a call, and what it gave
pub leads_given : {A C : Type 0} {view : C → A} {files : Files} {p : Plan A} {s0 s1 : Stand} {x : C} → Given view files p s0 (Ok x) s1 → Leads files p s0 (give (view x)) s1
leads_given {view = view} {files = files} {p = p} {s0 = s0} {s1 = s1} {x = x} g = record {
  continues = record {
    made = marks_of (carry files p s0.world);
    is = g.gives.is ∙ ap (ran (Done (view x)) s1.world) (sym (append-nil (marks_of (carry files p s0.world))));
    written = g.gives.written;
  };
  holds = g.holds;
}

-- one call more
pub leads_on : {A B C : Type 0} {view : C → A} {files : Files} {whole : Plan B} {p : Plan A} {others : A → Plan B} {s0 s s1 : Stand} {x : C}
    → Leads files whole s0 (next p others) s → Given view files p s (Ok x) s1 → Leads files whole s0 (others (view x)) s1
leads_on l g = leads_further l (leads_next g)

-- what the rest gives, the whole gives
pub leads_end : {B D : Type 0} {view : D → B} {files : Files} {whole rest : Plan B} {s0 s s1 : Stand} {result : Result D Stop} → Leads files whole s0 rest s → Given view files rest s result s1 → Given view files whole s0 result s1
leads_end {view = view} {s1 = s1} {result = result} l g = record { gives = gives_later view result s1.world (seen_of s1) l.continues g.gives; holds = g.holds }

-- what was done of what comes first
pub leads_within : {A B : Type 0} {files : Files} {whole : Plan B} {p q : Plan A} {others : A → Plan B} {s0 s s1 : Stand}
    → Leads files whole s0 (next p others) s → Leads files p s q s1 → Leads files whole s0 (next q others) s1
leads_within {files = files} {q = q} {others = others} {s1 = s1} l m = record {
  continues = further l.continues (record {
    made = m.continues.made;
    is = ap (λ r. follow r (λ a. carry files (others a))) m.continues.is ∙ follow-after m.continues.made (carry files q s1.world) (λ a. carry files (others a));
    written = m.continues.written;
  });
  holds = m.holds;
}

-- one call more, inside of what comes first
pub leads_inside : {A B C E : Type 0} {view : C → A} {files : Files} {whole : Plan B} {p : Plan A} {others : A → Plan E} {more : E → Plan B} {s0 s s1 : Stand} {x : C}
    → Leads files whole s0 (next (next p others) more) s → Given view files p s (Ok x) s1 → Leads files whole s0 (next (others (view x)) more) s1
leads_inside l g = leads_within l (leads_next g)

-- the same rest, written otherwise
pub leads_as : {B : Type 0} {files : Files} {whole rest other : Plan B} {s0 s : Stand} → rest ≡ other → Leads files whole s0 rest s → Leads files whole s0 other s
leads_as {files = files} {whole = whole} {s0 = s0} {s = s} e l = subst (λ p. Leads files whole s0 p s) e l

-- the same whole, written otherwise
pub leads_other : {B : Type 0} {files : Files} {whole other rest : Plan B} {s0 s : Stand} → whole ≡ other → Leads files whole s0 rest s → Leads files other s0 rest s
leads_other {files = files} {rest = rest} {s0 = s0} {s = s} e l = subst (λ p. Leads files p s0 rest s) e l

-- the next item comes, and the others are left
pub next_item : {X Y : Type 0} (h : X → Y) (xs : List X) (i : ℕ) (d : X) → i < length xs → map h (drop i xs) ≡ h (get_or xs i d) ∷ map h (drop (i + 1) xs)
next_item h xs i d lt = rw (add-one, drop-cons xs i d lt) refl

pub next_is : {X Y : Type 0} (h : X → Y) (xs : List X) (i : ℕ) (x : X) → i < length xs → x ≡ get_or xs i x → map h (drop i xs) ≡ h x ∷ map h (drop (i + 1) xs)
next_is h xs i x lt is = next_item h xs i x lt ∙ ap (λ y. h y ∷ map h (drop (i + 1) xs)) (sym is)

-- none is left
pub no_item : {X Y : Type 0} (h : X → Y) (xs : List X) (i : ℕ) → length xs ≤ i → map h (drop i xs) ≡ []
no_item h xs i le = ap (map h) (drop_of_length-le xs le)
