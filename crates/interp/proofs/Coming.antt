-- Calls inside of an expression one after another, against their plans.
use Rattle.std.proofs.Common.{◌≡◌, ℕ, zero, suc, ◌+◌, List, [], ◌∷◌, ◌++◌, add-one, string_bytes, Result, Ok, Err, IsErrAnd}
use Rattle.std.proofs.Common.{refl, sym, ap, subst, ◌∙◌}
use Rattle.support.specs.Faults.{FaultData}
use Rattle.support.specs.declared.faults.refusal.Refusal.{Refusal}
use Rattle.support.specs.declared.faults.refusal.Refusal.TheVariants as refusals
use Rattle.ports.specs.Outputs.{OutputState}
use Rattle.ports.specs.Tree.{TreeState}
use Rattle.world.specs.Deed.{Files}
use Rattle.world.specs.Gives.{Holds, is_ended}
use Rattle.world.specs.Plan.{Plan, ruled, next, carry, refuse}
use Rattle.world.specs.Run.{Run, ran, Act, Done, Faulted, after, follow, with_end}
use Rattle.world.specs.Trace.{Mark, Ended}
use Rattle.world.specs.World.{World, with_facts, with_line}
use Rattle.world.specs.declared.stop.Stop.{Stop}
use Rattle.world.specs.declared.stop.Stop.TheVariants as stops
use Rattle.expressions.specs.Contexts.{Stand, Given, Leads}
use Rattle.interp.specs.Bounds.{Bounds}
use Rattle.interp.specs.Evaluates.{HaltsTo, Comes}
use Rattle.interp.specs.Folders.{folder}
use Rattle.interp.specs.FolderEntries.{HaltEnds, IsDeeper, RuleEnds, ended_all, enters, folder_in_expression}
use Rattle.interp.specs.declared.flow.Flow.{Flow}
use Rattle.interp.specs.declared.halt.Halt.{Halt}
use Rattle.interp.specs.declared.halt.Halt.TheVariants as halts
use Rattle.interp.specs.declared.halt.FolderEntry.{FolderEntry}
use Rattle.expressions.proofs.Evaluating.{follow-after, given_none, given_rule, given_stop, given_then, leads_as, leads_end, leads_further}
use Rattle.expressions.proofs.Evaluating.{leads_next, with_end-after}

-- ---- what comes behind a fault never comes

-- two runs end in the same fault
record Alike {A B : Type 0} (r : Run A) (q : Run B) : Type 0 where
  fault : FaultData
  world : World
  marks : List Mark
  one : r ≡ ran (Faulted fault) world marks
  other : q ≡ ran (Faulted fault) world marks

refused-alike : {A B : Type 0} (files : Files) (line : ℕ) (refusal : Refusal) (detail : List ℕ) (x : Run Flow)
    → Alike (follow x (λ _. carry files (refuse {A = A} line refusal detail))) (follow x (λ _. carry files (refuse {A = B} line refusal detail)))
refused-alike files line refusal detail (ran (Done flow) w ms) = record {
  fault = record { file = w.facts.file; line = line; refusal = refusal; detail = detail };
  world = with_facts w (with_line line w.facts);
  marks = ms ++ [];
  one = refl;
  other = refl;
}
refused-alike files line refusal detail (ran (Faulted f) w ms) = record { fault = f; world = w; marks = ms; one = refl; other = refl }

ended-alike : {A B : Type 0} (files : Files) (n : ℕ) (p : Plan A) (q : Plan B) (w : World) → Alike (carry files p w) (carry files q w)
    → Alike (carry files (ended_all n p) w) (carry files (ended_all n q) w)
ended-alike files zero p q w h = h
ended-alike files (suc n) p q w h =
    let a = ended-alike files n p q w h in
    record { fault = a.fault; world = a.world; marks = a.marks ++ Ended ∷ []; one = ap with_end a.one; other = ap with_end a.other }

inside-alike : (A B : Type 0) (files : Files) (left : Bounds) (entry : FolderEntry) (w : World)
    → Alike (carry files (folder_in_expression {A = A} left entry) w) (carry files (folder_in_expression {A = B} left entry) w)
inside-alike A B files left entry w =
    ended-alike files entry.rules (enters {A = A} left entry) (enters {A = B} left entry) w
    (refused-alike {A = A} {B = B} files entry.line refusals.Type [] (carry files (folder left (string_bytes entry.text)) w))

alike-follow : {A B : Type 0} {r : Run A} {q : Run B} (others : A → Act B) → Alike r q → follow r others ≡ q
alike-follow others a = ap (λ x. follow x others) a.one ∙ sym a.other

-- ---- what was left for a folder

pub leads_left : {A B : Type 0} {files : Files} (left : Bounds) (entry : FolderEntry) {p : Plan A} {others : A → Plan B} {s0 s1 : Stand}
    → Leads files p s0 (folder_in_expression left entry) s1 → Leads files (next p others) s0 (folder_in_expression left entry) s1
leads_left {A = A} {B = B} {files = files} left entry {others = others} {s1 = s1} l = record {
  continues = record {
    made = l.continues.made;
    is = ap (λ r. follow r (λ a. carry files (others a))) l.continues.is
        ∙ follow-after l.continues.made (carry files (folder_in_expression {A = A} left entry) s1.world) (λ a. carry files (others a))
        ∙ ap (after l.continues.made) (alike-follow (λ a. carry files (others a)) (inside-alike A B files left entry s1.world));
    written = l.continues.written;
  };
  holds = l.holds;
}

pub leads_rule : {A : Type 0} {files : Files} {p q : Plan A} {s0 s1 : Stand} → Leads files p s0 q s1 → Leads files (ruled p) s0 (ruled q) s1
leads_rule {files = files} {q = q} {s1 = s1} l = record {
  continues = record {
    made = l.continues.made;
    is = ap with_end l.continues.is ∙ with_end-after l.continues.made (carry files q s1.world);
    written = l.continues.written;
  };
  holds = l.holds;
}

-- ---- calls that halt

-- a stop says nothing of an answer
given_halt : {A B C : Type 0} {view : B → A} (view' : C → A) {files : Files} {p : Plan A} {s0 s1 : Stand} (stop : Stop)
    → Given view files p s0 (Err stop) s1 → Given view' files p s0 (Err stop) s1
given_halt view' (stops.Refused fault) g = record { gives = g.gives; holds = g.holds }
given_halt view' stops.Device g = record { gives = g.gives; holds = g.holds }
given_halt view' stops.Memory g = record { gives = g.gives; holds = g.holds }

pub halts_then : {A B : Type 0} (files : Files) (left : Bounds) (p : Plan A) (others : A → Plan B) (s0 s1 : Stand) (halt : Halt)
    → HaltsTo files left p s0 halt s1 → HaltsTo files left (next p others) s0 halt s1
halts_then files left p others s0 s1 (halts.Stops stop) h = given_stop h refl
halts_then files left p others s0 s1 (halts.Enters entry) h = leads_left left entry.value h

pub halts_end : {A : Type 0} (files : Files) (left : Bounds) (whole rest : Plan A) (s0 s s1 : Stand) (halt : Halt) → Leads files whole s0 rest s
    → HaltsTo files left rest s halt s1 → HaltsTo files left whole s0 halt s1
halts_end files left whole rest s0 s s1 (halts.Stops stop) l h = leads_end l h
halts_end files left whole rest s0 s s1 (halts.Enters entry) l h = leads_further l h

-- ---- one after another

-- a call that gives
pub comes_given : {A B : Type 0} {view : B → A} {files : Files} {left : Bounds} {p : Plan A} {s0 s1 : Stand} {x : B} → Given view files p s0 (Ok x) s1
    → Comes view files left p s0 (Ok x) s1
comes_given g = record { comes = g }

-- one call, and then the rest
pub comes_then : {A B C D : Type 0} {view : C → A} {view' : D → B} {files : Files} {left : Bounds} {p : Plan A} {others : A → Plan B} {s0 s1 s2 : Stand} {x : C} {result : Result D Halt}
    → Given view files p s0 (Ok x) s1 → Comes view' files left (others (view x)) s1 result s2 → Comes view' files left (next p others) s0 result s2
comes_then {result = Ok y} g h = record { comes = given_then g h.comes }
comes_then {result = Err (halts.Stops stop)} g h = record { comes = given_then g h.comes }
comes_then {result = Err (halts.Enters entry)} g h = record { comes = leads_further (leads_next g) h.comes }

-- a call that halts
pub comes_halt : {A B C D : Type 0} {view : C → A} {view' : D → B} {files : Files} {left : Bounds} {p : Plan A} {others : A → Plan B} {s0 s1 : Stand} {halt : Halt} {result : Result D Halt}
    → Comes view files left p s0 (Err halt) s1 → IsErrAnd result (λ e. e ≡ halt) → Comes view' files left (next p others) s0 result s1
comes_halt {result = Ok x} h is = absurd is
comes_halt {files = files} {left = left} {p = p} {others = others} {s0 = s0} {s1 = s1} {halt = halt} {result = Err e} h is =
    record { comes = subst (λ d. HaltsTo files left (next p others) s0 d s1) (sym is) (halts_then files left p others s0 s1 halt h.comes) }

-- the last one halts
pub comes_same : {A C D : Type 0} {view : C → A} {view' : D → A} {files : Files} {left : Bounds} {p : Plan A} {s0 s1 : Stand} {halt : Halt} {result : Result D Halt}
    → Comes view files left p s0 (Err halt) s1 → IsErrAnd result (λ e. e ≡ halt) → Comes view' files left p s0 result s1
comes_same {result = Ok x} h is = absurd is
comes_same {files = files} {left = left} {p = p} {s0 = s0} {s1 = s1} {result = Err e} h is = record { comes = subst (λ d. HaltsTo files left p s0 d s1) (sym is) h.comes }

-- inside of what comes first
pub comes_halt_inside : {A B C D E : Type 0} {view : C → A} {view' : D → B} {files : Files} {left : Bounds} {p : Plan A} {others : A → Plan E} {more : E → Plan B} {s0 s1 : Stand} {halt : Halt} {result : Result D Halt}
    → Comes view files left p s0 (Err halt) s1 → IsErrAnd result (λ e. e ≡ halt) → Comes view' files left (next (next p others) more) s0 result s1
comes_halt_inside {E = E} {files = files} {left = left} {p = p} {others = others} {s0 = s0} {s1 = s1} {halt = halt} h is =
    comes_halt {view = λ (x : E). x} {halt = halt} (record { comes = halts_then files left p others s0 s1 halt h.comes }) is

-- a call that stops
pub comes_stop : {A B C D : Type 0} {view : C → A} {view' : D → B} {files : Files} {left : Bounds} {p : Plan A} {others : A → Plan B} {s0 s1 : Stand} {stop : Stop} {result : Result D Halt}
    → Given view files p s0 (Err stop) s1 → IsErrAnd result (λ e. e ≡ halts.Stops stop) → Comes view' files left (next p others) s0 result s1
comes_stop {result = Ok x} g is = absurd is
comes_stop {files = files} {left = left} {p = p} {others = others} {s0 = s0} {s1 = s1} {result = Err e} g is =
    record { comes = subst (λ d. HaltsTo files left (next p others) s0 d s1) (sym is) (given_stop g refl) }

-- the last one stops
pub comes_last : {A C D : Type 0} {view : C → A} {view' : D → A} {files : Files} {left : Bounds} {p : Plan A} {s0 s1 : Stand} {stop : Stop} {result : Result D Halt}
    → Given view files p s0 (Err stop) s1 → IsErrAnd result (λ e. e ≡ halts.Stops stop) → Comes view' files left p s0 result s1
comes_last {result = Ok x} g is = absurd is
comes_last {A = A} {files = files} {left = left} {p = p} {s0 = s0} {s1 = s1} {stop = stop} {result = Err e} g is =
    record { comes = subst (λ d. HaltsTo files left p s0 d s1) (sym is) (given_halt (λ (a : A). a) stop g) }

-- want of memory
pub comes_none : {A B : Type 0} {view : B → A} {files : Files} {left : Bounds} {p : Plan A} {s : Stand} {result : Result B Halt} → Holds s.tree files
    → IsErrAnd result (λ e. e ≡ halts.Stops stops.Memory) → Comes view files left p s result s
comes_none {result = Ok x} h is = absurd is
comes_none {files = files} {left = left} {p = p} {s = s} {result = Err e} h is =
    record { comes = subst (λ d. HaltsTo files left p s d s) (sym is) (given_none h refl) }

-- the same plan, written otherwise
pub comes_as : {A B : Type 0} {view : B → A} {files : Files} {left : Bounds} {p q : Plan A} {s s1 : Stand} {result : Result B Halt} → p ≡ q
    → Comes view files left p s result s1 → Comes view files left q s result s1
comes_as {view = view} {files = files} {left = left} {s = s} {s1 = s1} {result = result} e h = subst (λ x. Comes view files left x s result s1) e h

-- what the rest comes to, the whole comes to
pub comes_end : {B D : Type 0} {view : D → B} {files : Files} {left : Bounds} {whole rest : Plan B} {s0 s s1 : Stand} {result : Result D Halt}
    → Leads files whole s0 rest s → Comes view files left rest s result s1 → Comes view files left whole s0 result s1
comes_end {result = Ok x} l h = record { comes = leads_end l h.comes }
comes_end {files = files} {left = left} {whole = whole} {rest = rest} {s0 = s0} {s = s} {s1 = s1} {result = Err halt} l h =
    record { comes = halts_end files left whole rest s0 s s1 halt l h.comes }

-- ---- rules

ended-same : (A B : Type 0) (stop : Stop) → is_ended {B = A} (Err stop) ≡ is_ended {B = B} (Err stop)
ended-same A B (stops.Refused fault) = refl
ended-same A B stops.Device = refl
ended-same A B stops.Memory = refl

ruled-inside : {A : Type 0} (left : Bounds) (entry : FolderEntry)
    → ruled (folder_in_expression {A = A} left entry) ≡ folder_in_expression left (record { text = entry.text; line = entry.line; rules = entry.rules + 1 })
ruled-inside left entry = ap (λ n. ended_all n (enters left entry)) (sym (add-one entry.rules))

-- the expression was left before it
rule-left : {A : Type 0} {files : Files} (left : Bounds) {p : Plan A} {s0 s1 : Stand} (entry : FolderEntry) (halt : Halt)
    → IsDeeper entry halt → Leads files p s0 (folder_in_expression left entry) s1 → HaltsTo files left (ruled p) s0 halt s1
rule-left {A = A} {files = files} left {p = p} {s0 = s0} {s1 = s1} entry (halts.Stops stop) d l =
    subst (λ e. Given {B = A} (λ a. a) files (ruled p) s0 (Err e) s1) (sym d) (leads_end (leads_rule l) (given_none l.holds refl))
rule-left {files = files} left {p = p} {s0 = s0} {s1 = s1} entry (halts.Enters other) d l =
    subst (λ (e : FolderEntry). Leads files (ruled p) s0 (folder_in_expression left e) s1) (sym d) (leads_as (ruled-inside left entry) (leads_rule l))

-- an expression that halts
rule-halted : (A : Type 0) (files : Files) (left : Bounds) (p : Plan A) (s0 : Stand) (w : World) (names : List (List ℕ)) (tree : TreeState) (out : OutputState) (n m : ℕ) (halt now : Halt)
    → HaltEnds halt n now m → HaltsTo files left p s0 halt (record { world = w; names = names; tree = tree; out = out; ticks = n })
    → HaltsTo files left (ruled p) s0 now (record { world = w; names = names; tree = tree; out = out; ticks = m })
rule-halted A files left p s0 w names tree out n m (halts.Stops stop) now r h =
    subst (λ d. HaltsTo files left (ruled p) s0 d (record { world = w; names = names; tree = tree; out = out; ticks = m })) (sym r.0)
    (given_rule (r.1 ∙ ap (λ k. n + k) (ended-same (Unit {0}) A stop)) h)
rule-halted A files left p s0 w names tree out n m (halts.Enters entry) now r h =
    subst (λ k. HaltsTo files left (ruled p) s0 now (record { world = w; names = names; tree = tree; out = out; ticks = k })) (sym r.1)
    (rule-left left entry.value now r.0 h)

-- the rule of a node
pub comes_rule : {A B : Type 0} {view : B → A} {files : Files} {left : Bounds} {p : Plan A} {s0 : Stand} {w : World} {names : List (List ℕ)} {tree : TreeState} {out : OutputState} {n m : ℕ} (answer result : Result B Halt)
    → RuleEnds answer n result m → Comes view files left p s0 answer (record { world = w; names = names; tree = tree; out = out; ticks = n })
    → Comes view files left (ruled p) s0 result (record { world = w; names = names; tree = tree; out = out; ticks = m })
comes_rule {view = view} {files = files} {left = left} {p = p} {s0 = s0} {w = w} {names = names} {tree = tree} {out = out} {m = m} (Ok x) result r h =
    subst (λ y. Comes view files left (ruled p) s0 y (record { world = w; names = names; tree = tree; out = out; ticks = m })) (sym r.0)
    (record { comes = given_rule r.1 h.comes })
comes_rule (Err halt) (Ok x) r h = absurd r
comes_rule {A = A} {files = files} {left = left} {p = p} {s0 = s0} {w = w} {names = names} {tree = tree} {out = out} {n = n} {m = m} (Err halt) (Err now) r h =
    record { comes = rule-halted A files left p s0 w names tree out n m halt now r h.comes }
