-- Statements that are done where they stand.
use Rattle.std.proofs.Common.{◌≡◌, ℕ, ◌+◌, ◌<◌, ◌≤◌, true, false, List, drop, length, get_or, Option, Some, None, Result, Ok, Err, IsErrAnd}
use Rattle.std.proofs.Common.{Box, Global, refl, sym, ap, subst, ◌∙◌}
use Rattle.code.specs.Statements.{statement_at}
use Rattle.code.specs.declared.code.Code.{Code}
use Rattle.code.specs.declared.node.StatementNode.{StatementNode}
use Rattle.code.specs.declared.node.StatementNode.TheVariants as flat
use Rattle.syntax.specs.Tree.{statements, StatementTree}
use Rattle.world.specs.Deed.{Files}
use Rattle.world.specs.Plan.{Plan, give, next, ruled}
use Rattle.world.specs.declared.stop.Stop.{Stop}
use Rattle.world.specs.declared.stop.Stop.TheVariants as stops
use Rattle.expressions.specs.Codes.{block_by, statements_by}
use Rattle.expressions.specs.Contexts.{Given, Leads, Stand}
use Rattle.expressions.proofs.Evaluating.{given_stop, leads_as, leads_end, leads_further, leads_within, next_item}
use Rattle.interp.specs.Blocks.{BeginsDeep, DeepIfNone, IsDeep, ToursDeep, behind_loop, goes_round, is_next, node_at}
use Rattle.interp.specs.Bounds.{Bounds}
use Rattle.interp.specs.Evaluates.{Comes, HaltsTo}
use Rattle.interp.specs.Folders.{folder}
use Rattle.interp.specs.Frames.{DoneHere, DoneTo, Parts, Rested, parts_by, round_by, loop_left, walk_left}
use Rattle.interp.specs.FolderEntries.{folder_in_expression}
use Rattle.interp.specs.Statements.{after_round, do_all, does, on_next, rounds_of}
use Rattle.expressions.specs.Rounds.{Round}
use Rattle.interp.specs.declared.frames.LoopHead.{LoopHead}
use Rattle.interp.specs.declared.flow.Flow.{Flow}
use Rattle.interp.specs.declared.flow.Flow.TheVariants.{Next, Continued, Broken, Finished}
use Rattle.interp.specs.declared.halt.Halt.{Halt}
use Rattle.interp.specs.declared.halt.Halt.TheVariants as halts
use Rattle.interp.specs.declared.halt.FolderEntry.{FolderEntry}
use Rattle.interp.specs.declared.loop_rounds.LoopProgress.{LoopProgress}
use Rattle.interp.specs.declared.loop_rounds.LoopProgress.TheVariants as tours
use Rattle.interp.specs.declared.block_statements.BlockProgress.{BlockProgress}
use Rattle.interp.specs.declared.block_statements.BlockProgress.TheVariants as walks
use Rattle.interp.proofs.Coming.{leads_rule}
use Rattle.interp.proofs.Spelling.{drop_all}

-- ---- one statement

-- it has halted
pub done_halt : {B : Type 0} {view : B → Flow} {files : Files} {left : Bounds} {plan : Plan Flow} {s0 s1 : Stand} {halt : Halt} (result : Result (Option Flow) Halt)
    → IsErrAnd result (λ e. e ≡ halt) → Comes view files left plan s0 (Err halt) s1 → DoneHere files left plan s0 result s1
done_halt (Ok x) is h = absurd is
done_halt {files = files} {left = left} {plan = plan} {s0 = s0} {s1 = s1} (Err e) is h = record { done = subst (λ d. HaltsTo files left plan s0 d s1) (sym is) h.comes }

-- the same plan, written otherwise
pub done_as : {files : Files} {left : Bounds} {plan other : Plan Flow} {s0 s1 : Stand} {result : Result (Option Flow) Halt} → plan ≡ other → DoneHere files left plan s0 result s1 → DoneHere files left other s0 result s1
done_as {files = files} {left = left} {s0 = s0} {s1 = s1} {result = result} e d = subst (λ p. DoneHere files left p s0 result s1) e d

-- what it came to
pub done_flow : {files : Files} {left : Bounds} {plan : Plan Flow} {s0 s1 : Stand} {o : Option Flow} {flow : Flow} → o ≡ Some flow → DoneHere files left plan s0 (Ok o) s1 → Given (λ (f : Flow). f) files plan s0 (Ok flow) s1
done_flow {files = files} {left = left} {plan = plan} {s0 = s0} {s1 = s1} is d = subst (λ (x : Option Flow). DoneTo files left plan s0 (Ok x) s1) is d.done

pub done_none : {files : Files} {left : Bounds} {plan : Plan Flow} {s0 s1 : Stand} {o : Option Flow} → o ≡ None → DoneHere files left plan s0 (Ok o) s1 → Leads files plan s0 plan s1
done_none {files = files} {left = left} {plan = plan} {s0 = s0} {s1 = s1} is d = subst (λ (x : Option Flow). DoneTo files left plan s0 (Ok x) s1) is d.done

pub done_stops : {files : Files} {left : Bounds} {plan : Plan Flow} {s0 s1 : Stand} {halt : Halt} {stop : Stop} → halt ≡ halts.Stops stop → DoneHere files left plan s0 (Err halt) s1 → Given {B = Flow} (λ f. f) files plan s0 (Err stop) s1
done_stops {files = files} {left = left} {plan = plan} {s0 = s0} {s1 = s1} is d = subst (λ (x : Halt). HaltsTo files left plan s0 x s1) is d.done

pub done_enters : {files : Files} {left : Bounds} {plan : Plan Flow} {s0 s1 : Stand} {halt : Halt} {entry : Box FolderEntry Global} → halt ≡ halts.Enters entry → DoneHere files left plan s0 (Err halt) s1 → Leads files plan s0 (folder_in_expression left entry.value) s1
done_enters {files = files} {left = left} {plan = plan} {s0 = s0} {s1 = s1} is d = subst (λ (x : Halt). HaltsTo files left plan s0 x s1) is d.done

-- ---- which need the stack

pub deep_as : {node other : StatementNode} → node ≡ other → IsDeep other → IsDeep node
deep_as e d = subst (λ x. IsDeep x) (sym e) d

pub deep_none : (node : StatementNode) {o : Option Flow} → o ≡ None → DeepIfNone node (Ok o) → IsDeep node
deep_none node is d = subst (λ (x : Option Flow). DeepIfNone node (Ok x)) is d

pub begins_deep : (c : Code) (progress : BlockProgress) (number at : ℕ) → progress ≡ walks.Begins number at → BeginsDeep c (Ok progress) → (number < length c.statements.items) × IsDeep (node_at c number)
begins_deep c progress number at is b = subst (λ (x : BlockProgress). BeginsDeep c (Ok x)) is b

pub begins_of : {c d : Code} (progress : BlockProgress) → d ≡ c → BeginsDeep d (Ok progress) → BeginsDeep c (Ok progress)
begins_of progress e b = subst (λ (x : Code). BeginsDeep x (Ok progress)) e b

pub stands_of : {c d : Code} (rounds : LoopProgress) (progress : BlockProgress) (at : ℕ) → d ≡ c → rounds ≡ tours.Stands progress at → ToursDeep d (Ok rounds) → BeginsDeep c (Ok progress)
stands_of {d = d} rounds progress at e is b = let h : BeginsDeep d (Ok progress) = subst (λ (x : LoopProgress). ToursDeep d (Ok x)) is b in begins_of progress e h

pub none_begins : (c : Code) (stop : Stop) (result : Result BlockProgress Stop) → IsErrAnd result (λ e. e ≡ stop) → BeginsDeep c result
none_begins c stop (Ok progress) is = absurd is
none_begins c stop (Err e) is = tt

pub ended_begins : (c : Code) {stop : Stop} (result : Result BlockProgress Stop) → result ≡ Err stop → BeginsDeep c result
ended_begins c result is = subst (λ (r : Result BlockProgress Stop). BeginsDeep c r) (sym is) tt

pub none_tours : (c : Code) (stop : Stop) (result : Result LoopProgress Stop) → IsErrAnd result (λ e. e ≡ stop) → ToursDeep c result
none_tours c stop (Ok progress) is = absurd is
none_tours c stop (Err e) is = tt

pub ended_tours : (c : Code) {stop : Stop} (result : Result LoopProgress Stop) → result ≡ Err stop → ToursDeep c result
ended_tours c result is = subst (λ (r : Result LoopProgress Stop). ToursDeep c r) (sym is) tt

-- ---- one after another

-- the statement at a place comes first, and then the others
pub walked_on : (left : Bounds) (table : List (List ℕ)) (c : Code) (numbers ns : List ℕ) (place : ℕ) {files : Files} {whole : Plan Flow} {s0 s : Stand} → numbers ≡ ns → place < length numbers
    → Leads files whole s0 (do_all (folder left) left.few (block_by table c (drop place ns))) s
    → Leads files whole s0 (next (ruled (does (folder left) left.few (statement_at (statements_by table c) (get_or numbers place 0)))) (λ flow. on_next flow (do_all (folder left) left.few (block_by table c (drop (place + 1) ns))))) s
walked_on left table c numbers ns place e l led =
    let tree = statement_at (statements_by table c) in
    leads_as (ap (λ (xs : List ℕ). do_all (folder left) left.few (block_by table c (drop place xs))) (sym e)
    ∙ ap (λ (ys : List StatementTree). do_all (folder left) left.few (statements ys)) (next_item tree numbers place 0 l)
    ∙ ap (λ (xs : List ℕ). next (ruled (does (folder left) left.few (tree (get_or numbers place 0)))) (λ flow. on_next flow (do_all (folder left) left.few (block_by table c (drop (place + 1) xs))))) e) led

-- all were done
pub walked_all : (left : Bounds) (table : List (List ℕ)) (c : Code) (numbers ns : List ℕ) (place : ℕ) {files : Files} {whole : Plan Flow} {s0 s : Stand} → numbers ≡ ns → length numbers ≤ place
    → Leads files whole s0 (do_all (folder left) left.few (block_by table c (drop place ns))) s → Leads files whole s0 (give Next) s
walked_all left table c numbers ns place e l led =
    leads_as (ap (λ (xs : List ℕ). do_all (folder left) left.few (block_by table c (drop place xs))) (sym e)
    ∙ ap (λ (xs : List ℕ). do_all (folder left) left.few (block_by table c xs)) (drop_all numbers place l)) led

pub next-is : (flow : Flow) (others : Plan Flow) → is_next flow ≡ true → on_next flow others ≡ others
next-is Next others e = refl
next-is Continued others e = cc
next-is Broken others e = cc
next-is Finished others e = cc

pub next-not : (flow : Flow) (others : Plan Flow) → is_next flow ≡ false → on_next flow others ≡ give flow
next-not Next others e = cc
next-not Continued others e = refl
next-not Broken others e = refl
next-not Finished others e = refl

pub round-on : (flow : Flow) (others : Plan Flow) → goes_round flow ≡ true → after_round flow others ≡ others
round-on Next others e = refl
round-on Continued others e = refl
round-on Broken others e = cc
round-on Finished others e = cc

pub round-not : (flow : Flow) (others : Plan Flow) → goes_round flow ≡ false → after_round flow others ≡ give (behind_loop flow)
round-not Next others e = cc
round-not Continued others e = cc
round-not Broken others e = refl
round-not Finished others e = refl

-- the next statement follows
pub walked_next : {files : Files} {whole others : Plan Flow} {s0 s : Stand} (flow : Flow) → is_next flow ≡ true → Leads files whole s0 (on_next flow others) s → Leads files whole s0 others s
walked_next {others = others} flow e l = leads_as (next-is flow others e) l

-- the block is left
pub walked_out : {files : Files} {whole : Plan Flow} (others : Plan Flow) {s0 s : Stand} (flow : Flow) → is_next flow ≡ false → Leads files whole s0 (on_next flow others) s → Leads files whole s0 (give flow) s
walked_out others flow e l = leads_as (next-not flow others e) l

-- the next round follows
pub toured_next : {files : Files} {whole others : Plan Flow} {s0 s : Stand} (flow : Flow) → goes_round flow ≡ true → Leads files whole s0 (after_round flow others) s → Leads files whole s0 others s
toured_next {others = others} flow e l = leads_as (round-on flow others e) l

-- the loop is left
pub toured_out : {files : Files} {whole : Plan Flow} (others : Plan Flow) {s0 s : Stand} (flow : Flow) → goes_round flow ≡ false → Leads files whole s0 (after_round flow others) s → Leads files whole s0 (give (behind_loop flow)) s
toured_out others flow e l = leads_as (round-not flow others e) l

-- a statement stops
pub walked_stop : {files : Files} {whole p : Plan Flow} {others : Flow → Plan Flow} {s0 s s1 : Stand} (stop : Stop) → Leads files whole s0 (next (ruled p) others) s
    → Given {B = Flow} (λ f. f) files (ruled p) s (Err stop) s1 → Given {B = Flow} (λ f. f) files whole s0 (Err stop) s1
walked_stop stop l g = leads_end l (given_stop g refl)

-- it is left for a folder
pub walked_left : {files : Files} {whole p q : Plan Flow} {others : Flow → Plan Flow} {s0 s s1 : Stand} → Leads files whole s0 (next (ruled p) others) s
    → Leads files p s q s1 → Leads files whole s0 (next (ruled q) others) s1
walked_left l m = leads_within l (leads_rule m)

-- ---- what was done

pub rested_stop : {X : Type 0} {rest : X → Plan Flow} {files : Files} {whole : Plan Flow} {s0 s : Stand} {stop : Stop} (result : Result X Stop) → IsErrAnd result (λ e. e ≡ stop)
    → Given {B = Flow} (λ f. f) files whole s0 (Err stop) s → Rested rest files whole s0 result s
rested_stop (Ok x) is g = absurd is
rested_stop {files = files} {whole = whole} {s0 = s0} {s = s} (Err e) is g = record { rested = subst (λ d. Given {B = Flow} (λ f. f) files whole s0 (Err d) s) (sym is) g }

pub rested_ended : {X : Type 0} {rest : X → Plan Flow} {files : Files} {whole : Plan Flow} {s0 s : Stand} {stop : Stop} (result : Result X Stop) → result ≡ Err stop
    → Given {B = Flow} (λ f. f) files whole s0 (Err stop) s → Rested rest files whole s0 result s
rested_ended {X = X} {rest = rest} {files = files} {whole = whole} {s0 = s0} {s = s} result is g = subst (λ (r : Result X Stop). Rested rest files whole s0 r s) (sym is) (record { rested = g })

-- what comes first was done before
pub rested_then : {X : Type 0} {rest : X → Plan Flow} {files : Files} {whole mid : Plan Flow} {s0 s1 s2 : Stand} {result : Result X Stop} → Leads files whole s0 mid s1
    → Rested rest files mid s1 result s2 → Rested rest files whole s0 result s2
rested_then {result = Ok x} l r = record { rested = leads_further l r.rested }
rested_then {result = Err stop} l r = record { rested = leads_end l r.rested }

pub walk_of : {files : Files} (parts : Parts) (left : Bounds) {whole : Plan Flow} {s0 s : Stand} {progress other : BlockProgress} → progress ≡ other → Rested (walk_left parts left) files whole s0 (Ok progress) s
    → Leads files whole s0 (walk_left parts left other) s
walk_of parts left is r = leads_as (ap (walk_left parts left) is) r.rested

pub tour_of : {files : Files} (parts : Parts) (left : Bounds) (rounds : ℕ → Plan Flow) {whole : Plan Flow} {s0 s : Stand} {progress other : LoopProgress} → progress ≡ other → Rested (loop_left parts left rounds) files whole s0 (Ok progress) s
    → Leads files whole s0 (loop_left parts left rounds other) s
tour_of parts left rounds is r = leads_as (ap (loop_left parts left rounds) is) r.rested

-- the same of the code that is lent
pub toured_of : (left : Bounds) (table : List (List ℕ)) (head : LoopHead) (xs : List Round) (from : ℕ) {c d : Code} {files : Files} {s0 s : Stand} {result : Result LoopProgress Stop} → d ≡ c
    → Rested (loop_left (parts_by table d left head.body) left (λ at. rounds_of (round_by table d left head) (drop at xs))) files (rounds_of (round_by table d left head) (drop from xs)) s0 result s
    → Rested (loop_left (parts_by table c left head.body) left (λ at. rounds_of (round_by table c left head) (drop at xs))) files (rounds_of (round_by table c left head) (drop from xs)) s0 result s
toured_of left table head xs from {files = files} {s0 = s0} {s = s} {result = result} e w =
    subst (λ (x : Code). Rested (loop_left (parts_by table x left head.body) left (λ at. rounds_of (round_by table x left head) (drop at xs))) files (rounds_of (round_by table x left head) (drop from xs)) s0 result s) e w

-- no memory was left
pub memory_is : {X : Type 0} {stop : Stop} (result : Result X Stop) → stop ≡ stops.Memory → IsErrAnd result (λ e. e ≡ stop) → IsErrAnd result (λ e. e ≡ stops.Memory)
memory_is result m is = subst (λ d. IsErrAnd result (λ e. e ≡ d)) m is

-- a statement of these alone needs the stack
pub deep_only : (node : StatementNode) → IsDeep node → ((x : _) → node ≡ flat.If x → ⊥) → ((x : _) → node ≡ flat.Foreach x → ⊥) → ((value line : ℕ) → node ≡ flat.Expression value line → ⊥) → ⊥
deep_only (flat.If node) d a b e = a node refl
deep_only (flat.Foreach node) d a b e = b node refl
deep_only (flat.Expression value line) d a b e = e value line refl
deep_only (flat.Assign name line value) d a b e = d
deep_only (flat.Append name line value) d a b e = d
deep_only (flat.Break line) d a b e = d
deep_only (flat.Continue line) d a b e = d
