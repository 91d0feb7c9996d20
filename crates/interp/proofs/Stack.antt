-- Plans under a stack of frames.
use Rattle.std.proofs.Common.{◌≡◌, Bool, ℕ, zero, suc, ◌+◌, List, [], ◌∷◌, ◌++◌, Result, Ok, Err, IsErrAnd, drop, length, refl, sym, subst}
use Rattle.std.proofs.Common.{ap, ◌∙◌, option_map, arith}
use Rattle.code.specs.Draft.{IsFront}
use Rattle.arguments.specs.Arguments.{arguments_data}
use Rattle.code.specs.declared.code.Code.{Code}
use Rattle.code.specs.Statements.{name_at}
use Rattle.support.specs.declared.faults.refusal.Refusal.TheVariants as refusals
use Rattle.world.specs.Deed.{Files}
use Rattle.world.specs.Gives.{Gives, Holds, is_ended}
use Rattle.world.specs.Plan.{Plan, next, ruled, carry, give, refuse}
use Rattle.world.specs.Run.{Run, after, follow, with_end}
use Rattle.world.specs.Trace.{Mark, seen_from_parts}
use Rattle.world.specs.World.{World}
use Rattle.world.specs.declared.stop.Stop.{Stop}
use Rattle.world.specs.declared.stop.Stop.TheVariants as stops
use Rattle.world.proofs.Follow.{after-nil}
use Rattle.world.proofs.Marks.{front_of_front, none_added, same_front}
use Rattle.expressions.specs.Codes.{block_by}
use Rattle.interp.specs.Blocks.{statements_of}
use Rattle.expressions.specs.Contexts.{Stand, Given, seen_of, Leads}
use Rattle.interp.specs.Bounds.{bounds}
use Rattle.interp.specs.Folders.{folder}
use Rattle.interp.specs.StatementCalls.{call_for_effect}
use Rattle.interp.specs.Statements.{after_round, do_all, on_next, rounds_of}
use Rattle.interp.specs.declared.flow.Flow.{Flow}
use Rattle.interp.specs.declared.flow.Flow.TheVariants.{Next}
use Rattle.interp.specs.declared.frames.BlockRest.{BlockRest}
use Rattle.interp.specs.declared.frames.PendingCall.{PendingCall}
use Rattle.interp.specs.declared.frames.LoopRest.{LoopRest}
use Rattle.interp.specs.declared.frames.Frame.{Frame}
use Rattle.interp.specs.declared.frames.Frame.TheVariants as frames
use Rattle.interp.specs.Frames.{Rest, Others, Rounds, Calls, End, Left, Refuses, one_round, gone_back, behind, behind_all, Made, Means, EachMeans}
use Rattle.interp.specs.Frames.{Stacked, ends_in, pending_rules, unwound_rules, Moved, Moves, others_by, round_by, rounds_left}
use Rattle.interp.specs.FolderEntries.{ended_all}
use Rattle.expressions.proofs.Evaluating.{follow-after, with_end-after, given_give, given_none, given_rule, given_stop, leads_as, leads_end}
use Rattle.expressions.proofs.Evaluating.{leads_further, leads_given, leads_next}

-- ---- marks that come first

-- a run, and what is left behind it
abbrev onto : Files → Rest → Run Flow → Run Flow
onto files (Others left ss) r = follow r (λ flow. carry files (on_next flow (do_all (folder left) left.few ss)))
onto files (Rounds left line first second body rounds) r = follow r (λ flow. carry files (after_round flow (rounds_of (one_round left line first second body) rounds)))
onto files (Calls line f a) r = follow r (λ flow. carry files (call_for_effect line f a))
onto files End r = with_end r
onto files (Left file below line) r = follow r (λ flow. carry files (gone_back file below line flow))
onto files (Refuses line) r = follow r (λ flow. carry files (refuse line refusals.Type []))

onto-is : (files : Files) (r : Rest) (p : Plan Flow) (w : World) → carry files (behind r p) w ≡ onto files r (carry files p w)
onto-is files (Others left ss) p w = refl
onto-is files (Rounds left line first second body rounds) p w = refl
onto-is files (Calls line f a) p w = refl
onto-is files End p w = refl
onto-is files (Left file below line) p w = refl
onto-is files (Refuses line) p w = refl

onto-after : (files : Files) (r : Rest) (ms : List Mark) (x : Run Flow) → onto files r (after ms x) ≡ after ms (onto files r x)
onto-after files (Others left ss) ms x = follow-after ms x _
onto-after files (Rounds left line first second body rounds) ms x = follow-after ms x _
onto-after files (Calls line f a) ms x = follow-after ms x _
onto-after files End ms x = with_end-after ms x
onto-after files (Left file below line) ms x = follow-after ms x _
onto-after files (Refuses line) ms x = follow-after ms x _

-- ---- what was done, and the rest

-- what is done is done behind a rest
leads_behind : (r : Rest) {files : Files} {p q : Plan Flow} {s s1 : Stand} → Leads files p s q s1 → Leads files (behind r p) s (behind r q) s1
leads_behind r {files = files} {p = p} {q = q} {s = s} {s1 = s1} l = record {
  continues = record {
    made = l.continues.made;
    is = onto-is files r p s.world ∙ ap (onto files r) l.continues.is ∙ onto-after files r l.continues.made (carry files q s1.world)
        ∙ ap (after l.continues.made) (sym (onto-is files r q s1.world));
    written = l.continues.written;
  };
  holds = l.holds;
}

pub leads_under : (rs : List Rest) {files : Files} {p q : Plan Flow} {s s1 : Stand} → Leads files p s q s1 → Leads files (behind_all rs p) s (behind_all rs q) s1
leads_under [] l = l
leads_under (r ∷ rs) l = leads_behind r (leads_under rs l)

-- ---- faults

abbrev ends_of_rest : Rest → ℕ
ends_of_rest (Others left ss) = 0
ends_of_rest (Rounds left line first second body rounds) = 0
ends_of_rest (Calls line f a) = 0
ends_of_rest End = 1
ends_of_rest (Left file below line) = 0
ends_of_rest (Refuses line) = 0

abbrev ends_of_all : List Rest → ℕ
ends_of_all [] = 0
ends_of_all (r ∷ rs) = ends_of_rest r + ends_of_all rs

-- a fault counts them
abbrev counted : Stop → ℕ → ℕ
counted (stops.Refused fault) n = n
counted stops.Device n = 0
counted stops.Memory n = 0

abbrev pub counting : ℕ → Stand → Stand
counting n s = record { world = s.world; names = s.names; tree = s.tree; out = s.out; ticks = n }

counted-none : (stop : Stop) → counted stop 0 ≡ 0
counted-none (stops.Refused fault) = refl
counted-none stops.Device = refl
counted-none stops.Memory = refl

counted-ended : (stop : Stop) → is_ended {B = Flow} (Err stop) ≡ counted stop 1
counted-ended (stops.Refused fault) = refl
counted-ended stops.Device = refl
counted-ended stops.Memory = refl

counted-sum : (stop : Stop) (m n : ℕ) → counted stop (m + n) ≡ counted stop n + counted stop m
counted-sum (stops.Refused fault) m n = omega arith
counted-sum stops.Device m n = refl
counted-sum stops.Memory m n = refl

counted-pending : (stop : Stop) (fs : List Frame) → unwound_rules stop fs ≡ counted stop (pending_rules fs)
counted-pending (stops.Refused fault) fs = refl
counted-pending stops.Device fs = refl
counted-pending stops.Memory fs = refl

pub given_counting : {A B : Type 0} {view : B → A} {files : Files} {p : Plan A} {s0 s : Stand} {result : Result B Stop} (n : ℕ) → n ≡ s.ticks → Given view files p s0 result s → Given view files p s0 result (counting n s)
given_counting {view = view} {files = files} {p = p} {s0 = s0} {s = s} {result = result} n e g = record {
  gives = subst (λ k. Gives view (carry files p s0.world) result s.world (seen_of s0) (seen_from_parts s.out k s.names)) (sym e) g.gives;
  holds = g.holds;
}

stops_behind : (r : Rest) {files : Files} {p : Plan Flow} {s0 s : Stand} (stop : Stop) (n : ℕ) → n ≡ s.ticks + counted stop (ends_of_rest r)
    → Given {B = Flow} (λ f. f) files p s0 (Err stop) s → Given {B = Flow} (λ f. f) files (behind r p) s0 (Err stop) (counting n s)
stops_behind (Others left ss) {s = s} stop n e g = given_counting n (omega (arith, e, counted-none stop)) (given_stop g refl)
stops_behind (Rounds left line first second body rounds) {s = s} stop n e g = given_counting n (omega (arith, e, counted-none stop)) (given_stop g refl)
stops_behind (Calls line f a) {s = s} stop n e g = given_counting n (omega (arith, e, counted-none stop)) (given_stop g refl)
stops_behind End {s = s} stop n e g = given_rule (e ∙ ap (λ k. s.ticks + k) (sym (counted-ended stop))) g
stops_behind (Left file below line) {s = s} stop n e g = given_counting n (omega (arith, e, counted-none stop)) (given_stop g refl)
stops_behind (Refuses line) {s = s} stop n e g = given_counting n (omega (arith, e, counted-none stop)) (given_stop g refl)

stops_under : (rs : List Rest) {files : Files} {p : Plan Flow} {s0 s : Stand} (stop : Stop) (n : ℕ) → n ≡ s.ticks + counted stop (ends_of_all rs)
    → Given {B = Flow} (λ f. f) files p s0 (Err stop) s → Given {B = Flow} (λ f. f) files (behind_all rs p) s0 (Err stop) (counting n s)
stops_under [] stop n e g = given_counting n (omega (arith, e, counted-none stop)) g
stops_under (r ∷ rs) {s = s} stop n e g =
    stops_behind r stop n (omega (arith, e, counted-sum stop (ends_of_rest r) (ends_of_all rs))) (stops_under rs stop (s.ticks + counted stop (ends_of_all rs)) refl g)

-- ---- frames and what they mean

means-ends : (names : List (List ℕ)) (f : Frame) (r : Rest) → Means names f r → ends_in f ≡ ends_of_rest r
means-ends names (frames.Block b) r m = sym (ap ends_of_rest m.is)
means-ends names (frames.Loop l) r m = sym (ap ends_of_rest m.is)
means-ends names (frames.Call call) r m = sym (ap ends_of_rest m)
means-ends names frames.End r m = sym (ap ends_of_rest m)
means-ends names (frames.Left place) r m = sym (ap ends_of_rest m)
means-ends names (frames.Refuses line) r m = sym (ap ends_of_rest m)

stacked-ends : (names : List (List ℕ)) (fs : List Frame) (rs : List Rest) → EachMeans names fs rs → pending_rules fs ≡ ends_of_all rs
stacked-ends names [] [] h = refl
stacked-ends names (f ∷ fs) (r ∷ rs) h = omega (arith, means-ends names f r h.0, stacked-ends names fs rs h.1)
stacked-ends names [] (r ∷ rs) h = absurd h
stacked-ends names (f ∷ fs) [] h = absurd h

-- the names have grown
pub made_on : {c : Code} {old new table : List (List ℕ)} → IsFront old new → Made c old table → Made c new table
made_on {old = old} {new = new} {table = table} h m = record { front = front_of_front table old new m.front h; known = m.known }

means-on : (f : Frame) (r : Rest) {old new : List (List ℕ)} → IsFront old new → Means old f r → Means new f r
means-on (frames.Block b) r h m = record { table = m.table; made = made_on h m.made; few = m.few; is = m.is }
means-on (frames.Loop l) r h m = record { table = m.table; made = made_on h m.made; few = m.few; is = m.is }
means-on (frames.Call call) r h m = m
means-on frames.End r h m = m
means-on (frames.Left place) r h m = m
means-on (frames.Refuses line) r h m = m

stacked-on : {old new : List (List ℕ)} (fs : List Frame) (rs : List Rest) → IsFront old new → EachMeans old fs rs → EachMeans new fs rs
stacked-on [] [] h m = tt
stacked-on (f ∷ fs) (r ∷ rs) h m = (means-on f r h m.0, stacked-on fs rs h m.1)
stacked-on [] (r ∷ rs) h m = absurd m
stacked-on (f ∷ fs) [] h m = absurd m

pub stacked_on : {old new : List (List ℕ)} (fs : List Frame) (rs : List Rest) → IsFront old new → Stacked old fs rs → Stacked new fs rs
stacked_on fs rs h m = record { each = stacked-on fs rs h m.each }

-- one frame more
stacked-push : (names : List (List ℕ)) (fs : List Frame) (rs : List Rest) (f : Frame) (r : Rest) → EachMeans names fs rs → Means names f r → EachMeans names (fs ++ f ∷ []) (rs ++ r ∷ [])
stacked-push names [] [] f r h m = (m, tt)
stacked-push names (g ∷ fs) (s ∷ rs) f r h m = (h.0, stacked-push names fs rs f r h.1 m)
stacked-push names [] (s ∷ rs) f r h m = absurd h
stacked-push names (g ∷ fs) [] f r h m = absurd h

pub stacked_top : {names : List (List ℕ)} (fs gs : List Frame) (rs : List Rest) (f : Frame) (r : Rest) → gs ≡ fs ++ f ∷ [] → Stacked names fs rs → Means names f r → Stacked names gs (rs ++ r ∷ [])
stacked_top {names = names} fs gs rs f r is h m = subst (λ l. Stacked names l (rs ++ r ∷ [])) (sym is) (record { each = stacked-push names fs rs f r h.each m })

pub behind_top : (rs : List Rest) (r : Rest) (p : Plan Flow) → behind_all (rs ++ r ∷ []) p ≡ behind_all rs (behind r p)
behind_top [] r p = refl
behind_top (s ∷ rs) r p = ap (behind s) (behind_top rs r p)

pub behind_two : (rs : List Rest) (r s : Rest) (p : Plan Flow) → behind_all ((rs ++ r ∷ []) ++ s ∷ []) p ≡ behind_all rs (behind r (behind s p))
behind_two rs r s p = behind_top (rs ++ r ∷ []) s p ∙ behind_top rs r (behind s p)

-- so many ends more
abbrev pub over_ends : List Frame → ℕ → List Frame
over_ends fs zero = fs
over_ends fs (suc n) = over_ends fs n ++ frames.End ∷ []

abbrev pub under_ends : List Rest → ℕ → List Rest
under_ends rs zero = rs
under_ends rs (suc n) = under_ends rs n ++ End ∷ []

pub stacked_ends : {names : List (List ℕ)} (fs : List Frame) (rs : List Rest) (n : ℕ) → Stacked names fs rs → Stacked names (over_ends fs n) (under_ends rs n)
stacked_ends fs rs zero h = h
stacked_ends fs rs (suc n) h = stacked_top (over_ends fs n) (over_ends fs (suc n)) (under_ends rs n) frames.End End refl (stacked_ends fs rs n h) refl

ended-within : (n : ℕ) (p : Plan Flow) → ended_all n (ruled p) ≡ ruled (ended_all n p)
ended-within zero p = refl
ended-within (suc n) p = ap ruled (ended-within n p)

pub behind_ends : (rs : List Rest) (n : ℕ) (p : Plan Flow) → behind_all (under_ends rs n) p ≡ behind_all rs (ended_all n p)
behind_ends rs zero p = refl
behind_ends rs (suc n) p = behind_top (under_ends rs n) End p ∙ behind_ends rs n (ruled p) ∙ ap (behind_all rs) (ended-within n p)

-- one frame less
pub record Popped (names : List (List ℕ)) (fs : List Frame) (f : Frame) (rs : List Rest) : Type 0 where
  pub below : List Rest
  pub top : Rest
  pub all : rs ≡ below ++ top ∷ []
  pub stacked : Stacked names fs below
  pub means : Means names f top

popped-top : (names : List (List ℕ)) (fs : List Frame) (f : Frame) (rs : List Rest) → EachMeans names (fs ++ f ∷ []) rs → Popped names fs f rs
popped-top names [] f [] h = absurd h
popped-top names [] f (r ∷ []) h = record { below = []; top = r; all = refl; stacked = record { each = tt }; means = h.0 }
popped-top names [] f (r ∷ s ∷ rs) h = absurd h.1
popped-top names (g ∷ fs) f [] h = absurd h
popped-top names (g ∷ fs) f (r ∷ rs) h =
    let p = popped-top names fs f rs h.1 in
    record { below = r ∷ p.below; top = p.top; all = ap (λ l. r ∷ l) p.all; stacked = record { each = (h.0, p.stacked.each) }; means = p.means }

pub popped : {names : List (List ℕ)} (fs gs : List Frame) (f : Frame) (rs : List Rest) → gs ≡ fs ++ f ∷ [] → Stacked names gs rs → Popped names fs f rs
popped {names = names} fs gs f rs is h = let d : Stacked names (fs ++ f ∷ []) rs = subst (λ l. Stacked names l rs) is h in popped-top names fs f rs d.each

-- ---- steps

pub moves_as : {files : Files} {whole other : Plan Flow} {s0 s1 : Stand} {result : Result Flow Stop} {fs : List Frame} → whole ≡ other → Moves files whole s0 result fs s1 → Moves files other s0 result fs s1
moves_as {files = files} {s0 = s0} {s1 = s1} {result = result} {fs = fs} e m = subst (λ p. Moves files p s0 result fs s1) e m

pub moves_then : {files : Files} {whole rest : Plan Flow} {s0 s1 s2 : Stand} (result : Result Flow Stop) {fs : List Frame} → Leads files whole s0 rest s1 → Moves files rest s1 result fs s2 → Moves files whole s0 result fs s2
moves_then (Ok flow) l m = record { moves = record { rests = m.moves.rests; stacked = m.moves.stacked; leads = leads_further l m.moves.leads } }
moves_then (Err stop) l m = record { moves = leads_end l m.moves }

-- a call that puts nothing on the stack
pub moves_given : (fs : List Frame) (rs : List Rest) {files : Files} {p : Plan Flow} {s0 s1 : Stand} (result : Result Flow Stop)
    → Stacked s0.names fs rs → Given (λ f. f) files p s0 result s1 → Moves files (behind_all rs p) s0 result fs s1
moves_given fs rs (Ok flow) h g = record { moves = record { rests = rs; stacked = stacked_on fs rs g.gives.written.names h; leads = leads_under rs (leads_given g) } }
moves_given fs rs {s0 = s0} {s1 = s1} (Err stop) h g =
    record { moves = stops_under rs stop (s1.ticks + unwound_rules stop fs) (ap (λ n. s1.ticks + n) (counted-pending stop fs ∙ ap (counted stop) (stacked-ends s0.names fs rs h.each))) g }

-- want of memory
pub moves_none : {files : Files} {whole rest : Plan Flow} {s0 s1 : Stand} (result : Result Flow Stop) (fs : List Frame)
    → Leads files whole s0 rest s1 → IsErrAnd result (λ e. e ≡ stops.Memory) → Moves files whole s0 result fs s1
moves_none (Ok flow) fs l is = absurd is
moves_none {files = files} {whole = whole} {s0 = s0} {s1 = s1} (Err e) fs l is =
    subst (λ d. Moves files whole s0 (Err d) fs s1) (sym is) (record { moves = given_counting (s1.ticks + 0) (omega arith) (leads_end l (given_none l.holds refl)) })

-- what was given is handed on to the rest
pub moves_next : (rs : List Rest) {A : Type 0} {files : Files} (x : A) (others : A → Plan Flow) {s0 s1 : Stand} (result : Result Flow Stop) {fs : List Frame}
    → Holds s0.tree files → Moves files (behind_all rs (others x)) s0 result fs s1 → Moves files (behind_all rs (next (give x) others)) s0 result fs s1
moves_next rs {A = A} x others {s0 = s0} result h m =
    moves_then result (leads_under rs (leads_next {view = λ (a : A). a} {others = others} (given_give {view = λ (a : A). a} {a = x} {x = x} h refl))) m

leads_back : {A : Type 0} {files : Files} {x : A} {others : A → Plan Flow} {s : Stand} → Holds s.tree files → Leads files (others x) s (next (give x) others) s
leads_back {files = files} {x = x} {others = others} {s = s} h =
    let r : Run Flow = carry files (others x) s.world in
    record { continues = record { made = []; is = sym (after-nil (after [] r) ∙ after-nil r); written = none_added (seen_of s) }; holds = h }

-- what is next is put on the stack
pub leads_laid : (rs : List Rest) (r : Rest) {files : Files} {whole : Plan Flow} {others : Flow → Plan Flow} {s0 s : Stand} → behind r (give Next) ≡ next (give Next) others
    → Leads files whole s0 (behind_all rs (others Next)) s → Leads files whole s0 (behind_all (rs ++ r ∷ []) (give Next)) s
leads_laid rs r is l = leads_as (ap (behind_all rs) (sym is) ∙ sym (behind_top rs r (give Next))) (leads_further l (leads_under rs (leads_back l.holds)))

-- so a block begins
pub moves_block : (few : Bool) (fs gs : List Frame) (rs : List Rest) (b : BlockRest) {files : Files} {whole : Plan Flow} {s0 s : Stand} (table : List (List ℕ))
    → Stacked s.names fs rs → gs ≡ fs ++ frames.Block b ∷ [] → Made b.code.value s.names table
    → Leads files whole s0 (behind_all rs (do_all (folder (bounds few b.left)) few (others_by table b))) s → Moves files whole s0 (Ok Next) gs s
moves_block few fs gs rs b table h is m l = record {
  moves = record {
    rests = rs ++ Others (bounds few b.left) (others_by table b) ∷ [];
    stacked = stacked_top fs gs rs (frames.Block b) (Others (bounds few b.left) (others_by table b)) is h (record { table = table; made = m; few = few; is = refl });
    leads = leads_laid rs (Others (bounds few b.left) (others_by table b)) {others = λ flow. on_next flow (do_all (folder (bounds few b.left)) few (others_by table b))} refl l;
  };
}

-- so does a call
pub moves_call : (fs gs : List Frame) (rs : List Rest) (call : PendingCall) {files : Files} {whole : Plan Flow} {s0 s : Stand}
    → Stacked s.names fs rs → gs ≡ fs ++ frames.Call call ∷ []
    → Leads files whole s0 (behind_all rs (call_for_effect call.line call.function (arguments_data call.arguments))) s → Moves files whole s0 (Ok Next) gs s
moves_call fs gs rs call h is l =
    let r : Rest = Calls call.line call.function (arguments_data call.arguments) in
    record {
      moves = record {
        rests = rs ++ r ∷ [];
        stacked = stacked_top fs gs rs (frames.Call call) r is h refl;
        leads = leads_laid rs r {others = λ _. call_for_effect call.line call.function (arguments_data call.arguments)} refl l;
      };
    }

abbrev pub rounds_rest : Bool → List (List ℕ) → LoopRest → Rest
rounds_rest few table l = Rounds (bounds few l.left) l.head.line (name_at table l.head.first) (option_map (name_at table) l.head.second)
    (block_by table l.code.value (statements_of l.code.value l.head.body)) (rounds_left l)

-- so does a loop
pub moves_loop : (few : Bool) (fs gs : List Frame) (rs : List Rest) (r : LoopRest) {files : Files} {whole : Plan Flow} {s0 s : Stand} (table : List (List ℕ))
    → Stacked s.names fs rs → gs ≡ fs ++ frames.Loop r ∷ [] → Made r.code.value s.names table
    → Leads files whole s0 (behind_all rs (rounds_of (round_by table r.code.value (bounds few r.left) r.head) (rounds_left r))) s → Moves files whole s0 (Ok Next) gs s
moves_loop few fs gs rs r table h is m l = record {
  moves = record {
    rests = rs ++ rounds_rest few table r ∷ [];
    stacked = stacked_top fs gs rs (frames.Loop r) (rounds_rest few table r) is h (record { table = table; made = m; few = few; is = refl });
    leads = leads_laid rs (rounds_rest few table r) {others = λ flow. after_round flow (rounds_of (round_by table r.code.value (bounds few r.left) r.head) (rounds_left r))} refl l;
  };
}

-- ---- the whole run

-- one step more
pub step_then : {files : Files} {whole : Plan Flow} {s0 s1 s2 : Stand} (fs gs hs : List Frame) (f : Frame) (flow : Flow) (result : Result Flow Stop) → gs ≡ fs ++ f ∷ []
    → Moved files whole s0 flow gs s1
    → ((rests : List Rest) (rest : Rest) → Stacked s1.names fs rests → Means s1.names f rest → Moves files (behind_all rests (behind rest (give flow))) s1 result hs s2)
    → Moves files whole s0 result hs s2
step_then fs gs hs f flow result is m step =
    let p = popped fs gs f m.rests is m.stacked in
    moves_then result (leads_as (ap (λ l. behind_all l (give flow)) p.all ∙ behind_top p.below p.top (give flow)) m.leads) (step p.below p.top p.stacked p.means)

-- nothing is left on the stack
run-ended : {files : Files} {whole : Plan Flow} {s0 s1 : Stand} (names : List (List ℕ)) (rs : List Rest) (flow : Flow) → Stacked names [] rs → Leads files whole s0 (behind_all rs (give flow)) s1 → Given (λ f. f) files whole s0 (Ok flow) s1
run-ended names [] flow h l = leads_end l (given_give l.holds refl)
run-ended names (r ∷ rs) flow h l = absurd h.each

pub run_ended : {files : Files} {whole : Plan Flow} {s0 s1 : Stand} (gs : List Frame) (flow : Flow) → gs ≡ [] → Moved files whole s0 flow gs s1 → Given (λ f. f) files whole s0 (Ok flow) s1
run_ended {s1 = s1} gs flow is m = run-ended s1.names m.rests flow (subst (λ l. Stacked s1.names l m.rests) is m.stacked) m.leads

-- the run is given up
pub run_none : {files : Files} {whole rest : Plan Flow} {s0 s1 : Stand} {result : Result Flow Stop} → Leads files whole s0 rest s1 → IsErrAnd result (λ e. e ≡ stops.Memory) → Given (λ f. f) files whole s0 result s1
run_none l is = leads_end l (given_none l.holds is)

-- what a frame means, by what it is
pub means_as : (names : List (List ℕ)) (r : Rest) {f g : Frame} → f ≡ g → Means names f r → Means names g r
means_as names r e m = subst (λ (x : Frame). Means names x r) e m

-- a place that is kept
pub left_here : {file below file' below' : List ℕ} {line line' : ℕ} → file ≡ file' → below ≡ below' → line ≡ line' → Left file below line ≡ Left file' below' line'
left_here {below = below} {file' = file'} {below' = below'} {line = line} a b d =
    ap (λ x. Left x below line) a ∙ ap (λ x. Left file' x line) b ∙ ap (λ x. Left file' below' x) d

-- code that was made now
pub made_now : {c d : Code} {names : List (List ℕ)} → c ≡ d → d.names ≡ length names → Made c names names
made_now {names = names} e n = record { front = same_front names; known = omega (arith, ap (λ (x : Code). x.names) e, n) }

-- the rest of a block is put on the stack, and the end of the rule of the statement before it
pub moves_statement : (few : Bool) (fs gs hs : List Frame) (rs : List Rest) (b : BlockRest) (p : Plan Flow) {files : Files} {s0 s1 : Stand} {result : Result Flow Stop} {ks : List Frame} {c : Code} (table : List (List ℕ))
    → b.code.value ≡ c → gs ≡ fs ++ frames.Block b ∷ [] → hs ≡ gs ++ frames.End ∷ []
    → Stacked s0.names fs rs → Made c s0.names table
    → ((rests : List Rest) → Stacked s0.names hs rests → Moves files (behind_all rests p) s0 result ks s1)
    → Moves files (behind_all rs (next (ruled p) (λ flow. on_next flow (do_all (folder (bounds few b.left)) few (block_by table c (drop b.at (statements_of c b.block))))))) s0 result ks s1
moves_statement few fs gs hs rs b p {s0 = s0} {c = c} table same put end h made step =
    let o : Rest = Others (bounds few b.left) (block_by table c (drop b.at (statements_of c b.block))) in
    let m : Made b.code.value s0.names table = subst (λ (d : Code). Made d s0.names table) (sym same) made in
    let is : o ≡ Others (bounds few b.left) (others_by table b) = ap (λ (d : Code). Others (bounds few b.left) (block_by table d (drop b.at (statements_of d b.block)))) (sym same) in
    let one = stacked_top fs gs rs (frames.Block b) o put h (record { table = table; made = m; few = few; is = is }) in
    let two = stacked_top gs hs (rs ++ o ∷ []) frames.End End end one refl in
    moves_as (behind_two rs o End p) (step ((rs ++ o ∷ []) ++ End ∷ []) two)

-- so are the rounds of a loop behind one
pub moves_round : (few : Bool) (fs gs hs : List Frame) (rs : List Rest) (l : LoopRest) (p : Plan Flow) {files : Files} {s0 s1 : Stand} {result : Result Flow Stop} {ks : List Frame} {c : Code} (table : List (List ℕ))
    → l.code.value ≡ c → gs ≡ fs ++ frames.Loop l ∷ [] → hs ≡ gs ++ frames.End ∷ []
    → Stacked s0.names fs rs → Made c s0.names table
    → ((rests : List Rest) → Stacked s0.names hs rests → Moves files (behind_all rests p) s0 result ks s1)
    → Moves files (behind_all rs (next (ruled p) (λ flow. after_round flow (rounds_of (round_by table c (bounds few l.left) l.head) (rounds_left l))))) s0 result ks s1
moves_round few fs gs hs rs l p {s0 = s0} {c = c} table same put end h made step =
    let o : Rest = Rounds (bounds few l.left) l.head.line (name_at table l.head.first) (option_map (name_at table) l.head.second) (block_by table c (statements_of c l.head.body)) (rounds_left l) in
    let m : Made l.code.value s0.names table = subst (λ (d : Code). Made d s0.names table) (sym same) made in
    let is : o ≡ rounds_rest few table l =
    ap (λ (d : Code). Rounds (bounds few l.left) l.head.line (name_at table l.head.first) (option_map (name_at table) l.head.second) (block_by table d (statements_of d l.head.body)) (rounds_left l)) (sym same) in
    let one = stacked_top fs gs rs (frames.Loop l) o put h (record { table = table; made = m; few = few; is = is }) in
    let two = stacked_top gs hs (rs ++ o ∷ []) frames.End End end one refl in
    moves_as (behind_two rs o End p) (step ((rs ++ o ∷ []) ++ End ∷ []) two)

-- the same code
pub made_as : {c d : Code} {names table : List (List ℕ)} → c ≡ d → Made c names table → Made d names table
made_as {names = names} {table = table} e m = subst (λ (x : Code). Made x names table) e m
