-- The project notes what a run looks at, and nothing else.
use Rattle.std.proofs.Common.{◌≡◌, ℕ, Bool, true, false, not, List, [], ◌∷◌, ◌++◌, Option, Some, None, Result, Ok, Err, refl, sym, ap}
use Rattle.std.proofs.Common.{subst, ◌∙◌}
use Rattle.std.specs.Prelude.{cond, filter, if◌then◌else◌, ◌&&◌}
use Rattle.std.specs.List.{list_all}
use Rattle.support.specs.Faults.{FaultData}
use Rattle.ports.specs.Outputs.{Step, closing_steps, opening_steps}
use Rattle.build.specs.project.Adding.{after_answer, output_answer, with_output}
use Rattle.build.specs.project.World.{WorldData}
use Rattle.build.specs.project.Refused.{RefusedData}
use Rattle.support.specs.paths.Paths.{path_in}
use Rattle.build.specs.edge.Texts.{Path, first_kept, holds, put_all_new, put_new}
use Rattle.world.specs.Deed.{Files, Deed, give, refuse, tell, ask, consult, read, change, begin_project, make, then as follows, perform}
use Rattle.world.specs.Making.{after_output, given_up, reserved_output, sent_steps, written_output}
use Rattle.world.specs.Noted.{NotesLooks, PresentAreFiles, is_file, is_no_file}
use Rattle.world.specs.Plan.{Plan, deed, ruled, enter, entered, next as next_plan, carry}
use Rattle.world.specs.Run.{Run, ran, Act, Done, Faulted, after, follow, pure, with_end, world_after}
use Rattle.world.specs.Store.{world_after_change}
use Rattle.world.specs.Trace.{Mark}
use Rattle.world.specs.World.{World, facts_after_declaration, world_after_look, noted_in}
use Rattle.world.proofs.Look.{world_taken}

both : {A B : Type 0} {a c : A} {b d : B} → a ≡ c → b ≡ d → ◌≡◌ {A = A × B} (a, b) (c, d)
both {A = A} {B = B} {a = a} {c = c} {b = b} {d = d} e f =
    subst (λ (x : A). ◌≡◌ {A = A × B} (a, b) (x, d)) e (subst (λ (y : B). ◌≡◌ {A = A × B} (a, b) (a, y)) f refl)

-- ---- the first of equal texts

put_last : (kept ts : List Path) (t : Path) → put_all_new kept (ts ++ t ∷ []) ≡ put_new (put_all_new kept ts) t
put_last kept [] t = refl
put_last kept (x ∷ ts) t = put_last (put_new kept x) ts t

once_by : (b : Bool) (kept : List Path) (t : Path) → holds t kept ≡ b → first_kept kept ≡ kept
    → first_kept (if b then kept else kept ++ t ∷ []) ≡ (if b then kept else kept ++ t ∷ [])
once_by true kept t e once = once
once_by false kept t e once = put_last [] kept t ∙ ap (λ l. put_new l t) once ∙ ap (λ b. if b then kept else kept ++ t ∷ []) e

once_new : (kept : List Path) (t : Path) → first_kept kept ≡ kept → first_kept (put_new kept t) ≡ put_new kept t
once_new kept t once = once_by (holds t kept) kept t refl once

once_all : (kept ts : List Path) → first_kept kept ≡ kept → first_kept (put_all_new kept ts) ≡ put_all_new kept ts
once_all kept [] once = once
once_all kept (t ∷ ts) once = once_all (put_new kept t) ts (once_new kept t once)

once : (ts : List Path) → first_kept (first_kept ts) ≡ first_kept ts
once ts = once_all [] ts refl

-- ---- the paths that pass a test

passes_by : (b : Bool) (q path : Path) (l m : List Path) → l ≡ m ++ path ∷ [] → cond b (q ∷ l) l ≡ cond b (q ∷ m) m ++ path ∷ []
passes_by true q path l m e = ap (λ k. q ∷ k) e
passes_by false q path l m e = e

-- the last path passes
passes : (test : Path → Bool) (paths : List Path) (path : Path) → test path ≡ true → filter test (paths ++ path ∷ []) ≡ filter test paths ++ path ∷ []
passes test [] path e = ap (λ b. cond b (path ∷ []) []) e
passes test (q ∷ paths) path e = passes_by (test q) q path (filter test (paths ++ path ∷ [])) (filter test paths) (passes test paths path e)

-- or it does not
falls : (test : Path → Bool) (paths : List Path) (path : Path) → test path ≡ false → filter test (paths ++ path ∷ []) ≡ filter test paths
falls test [] path e = ap (λ b. cond b (path ∷ []) []) e
falls test (q ∷ paths) path e = ap (λ l. cond (test q) (q ∷ l) l) (falls test paths path e)

-- ---- one look

look_by : (files : Files) (path : Path) (b : Bool) (w : World) → is_file files path ≡ b → NotesLooks files w → NotesLooks files (world_after_look w path b)
look_by files path true w e notes =
    let there = filter (is_file files) w.looked in
    let others = filter (is_no_file files) w.looked in
    ap (λ (q : List Path × List Path). (put_new q.0 path, q.1)) notes
    ∙ both (sym (put_last [] there path) ∙ ap first_kept (sym (passes (is_file files) w.looked path e)))
    (ap first_kept (sym (falls (is_no_file files) w.looked path (ap not e))))
look_by files path false w e notes =
    let there = filter (is_file files) w.looked in
    let others = filter (is_no_file files) w.looked in
    ap (λ (q : List Path × List Path). (q.0, put_new q.1 path)) notes
    ∙ both (ap first_kept (sym (falls (is_file files) w.looked path e)))
    (sym (put_last [] others path) ∙ ap first_kept (sym (passes (is_no_file files) w.looked path (ap not e))))

-- what is noted is noted once
noted_once : (files : Files) (w : World) → NotesLooks files w → ◌≡◌ {A = List Path × List Path} (first_kept w.facts.project.present, first_kept w.facts.project.absent) (noted_in w.facts.project)
noted_once files w notes =
    ap (λ (q : List Path × List Path). (first_kept q.0, first_kept q.1)) notes
    ∙ both (once (filter (is_file files) w.looked)) (once (filter (is_no_file files) w.looked)) ∙ sym notes

-- ---- runs

world_later : {A : Type 0} (ms : List Mark) (r : Run A) → world_after (after ms r) ≡ world_after r
world_later ms (ran o w ns) = refl

world_ended : {A : Type 0} (r : Run A) → world_after (with_end r) ≡ world_after r
world_ended (ran o w ms) = refl

follow-notes : {A B : Type 0} (files : Files) (r : Run A) (next : A → Act B) → NotesLooks files (world_after r)
    → ((a : A) (w : World) → NotesLooks files w → NotesLooks files (world_after (next a w))) → NotesLooks files (world_after (follow r next))
follow-notes files (ran (Done a) w ms) next notes later = subst (λ v. NotesLooks files v) (sym (world_later ms (next a w))) (later a w notes)
follow-notes files (ran (Faulted f) w ms) next notes later = notes

-- ---- an output

-- it leaves alone what is noted, where it is taken and where it is refused
noted_kept : (answer : Result (Unit {0}) RefusedData) (p : WorldData) (path : Path) → noted_in (after_answer answer (with_output p path) p) ≡ noted_in p
noted_kept (Ok _) p path = refl
noted_kept (Err refusal) p path = refl

taken-notes : (files : Files) (folder name : List ℕ) (w : World) → NotesLooks files w → NotesLooks files (world_after (reserved_output folder name w))
taken-notes files folder name w notes =
    let answer = output_answer w.facts.project folder name in
    subst (λ v. NotesLooks files v) (sym (world_taken answer (world_after_change (facts_after_declaration (after_output folder name)) w))) (noted_kept answer w.facts.project (path_in folder name) ∙ notes)

-- it is written in the same world
world_made : {A : Type 0} (a : A) (path : Path) (steps : List Step) (fault : Option FaultData) (w : World)
    → world_after (follow (follow (sent_steps (opening_steps path) w) (λ _ v. follow (follow (sent_steps steps v) (λ _. given_up fault)) (λ _. sent_steps closing_steps))) (λ _. pure a)) ≡ w
world_made a path steps None w = refl
world_made a path steps (Some fault) w = refl

-- each deed, by its steps
deed-notes : {A : Type 0} (files : Files) (d : Deed A) (w : World) → NotesLooks files w → NotesLooks files (world_after (perform files d w))
deed-notes files (give a) w notes = notes
deed-notes files (refuse refusal detail) w notes = notes
deed-notes files (tell steps) w notes = notes
deed-notes files (ask path) w notes = look_by files path (is_file files path) w refl notes
deed-notes files (consult question) w notes = notes
deed-notes files read w notes = notes
deed-notes files (change f leaves) w notes = ap (λ (q : (List Path × List Path) × List Path). q.0) (leaves w.facts) ∙ notes
deed-notes files (begin_project facts) w notes = noted_once files w notes ∙ notes
deed-notes files (make folder name ready filling) w notes =
    let path = path_in folder name in
    follow-notes files (reserved_output folder name w) (λ _ v. follow (perform files ready v) (λ a u. follow (written_output path filling u) (λ _. pure a))) (taken-notes files folder name w notes)
    (λ _ v h. follow-notes files (perform files ready v) (λ a u. follow (written_output path filling u) (λ _. pure a)) (deed-notes files ready v h)
    (λ a u k. subst (λ x. NotesLooks files x) (sym (world_made a path filling.steps filling.fault u)) k))
deed-notes files (follows first next) w notes =
    follow-notes files (perform files first w) (λ a. perform files (next a)) (deed-notes files first w notes) (λ a v h. deed-notes files (next a) v h)

-- each plan, by its steps
pub plan-notes : {A : Type 0} (files : Files) (p : Plan A) (w : World) → NotesLooks files w → NotesLooks files (world_after (carry files p w))
plan-notes files (deed d) w notes = deed-notes files d w notes
plan-notes files (ruled p) w notes = subst (λ v. NotesLooks files v) (sym (world_ended (carry files p w))) (plan-notes files p w notes)
plan-notes files (enter folder) w notes = notes
plan-notes files entered w notes = notes
plan-notes files (next_plan first others) w notes =
    follow-notes files (carry files first w) (λ a. carry files (others a)) (plan-notes files first w notes) (λ a v h. plan-notes files (others a) v h)

-- ---- what is noted as present is there

last_by : (b old new : Bool) → (old ≡ true → new ≡ true) → (b && old) ≡ true → (b && new) ≡ true
last_by true old new h e = h e
last_by false old new h e = e

all_last : (test : Path → Bool) (paths : List Path) (path : Path) → list_all test paths ≡ true → test path ≡ true → list_all test (paths ++ path ∷ []) ≡ true
all_last test [] path all e = ap (λ b. b && true) e
all_last test (q ∷ paths) path all e = last_by (test q) (list_all test paths) (list_all test (paths ++ path ∷ [])) (λ h. all_last test paths path h e) all

all_new : (b : Bool) (test : Path → Bool) (kept : List Path) (t : Path) → list_all test kept ≡ true → test t ≡ true
    → list_all test (if b then kept else kept ++ t ∷ []) ≡ true
all_new true test kept t all e = all
all_new false test kept t all e = all_last test kept t all e

kept_by : (b : Bool) (test : Path → Bool) (kept : List Path) (q : Path) (rest : List Path) → test q ≡ b → (test q ≡ true → list_all test (put_all_new (put_new kept q) rest) ≡ true)
    → list_all test (put_all_new kept rest) ≡ true → list_all test (put_all_new kept (cond b (q ∷ rest) rest)) ≡ true
kept_by true test kept q rest e more less = more e
kept_by false test kept q rest e more less = less

-- of paths that pass a test the first of equal ones pass it
all_kept : (test : Path → Bool) (kept paths : List Path) → list_all test kept ≡ true → list_all test (put_all_new kept (filter test paths)) ≡ true
all_kept test kept [] all = all
all_kept test kept (q ∷ paths) all =
    kept_by (test q) test kept q (filter test paths) refl (λ e. all_kept test (put_new kept q) paths (all_new (holds q kept) test kept q all e)) (all_kept test kept paths all)

pub present_are_files : (files : Files) (w : World) → NotesLooks files w → PresentAreFiles files w
present_are_files files w notes =
    ap (λ (q : List Path × List Path). list_all (is_file files) q.0) notes ∙ all_kept (is_file files) [] w.looked refl
