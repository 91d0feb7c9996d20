-- Each output of `configure_file` is closed, after a run that is done.
use Rattle.std.proofs.Common.{◌≡◌, Bool, true, false, List, [], ◌∷◌, ◌++◌, map, Option, Some, None, Result, Ok, Err, refl, sym, ap, subst}
use Rattle.std.proofs.Common.{◌∙◌, append-nil, append_assoc}
use Rattle.std.specs.Prelude.{◌&&◌, bytes_eq}
use Rattle.std.proofs.lemmas.Bool.{false≢true}
use Rattle.std.proofs.lemmas.Slice.Eq.{bytes_eq-Decides}
use Rattle.support.specs.Faults.{FaultData}
use Rattle.build.specs.edge.Texts.{Path, holds}
use Rattle.support.specs.paths.Paths.{path_in}
use Rattle.ports.specs.Outputs.{Step, Opens, Puts, Closes, Logs, Faults, closing_steps, name_after, name_or_empty, opening_steps, events_of_steps}
use Rattle.build.specs.project.Adding.{after_answer, output_answer, with_output}
use Rattle.build.specs.project.Laws.{all_held}
use Rattle.build.specs.project.World.{WorldData}
use Rattle.build.specs.project.Refused.{RefusedData}
use Rattle.build.proofs.EdgeOrder.{holds_append, holds_left, holds_right, or_cases, or_left, or_right}
use Rattle.world.specs.Deed.{Files, Deed, give, refuse, tell, ask, consult, read, change, begin_project, make, then as follows, perform}
use Rattle.world.specs.Made.{ClosesOutputs, closed_by}
use Rattle.world.specs.Making.{given_up, taken_by, sent_steps, written_output}
use Rattle.world.specs.Noted.{is_file}
use Rattle.world.specs.Plan.{Plan, deed, ruled, enter, entered, next as next_plan, carry}
use Rattle.world.specs.Run.{Run, ran, Act, Done, Faulted, after, follow, pure, with_end}
use Rattle.world.specs.Trace.{Mark, Ended, Told, steps_of}
use Rattle.world.specs.World.{World, project_with_path, with_facts, with_project}
use Rattle.world.proofs.Marks.{steps_of-append}
use Rattle.world.proofs.Tells.{steps_of-told}
use Rattle.world.proofs.Values.{two}

abbrev outputs : World → List Path
outputs w = w.facts.project.outputs

-- ---- lists that hold a path

held_cases : (p : Path) (xs ys : List Path) → holds p (xs ++ ys) ≡ true → {P : Type 0} → (holds p xs ≡ true → P) → (holds p ys ≡ true → P) → P
held_cases p xs ys h = or_cases (holds p xs) (holds p ys) (sym (holds_append p xs ys) ∙ h)

held_one : (p q : Path) → holds p (q ∷ []) ≡ true → p ≡ q
held_one p q h = or_cases (bytes_eq p q) false h (λ e. (bytes_eq-Decides p q).0 e) (λ e. absurd (false≢true e))

-- each path of a list is among those known
abbrev Among : (known paths : List Path) → Type 0
Among known paths = (p : Path) → holds p paths ≡ true → holds p known ≡ true

among_all : (known ps : List Path) → Among known ps → all_held known ps ≡ true
among_all known [] h = refl
among_all known (q ∷ ps) h =
    ap (λ b. b && all_held known ps) (h q (or_left (bytes_eq q q) (holds q ps) ((bytes_eq-Decides q q).1 refl)))
    ∙ among_all known ps (λ p e. h p (or_right (bytes_eq p q) (holds p ps) e))

-- ---- what steps close

closed_by-append : (name : Option Path) (a b : List Step) → closed_by name (a ++ b) ≡ closed_by name a ++ closed_by (name_after name a) b
unfolding events_of_steps name_after
closed_by-append name [] b = refl
closed_by-append name (Opens next ∷ a) b = closed_by-append (Some next) a b
closed_by-append name (Puts byte ∷ a) b = closed_by-append name a b
closed_by-append name (Closes ∷ a) b = ap (λ ps. name_or_empty name ∷ ps) (closed_by-append None a b)
closed_by-append name (Logs byte ∷ a) b = closed_by-append name a b
closed_by-append name (Faults byte ∷ a) b = closed_by-append name a b

opened : (name : Option Path) (path : Path) → name_after name (opening_steps path) ≡ Some path
unfolding name_after opening_steps
opened name path = refl

closed : (path : Path) → closed_by (Some path) closing_steps ≡ path ∷ []
unfolding events_of_steps closing_steps
closed path = refl

-- an output that is opened, filled and closed
closes_made : (name : Option Path) (path : Path) (steps : List Step) → ((before : Option Path) → name_after before steps ≡ before) → holds path (closed_by name (opening_steps path ++ (steps ++ closing_steps))) ≡ true
closes_made name path steps stays =
    let open_name : name_after name (opening_steps path) ≡ Some path = opened name path in
    let last : closed_by (name_after (name_after name (opening_steps path)) steps) closing_steps ≡ path ∷ [] = ap (λ n. closed_by n closing_steps) (stays (name_after name (opening_steps path)) ∙ open_name) ∙ closed path in
    let self : holds path (path ∷ []) ≡ true = or_left (bytes_eq path path) false ((bytes_eq-Decides path path).1 refl) in
    ap (holds path) (closed_by-append name (opening_steps path) (steps ++ closing_steps))
    ∙ holds_right path (closed_by name (opening_steps path)) (closed_by (name_after name (opening_steps path)) (steps ++ closing_steps))
    (ap (holds path) (closed_by-append (name_after name (opening_steps path)) steps closing_steps)
    ∙ holds_right path (closed_by (name_after name (opening_steps path)) steps) (closed_by (name_after (name_after name (opening_steps path)) steps) closing_steps) (ap (holds path) last ∙ self))

-- ---- runs

-- after a run that is done each output is one of these, or closed
abbrev Keeps : {A : Type 0} → List Path → Run A → Type 0
Keeps before (ran (Done _) w ms) = (name : Option Path) → Among (before ++ closed_by name (steps_of ms)) (outputs w)
Keeps before (ran (Faulted _) w ms) = Unit {0}

-- a run that is done closes this path
abbrev ClosesPath : {A : Type 0} → Path → Run A → Type 0
ClosesPath path (ran (Done _) w ms) = (name : Option Path) → holds path (closed_by name (steps_of ms)) ≡ true
ClosesPath path (ran (Faulted _) w ms) = Unit {0}

-- nothing is made
same_keeps : (before : List Path) (steps : List Mark) (w : World) → outputs w ≡ before → (name : Option Path) → Among (before ++ closed_by name (steps_of steps)) (outputs w)
same_keeps before ms w same name p h = holds_left p before (closed_by name (steps_of ms)) (ap (holds p) (sym same) ∙ h)

closed_after : (name : Option Path) (ms ns : List Mark) → closed_by name (steps_of (ms ++ ns)) ≡ closed_by name (steps_of ms) ++ closed_by (name_after name (steps_of ms)) (steps_of ns)
closed_after name ms ns = ap (closed_by name) (steps_of-append ms ns) ∙ closed_by-append name (steps_of ms) (steps_of ns)

keeps_later : {B : Type 0} (before : List Path) (w : World) (ms : List Mark) (r : Run B) → ((name : Option Path) → Among (before ++ closed_by name (steps_of ms)) (outputs w)) → Keeps (outputs w) r → Keeps before (after ms r)
keeps_later before w ms (ran (Done b) u ns) first later = λ name p h.
    let front = closed_by name (steps_of ms) in
    let rest = closed_by (name_after name (steps_of ms)) (steps_of ns) in
    ap (λ l. holds p (before ++ l)) (closed_after name ms ns) ∙ ap (holds p) (sym (append_assoc before front rest))
    ∙ held_cases p (outputs w) rest (later (name_after name (steps_of ms)) p h) (λ e. holds_left p (before ++ front) rest (first name p e)) (λ e. holds_right p (before ++ front) rest e)
keeps_later before w ms (ran (Faulted f) u ns) first later = tt

follow-keeps : {A B : Type 0} (before : List Path) (r : Run A) (next : A → Act B) → Keeps before r → ((a : A) (w : World) → Keeps (outputs w) (next a w)) → Keeps before (follow r next)
follow-keeps before (ran (Done a) w ms) next first later = keeps_later before w ms (next a w) first (later a w)
follow-keeps before (ran (Faulted f) w ms) next first later = tt

closes_later : {B : Type 0} (path : Path) (ms : List Mark) (r : Run B) → ClosesPath path r → ClosesPath path (after ms r)
closes_later path ms (ran (Done b) w ns) h = λ name.
    ap (holds path) (closed_after name ms ns) ∙ holds_right path (closed_by name (steps_of ms)) (closed_by (name_after name (steps_of ms)) (steps_of ns)) (h (name_after name (steps_of ms)))
closes_later path ms (ran (Faulted f) w ns) h = tt

follow-closes : {A B : Type 0} (path : Path) (r : Run A) (next : A → Act B) → ((a : A) (w : World) → ClosesPath path (next a w)) → ClosesPath path (follow r next)
follow-closes path (ran (Done a) w ms) next later = closes_later path ms (next a w) (later a w)
follow-closes path (ran (Faulted f) w ms) next later = tt

-- ---- one output

-- the steps of an output that is made
made_steps : (a b c : List Step) → steps_of ((map Told a ++ ((map Told b ++ []) ++ map Told c)) ++ []) ≡ a ++ (b ++ c)
made_steps a b c =
    ap steps_of (append-nil (map Told a ++ ((map Told b ++ []) ++ map Told c)) ∙ ap (λ l. map Told a ++ (l ++ map Told c)) (append-nil (map Told b)))
    ∙ steps_of-append (map Told a) (map Told b ++ map Told c)
    ∙ two (λ x y. x ++ y) (steps_of-told a) (steps_of-append (map Told b) (map Told c) ∙ two (λ x y. x ++ y) (steps_of-told b) (steps_of-told c))

-- it is opened, filled with these steps and closed
abbrev making : {A : Type 0} → A → Path → List Step → Option FaultData → Act A
making a path steps fault w = follow (follow (sent_steps (opening_steps path) w) (λ _ v. follow (follow (sent_steps steps v) (λ _. given_up fault)) (λ _. sent_steps closing_steps))) (λ _. pure a)

making-closes : {A : Type 0} (a : A) (path : Path) (steps : List Step) (fault : Option FaultData) (w : World) → ((before : Option Path) → name_after before steps ≡ before) → ClosesPath path (making a path steps fault w)
making-closes a path steps None w stays = λ name. ap (λ l. holds path (closed_by name l)) (made_steps (opening_steps path) steps closing_steps) ∙ closes_made name path steps stays
making-closes a path steps (Some fault) w stays = tt

making-keeps : {A : Type 0} (a : A) (path : Path) (steps : List Step) (fault : Option FaultData) (w : World) → Keeps (outputs w) (making a path steps fault w)
making-keeps a path steps None w =
    same_keeps (outputs w) ((map Told (opening_steps path) ++ ((map Told steps ++ []) ++ map Told closing_steps)) ++ []) w refl
making-keeps a path steps (Some fault) w = tt

-- a path is taken, and closed by what is done then
taken-keeps : {B : Type 0} (before : List Path) (path : Path) (r : Run B) → Keeps (before ++ path ∷ []) r → ClosesPath path r → Keeps before (after [] r)
taken-keeps before path (ran (Done b) w ms) keeps closes = λ name p h.
    let all = closed_by name (steps_of ms) in
    held_cases p (before ++ path ∷ []) all (keeps name p h)
    (λ e. held_cases p before (path ∷ []) e (λ f. holds_left p before all f) (λ f. holds_right p before all (ap (λ q. holds q all) (held_one p path f) ∙ closes name)))
    (λ e. holds_right p before all e)
taken-keeps before path (ran (Faulted f) w ms) keeps closes = tt

-- the project answers so
answered-keeps : {B : Type 0} (answer : Result (Unit {0}) RefusedData) (path : Path) (w : World) (next : Act B) → ((v : World) → Keeps (outputs v) (next v)) → ((v : World) → ClosesPath path (next v))
    → Keeps (outputs w) (follow (taken_by answer (with_facts w (with_project (after_answer answer (with_output w.facts.project path) w.facts.project) w.facts))) (λ _. next))
answered-keeps (Ok _) path w next keeps closes =
    let v : World = with_facts w (with_project (with_output w.facts.project path) w.facts) in taken-keeps (outputs w) path (next v) (keeps v) (closes v)
answered-keeps (Err refusal) path w next keeps closes = tt

-- ---- deeds and plans

noted-outputs : (b : Bool) (path : Path) (p : WorldData) → (project_with_path path b p).outputs ≡ p.outputs
noted-outputs true path p = refl
noted-outputs false path p = refl

none_held : (known : List Path) → Among known []
none_held known p h = absurd (false≢true h)

deed-keeps : {A : Type 0} (files : Files) (d : Deed A) (w : World) → Keeps (outputs w) (perform files d w)
deed-keeps files (give a) w = same_keeps (outputs w) [] w refl
deed-keeps files (refuse refusal detail) w = tt
deed-keeps files (tell steps) w = same_keeps (outputs w) (map Told steps) w refl
deed-keeps files (ask path) w = λ name p h. holds_left p (outputs w) (closed_by name []) (ap (holds p) (sym (noted-outputs (is_file files path) path w.facts.project)) ∙ h)
deed-keeps files (consult question) w = same_keeps (outputs w) [] w refl
deed-keeps files read w = same_keeps (outputs w) [] w refl
deed-keeps files (change f leaves) w =
    same_keeps (outputs w) [] (with_facts w (f w.facts)) (ap (λ (q : (List Path × List Path) × List Path). q.1) (leaves w.facts))
deed-keeps files (begin_project facts) w = λ name. none_held (outputs w ++ closed_by name [])
deed-keeps files (make folder name ready filling) w =
    let path = path_in folder name in
    let rest = λ (v : World). follow (perform files ready v) (λ a u. follow (written_output path filling u) (λ _. pure a)) in
    answered-keeps (output_answer w.facts.project folder name) path w rest
    (λ v. follow-keeps (outputs v) (perform files ready v) (λ a u. follow (written_output path filling u) (λ _. pure a)) (deed-keeps files ready v) (λ a u. making-keeps a path filling.steps filling.fault u))
    (λ v. follow-closes path (perform files ready v) (λ a u. follow (written_output path filling u) (λ _. pure a)) (λ a u. making-closes a path filling.steps filling.fault u filling.stays))
deed-keeps files (follows first next) w =
    follow-keeps (outputs w) (perform files first w) (λ a. perform files (next a)) (deed-keeps files first w) (λ a v. deed-keeps files (next a) v)

ended-keeps : {A : Type 0} (before : List Path) (r : Run A) → Keeps before r → Keeps before (with_end r)
ended-keeps before (ran (Done a) w ms) h = λ name.
    subst (λ l. Among (before ++ closed_by name l) (outputs w)) (sym (steps_of-append ms (Ended ∷ []) ∙ append-nil (steps_of ms))) (h name)
ended-keeps before (ran (Faulted f) w ms) h = tt

plan-keeps : {A : Type 0} (files : Files) (p : Plan A) (w : World) → Keeps (outputs w) (carry files p w)
plan-keeps files (deed d) w = deed-keeps files d w
plan-keeps files (ruled p) w = ended-keeps (outputs w) (carry files p w) (plan-keeps files p w)
plan-keeps files (enter folder) w = same_keeps (outputs w) [] w refl
plan-keeps files entered w = same_keeps (outputs w) [] w refl
plan-keeps files (next_plan first others) w =
    follow-keeps (outputs w) (carry files first w) (λ a. carry files (others a)) (plan-keeps files first w) (λ a v. plan-keeps files (others a) v)

kept_closed : {A : Type 0} (r : Run A) → Keeps [] r → ClosesOutputs r
kept_closed (ran (Done a) w ms) h = λ name. among_all (closed_by name (steps_of ms)) (outputs w) (h name)
kept_closed (ran (Faulted f) w ms) h = tt

-- each plan closes what it makes, where nothing was made before
pub plan-closes : {A : Type 0} (files : Files) (p : Plan A) (w : World) → outputs w ≡ [] → ClosesOutputs (carry files p w)
plan-closes files p w none = kept_closed (carry files p w) (subst (λ l. Keeps l (carry files p w)) none (plan-keeps files p w))
