-- How many rules deeds and plans end.
use Rattle.std.proofs.Common.{◌≡◌, ℕ, ◌+◌, ◌≤◌, Bool, true, false, List, [], ◌∷◌, ◌++◌, map, Option, Some, None, Result, Ok, Err, refl, sym}
use Rattle.std.proofs.Common.{ap, ◌∙◌, arith}
use Rattle.std.specs.Prelude.{◌||◌, bytes_eq, if◌then◌else◌}
use Rattle.std.proofs.lemmas.List.Folds.{list_any-append}
use Rattle.std.proofs.lemmas.Slice.Eq.{bytes_eq-Decides}
use Rattle.support.specs.Faults.{FaultData}
use Rattle.support.specs.paths.Paths.{path_in}
use Rattle.ports.specs.Outputs.{Step, closing_steps, opening_steps}
use Rattle.ports.specs.Tree.{file_at}
use Rattle.build.specs.project.Adding.{output_answer}
use Rattle.build.specs.project.Refused.{RefusedData}
use Rattle.world.specs.Making.{Filling, after_output, given_up, reserved_output, taken_by, sent_steps, written_output}
use Rattle.world.specs.Store.{world_after_change}
use Rattle.world.specs.Trace.{Mark, Told, Ended, ends_of}
use Rattle.world.specs.World.{World, facts_after_declaration}
use Rattle.world.specs.Run.{Run, ran, Act, Done, Faulted, after, follow, pure, with_end, marks_of, world_after}
use Rattle.world.specs.Deed.{Files, Deed, give, refuse, tell, ask, consult, read, change, begin_project, make, then as andthen, perform}
use Rattle.world.specs.Plan.{Plan, deed, ruled, next as next_plan, carry}
use Rattle.world.specs.Costs.{definition_file, is_opened, unless, unopened_cost, cost_of_run, Costs}
use Rattle.world.proofs.Look.{world_taken}
use Rattle.world.proofs.Marks.{ends_of-append}

abbrev pub Price : Type 0
Price = List ℕ × List ℕ → ℕ

pub spent-after : {A : Type 0} (price : Price) (files : Files) (ms : List Mark) (r : Run A) → cost_of_run price files (after ms r) ≡ ends_of ms + cost_of_run price files r
spent-after price files ms (ran o w ns) = omega (arith, ends_of-append ms ns)

spent-with_end : {A : Type 0} (price : Price) (files : Files) (r : Run A) → cost_of_run price files (with_end r) ≡ 1 + cost_of_run price files r
spent-with_end price files (ran o w ms) = omega (arith, ends_of-append ms (Ended ∷ []))

spent-follow : {A B : Type 0} (price : Price) (files : Files) (d : ℕ) (r : Run A) (next : A → Act B) → ((a : A) → Costs price files d (next a))
    → cost_of_run price files (follow r next) ≤ cost_of_run price files r + d
spent-follow price files d (ran (Done a) w ms) next p = omega (arith, spent-after price files ms (next a w), (p a).within w)
spent-follow price files d (ran (Faulted f) w ms) next p = omega arith

ends_of-told : (ss : List Step) → ends_of (map Told ss) ≡ 0
ends_of-told [] = refl
ends_of-told (s ∷ ss) = ends_of-told ss

taken_by-ends : (answer : Result (Unit {0}) RefusedData) (w : World) → ends_of (marks_of (taken_by answer w)) ≡ 0
taken_by-ends (Ok _) w = refl
taken_by-ends (Err refusal) w = refl

module _ (price : Price) (files : Files) where
  still : {A : Type 0} (act : Act A) → ((w : World) → ends_of (marks_of (act w)) ≡ 0) → ((w : World) → (world_after (act w)).entered ≡ w.entered) → Costs price files 0 act
  still act none same = record { within = λ w. omega (arith, none w, ap (unopened_cost price files) (same w)) }

  chain_acts : {A B : Type 0} {act : Act A} {next : A → Act B} {c d : ℕ} → Costs price files c act → ((a : A) → Costs price files d (next a)) → Costs price files (c + d) (λ w. follow (act w) next)
  chain_acts {act = act} {next = next} {d = d} p q = record { within = λ w. omega (arith, p.within w, spent-follow price files d (act w) next q) }

  telling-costs : (steps : List Step) → Costs price files 0 (sent_steps steps)
  telling-costs steps = still (sent_steps steps) (λ w. ends_of-told steps) (λ w. refl)

  given_up-costs : (fault : Option FaultData) → Costs price files 0 (given_up fault)
  given_up-costs None = still (given_up None) (λ w. refl) (λ w. refl)
  given_up-costs (Some fault) = still (given_up (Some fault)) (λ w. refl) (λ w. refl)

  written-costs : (path : List ℕ) (filling : Filling) → Costs price files 0 (written_output path filling)
  written-costs path filling =
      chain_acts (telling-costs (opening_steps path)) (λ _. chain_acts (chain_acts (telling-costs filling.steps) (λ _. given_up-costs filling.fault)) (λ _. telling-costs closing_steps))

  taken-costs : (folder name : List ℕ) → Costs price files 0 (reserved_output folder name)
  taken-costs folder name =
      let later = λ (w : World). world_after_change (facts_after_declaration (after_output folder name)) w in
      still (reserved_output folder name) (λ w. taken_by-ends (output_answer w.facts.project folder name) (later w))
      (λ w. ap (λ (v : World). v.entered) (world_taken (output_answer w.facts.project folder name) (later w)))

  -- a deed ends no rule
  pub deed-costs : {A : Type 0} (d : Deed A) → Costs price files 0 (perform files d)
  deed-costs (give a) = still (perform files (give a)) (λ w. refl) (λ w. refl)
  deed-costs (refuse refusal detail) = still (perform files (refuse refusal detail)) (λ w. refl) (λ w. refl)
  deed-costs (tell steps) = still (perform files (tell steps)) (λ w. ends_of-told steps) (λ w. refl)
  deed-costs (ask path) = still (perform files (ask path)) (λ w. refl) (λ w. refl)
  deed-costs (consult question) = still (perform files (consult question)) (λ w. refl) (λ w. refl)
  deed-costs read = still (perform files read) (λ w. refl) (λ w. refl)
  deed-costs (change f leaves) = still (perform files (change f leaves)) (λ w. refl) (λ w. refl)
  deed-costs (begin_project facts) = still (perform files (begin_project facts)) (λ w. refl) (λ w. refl)
  deed-costs (make folder name ready filling) =
      chain_acts (taken-costs folder name) (λ _. chain_acts (deed-costs ready) (λ a. chain_acts (written-costs (path_in folder name) filling) (λ _. still (pure a) (λ w. refl) (λ w. refl))))
  deed-costs (andthen first next) = chain_acts (deed-costs first) (λ a. deed-costs (next a))

  -- a plan costs what its act does
  pub record Takes {A : Type 0} (cost : ℕ) (plan : Plan A) : Type 0 where
    pub costs : Costs price files cost (carry files plan)

  pub more : {A : Type 0} {p : Plan A} {c d : ℕ} → c ≤ d → Takes c p → Takes d p
  more h t = record { costs = record { within = λ w. omega (arith, h, t.costs.within w) } }

  pub free : {A : Type 0} {c : ℕ} (d : Deed A) → Takes c (deed d)
  free d = record { costs = record { within = λ w. omega (arith, (deed-costs d).within w) } }

  -- where the cost is not known from the place
  pub none : {A : Type 0} (d : Deed A) → Takes 0 (deed d)
  none d = free d

  pub chain : {A B : Type 0} {p : Plan A} {others : A → Plan B} {c d : ℕ} → Takes c p → ((a : A) → Takes d (others a)) → Takes (c + d) (next_plan p others)
  chain t u = record { costs = chain_acts t.costs (λ a. (u a).costs) }

  pub rules : {A : Type 0} {p : Plan A} {c : ℕ} → Takes c p → Takes (1 + c) (ruled p)
  rules {p = p} t = record { costs = record { within = λ w. omega (arith, t.costs.within w, spent-with_end price files (carry files p w)) } }

-- ---- what a file costs is paid by what may no longer be opened

unless-or : (a b : Bool) (n : ℕ) → unless (a || b) n ≤ unless a n
unless-or true b n = omega arith
unless-or false true n = omega arith
unless-or false false n = omega arith

unless-append : (path folder : List ℕ) (folders : List (List ℕ)) (n : ℕ) → unless (is_opened (folders ++ folder ∷ []) path) n ≤ unless (is_opened folders path) n
unless-append path folder folders n =
    rw (list_any-append (λ f. bytes_eq (definition_file f) path) folders (folder ∷ []))
    (unless-or (is_opened folders path) (is_opened (folder ∷ []) path) n)

pub unopened-append : (price : Price) (files : Files) (folders : List (List ℕ)) (folder : List ℕ) → unopened_cost price files (folders ++ folder ∷ []) ≤ unopened_cost price files folders
unopened-append price [] folders folder = omega arith
unopened-append price (f ∷ fs) folders folder = omega (arith, unless-append f.0 folder folders (price f), unopened-append price fs folders folder)

some_same : {A : Type 0} (x y : A) → Some x ≡ Some y → x ≡ y
some_same x y e = cc

-- a file that was not opened is paid by opening it
pub opens : (price : Price) (files : Files) (folders : List (List ℕ)) (folder bytes : List ℕ) → is_opened folders (definition_file folder) ≡ false → file_at files (definition_file folder) ≡ Some bytes
    → price (definition_file folder, bytes) + unopened_cost price files (folders ++ folder ∷ []) ≤ unopened_cost price files folders
opens price [] folders folder bytes new is = absurd cc
opens price (f ∷ fs) folders folder bytes new is = at (opens price fs folders folder bytes new) (bytes_eq f.0 (definition_file folder)) refl is
  where
    at : (file_at fs (definition_file folder) ≡ Some bytes → price (definition_file folder, bytes) + unopened_cost price fs (folders ++ folder ∷ []) ≤ unopened_cost price fs folders) → (b : Bool)
        → bytes_eq f.0 (definition_file folder) ≡ b → (if b then Some f.1 else file_at fs (definition_file folder)) ≡ Some bytes
        → price (definition_file folder, bytes) + unopened_cost price (f ∷ fs) (folders ++ folder ∷ []) ≤ unopened_cost price (f ∷ fs) folders
    at others true same is' =
        let it : f.0 ≡ definition_file folder = (bytes_eq-Decides f.0 (definition_file folder)).0 same in
        let before : is_opened folders f.0 ≡ false = ap (is_opened folders) it ∙ new in
        let self : bytes_eq (definition_file folder) f.0 ≡ true = (bytes_eq-Decides (definition_file folder) f.0).1 (sym it) in
        let after : is_opened (folders ++ folder ∷ []) f.0 ≡ true =
        list_any-append (λ g. bytes_eq (definition_file g) f.0) folders (folder ∷ []) ∙ ap (λ b. b || is_opened (folder ∷ []) f.0) before ∙ ap (λ b. b || false) self in
        let whole : price (definition_file folder, bytes) ≡ price f = ap (λ p. price (p, bytes)) (sym it) ∙ ap (λ b. price (f.0, b)) (sym (some_same f.1 bytes is')) in
        omega (arith, ap (λ b. unless b (price f)) before, ap (λ b. unless b (price f)) after, whole, unopened-append price fs folders folder)
    at others false other is' = omega (arith, others is', unless-append f.0 folder folders (price f))

-- ---- runs whose result has a price of its own

abbrev pub paid : {A : Type 0} → (A → ℕ) → Run A → ℕ
paid worth (ran (Done a) w ms) = worth a
paid worth (ran (Faulted f) w ms) = 0

pub paid-after : {A : Type 0} (worth : A → ℕ) (ms : List Mark) (r : Run A) → paid worth (after ms r) ≡ paid worth r
paid-after worth ms (ran (Done a) w ns) = refl
paid-after worth ms (ran (Faulted f) w ns) = refl

pub spent-paid : {A B : Type 0} (price : Price) (files : Files) (worth : A → ℕ) (r : Run A) (next : A → Act B) → ((a : A) → Costs price files (worth a) (next a))
    → cost_of_run price files (follow r next) ≤ cost_of_run price files r + paid worth r
spent-paid price files worth (ran (Done a) w ms) next p = omega (arith, spent-after price files ms (next a w), (p a).within w)
spent-paid price files worth (ran (Faulted f) w ms) next p = omega arith
