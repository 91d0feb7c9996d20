-- The call does with what stands for its target as it does with the target.
use Rattle.std.proofs.Common.{◌≡◌, ℕ, Bool, List, [], Result, Ok, Err, refl, sym, ap, subst, ◌∙◌}
use Rattle.arguments.specs.Arguments.{ArgumentsData}
use Rattle.arguments.specs.Refused.{RefusedData}
use Rattle.arguments.specs.Said.{Said}
use Rattle.arguments.specs.Stops.{Says}
use Rattle.arguments.specs.declared.stop.CallStop.{CallStop}
use Rattle.arguments.specs.declared.stop.CallStop.TheVariants as call_stops
use Rattle.build.specs.Data.{TargetData}
use Rattle.build.specs.edge.Texts.{Text}
use Rattle.build.specs.project.Adding.{after_target, is_fit, target_answer}
use Rattle.build.specs.project.Refused.{RefusedData as ProjectRefusal}
use Rattle.build.specs.project.World.{WorldData}
use Rattle.world.specs.Answering.{Carries, State, seen_at}
use Rattle.world.specs.Declaring.{add_target, project_answer, project_declaration}
use Rattle.world.specs.Deed.{Deed, Files, give, perform, then}
use Rattle.world.specs.Fit.{deed_of_result}
use Rattle.world.specs.Gives.{Gives}
use Rattle.world.specs.Here.{HereData, here_of}
use Rattle.world.specs.Ruled.{obeyed_rule}
use Rattle.world.specs.Run.{Run, after, follow}
use Rattle.world.specs.Settling.{IsSettled}
use Rattle.world.specs.World.{World, with_facts, with_project}
use Rattle.world.specs.declared.stop.Stop.{Stop}
use Rattle.world.proofs.Answering.{carries_as, carries_give, carries_read, carries_then}
use Rattle.world.proofs.Settling.{carries_says_of}
use Rattle.target_calls.specs.BuildTargets.{NamedTargetData}
use Rattle.target_calls.specs.BuildTargetsView.{named_target_view}
use Rattle.target_calls.specs.CustomCalls.{said_custom}
use Rattle.target_calls.specs.CustomInstalls.{add_custom, all_noted, installed_names, way_of}
use Rattle.target_calls.specs.CustomTargets.{declared_by, declared_custom}
use Rattle.target_calls.specs.FitBreaches.{Breach, fit_breach}
use Rattle.target_calls.specs.LongCommands.{short_makers}
use Rattle.target_calls.specs.Targets.{required_fit}
use Rattle.target_calls.specs.declared.build_target.NamedTarget.{NamedTarget}
use Rattle.target_calls.proofs.AnsweredAlike.{Alike}
use Rattle.target_calls.proofs.StandingTargets.{NamedAlike, SaidAs, declared_alike}

-- ---- deeds that run alike

carries_performed : {A B : Type 0} {view : B → A} (d e : Deed A) {s s1 : State} {result : Result B Stop}
    → ((files : Files) → perform files d s.world ≡ perform files e s.world) → Carries view d s result s1 → Carries view e s result s1
carries_performed {view = view} d e {s = s} {s1 = s1} {result = result} same p = record {
  gives = λ files n h. subst (λ r. Gives view r result s1.world (seen_at s n) (seen_at s1 n)) (same files) (p.gives files n h);
  stays = p.stays;
  device = p.device;
  same = p.same;
}

fit_performed : (files : Files) (t u : TargetData) → Alike t u → (w : World) → perform files (required_fit u) w ≡ perform files (required_fit t) w
unfolding required_fit
fit_performed files t u alike w =
    let p = w.facts.project in
    let run : Bool → Breach → Run (Unit {0}) = λ b x. after [] (perform files (obeyed_rule b x.0 x.1) w) in
    ap (λ b. run b (fit_breach p u)) (alike.fit p) ∙ ap (λ x. run (is_fit p t) x) (alike.breach p)

target_performed : (files : Files) (t u : TargetData) → Alike t u → (w : World) → perform files (add_target u) w ≡ perform files (add_target t) w
unfolding add_target project_declaration
target_performed files t u alike w =
    let p = w.facts.project in
    let run : Result ℕ ProjectRefusal → WorldData → Run ℕ = λ r v. after [] (after [] (perform files (project_answer r) (with_facts w (with_project v w.facts)))) in
    ap (λ r. run r (after_target p u)) (alike.answer p) ∙ ap (λ v. run (target_answer p t) v) (alike.after p)

custom_performed : (files : Files) (a : ArgumentsData) (t u : TargetData) → Alike t u → (w : World) → perform files (add_custom a u) w ≡ perform files (add_custom a t) w
unfolding add_custom
custom_performed files a t u alike w =
    let run : Run ℕ → List Text → Run ℕ = λ r ns. after [] (follow r (λ n. perform files (then (all_noted (way_of w.facts a) ns) (λ _. give n)))) in
    ap (λ r. run r (installed_names u)) (target_performed files t u alike w) ∙ ap (λ ns. run (perform files (add_target t) w) ns) alike.names

pub carries_fit : {t u : TargetData} {B : Type 0} {view : B → Unit {0}} {s s1 : State} {result : Result B Stop} → Alike t u
    → Carries view (required_fit u) s result s1 → Carries view (required_fit t) s result s1
carries_fit {t = t} {u = u} {s = s} alike p = carries_performed (required_fit u) (required_fit t) (λ files. fit_performed files t u alike s.world) p

pub carries_custom : (a : ArgumentsData) {t u : TargetData} {B : Type 0} {view : B → ℕ} {s s1 : State} {result : Result B Stop} → Alike t u
    → Carries view (add_custom a u) s result s1 → Carries view (add_custom a t) s result s1
carries_custom a {t = t} {u = u} {s = s} alike p = carries_performed (add_custom a u) (add_custom a t) (λ files. custom_performed files a t u alike s.world) p

-- ---- what the call says

refused_same : (exact short : Said NamedTargetData) (r : RefusedData) → SaidAs NamedAlike exact short → short ≡ Err r → exact ≡ Err r
refused_same (Err e) (Err s) r same h = ap Err same ∙ h
refused_same (Ok d) (Err s) r same h = absurd same
refused_same (Err e) (Ok b) r same h = absurd same
refused_same (Ok d) (Ok b) r same h = absurd cc

-- the call was refused, or memory ran out
pub carries_unsaid : (a : ArgumentsData) {x : HereData} (answer : Result NamedTarget CallStop) {s : State} {e : Stop}
    → Says named_target_view (declared_by short_makers x a) answer → x ≡ here_of s.world.facts → IsSettled {B = NamedTarget} s.world answer (Err e)
    → Carries named_target_view (said_custom a) s (Err e) s
unfolding said_custom
carries_unsaid a (Ok named) said is p = absurd cc
carries_unsaid a {x = x} (Err (call_stops.Arguments refused)) said is p =
    carries_says_of {view = named_target_view} (λ h. declared_custom h a) here_of (Err (call_stops.Arguments refused))
    (refused_same (declared_custom x a) (declared_by short_makers x a) _ (declared_alike x a) said) is p
carries_unsaid a (Err (call_stops.Operation refusal)) said is p = absurd said
carries_unsaid a (Err call_stops.Memory) said is p =
    carries_says_of {view = named_target_view} (λ h. declared_custom h a) here_of (Err call_stops.Memory) tt is p

declares : (exact : Said NamedTargetData) (e : NamedTargetData) → SaidAs NamedAlike exact (Ok e) → {Goal : Type 0}
    → ((d : NamedTargetData) → exact ≡ Ok d → NamedAlike d e → Goal) → Goal
declares (Ok d) e alike rest = rest d refl alike
declares (Err r) e alike rest = absurd alike

view_in : (named : NamedTarget) → Result NamedTarget Stop → NamedTargetData
view_in named (Ok x) = named_target_view x
view_in named (Err e) = named_target_view named

-- the call declares something, for which what the code made stands
pub carries_declaring : {B D : Type 0} {view : D → B} (a : ArgumentsData) {x : HereData} (answer : Result NamedTarget CallStop) (named : NamedTarget) {s s1 : State}
    {result : Result D Stop} {next : NamedTargetData → Deed B} → Says named_target_view (declared_by short_makers x a) answer → x ≡ here_of s.world.facts
    → IsSettled s.world answer (Ok named) → ((d : NamedTargetData) → NamedAlike d (named_target_view named) → Carries view (next d) s result s1)
    → Carries view (then (said_custom a) next) s result s1
unfolding said_custom view_in
carries_declaring a (Err (call_stops.Arguments refused)) named said is p rest = absurd p
carries_declaring a (Err (call_stops.Operation refusal)) named said is p rest = absurd said
carries_declaring a (Err call_stops.Memory) named said is p rest = absurd cc
carries_declaring a {x = x} (Ok made) named {s = s} said is p rest =
    let same : Ok (named_target_view named) ≡ declared_by short_makers x a = ap (λ r. Ok (view_in named r)) p ∙ sym said in
    declares (declared_custom x a) (named_target_view named) (subst (SaidAs NamedAlike (declared_custom x a)) (sym same) (declared_alike x a))
    (λ d exact alike. carries_then {view = λ (n : NamedTarget). d} {x = named}
    (carries_read (carries_as (sym (ap deed_of_result (ap (λ h. declared_custom h a) (sym is) ∙ exact))) (carries_give refl))) (rest d alike))
