-- What holds of the options after all values, and after what some say of others.
use Rattle.std.proofs.Common.{◌≡◌, ℕ, Bool, true, false, List, [], ◌∷◌, ◌++◌, map, Option, Some, None, Ok, refl, sym, ap, ◌∙◌}
use Rattle.std.proofs.Common.{append_assoc}
use Rattle.std.specs.Prelude.{◌||◌, ◌&&◌, bytes_eq, codes, if◌then◌else◌}
use Rattle.std.specs.List.{list_all, fold, flat_map}
use Rattle.std.specs.Option.{option_and_then}
use Rattle.std.proofs.lemmas.List.{append-nil}
use Rattle.std.proofs.lemmas.List.Sums.{fold-append}
use Rattle.machine_file.specs.Files as machine
use Rattle.support.specs.Among.{is_among}
use Rattle.option_values.specs.declared.kind.FeatureState.{FeatureState}
use Rattle.option_values.specs.declared.kind.FeatureState.TheVariants as feature
use Rattle.option_values.specs.BuiltIns.{built_ins, built_in_kinds, built_in_kind, levels}
use Rattle.option_values.specs.Kinds as kind
use Rattle.option_values.specs.Values as value
use Rattle.options.specs.option_file.Declarations.{Declaration}
use Rattle.options.specs.option_file.Lookups.{is_new, are_new_after, are_new}
use Rattle.options.specs.Faults.{OptionFaultData}
use Rattle.options.specs.Defaults.{default_of}
use Rattle.options.specs.FillIns as filling
use Rattle.options.specs.FillIns.{build_types, type_among, with_type, by_buildtype, by_prefix, by_auto_features, decided_setting, decided_value}
use Rattle.options.specs.FillIns.{with_state, state_at, text_at, is_usr, filled_in}
use Rattle.options.specs.Laws.{fits, fits_known, has_fitting, all_fit, names_in, built_in_names, declared_names}
use Rattle.options.specs.Resolves.{State, after_verdict, unless_fault, next, verdicts, at_first, outcome_of, resolved_options}
use Rattle.option_values.specs.Settings.{Setting, settings_with, or_given, fill, built_in_settings}
use Rattle.options.specs.Verdicts.{Verdict, Sets, Warns, Refuses, Default, of_declaration, of_default, of_project_default, of_section}
use Rattle.options.specs.Verdicts.{of_words, kind_named}
use Rattle.options.proofs.Bools.{both, first, second}
use Rattle.options.proofs.Folds.{stays_at}
use Rattle.options.proofs.KnownKinds.{is_named, same_name, fitting_named, new_is_none}
use Rattle.options.proofs.VerdictFits.{verdict_fits, verdicts_fit, others_fit}

-- ---- each value is one of its option's type

put_here : (ds : List Declaration) (s t : Setting) (ts : List Setting) (b : Bool) → bytes_eq s.name t.name ≡ b → has_fitting ds s ≡ true
    → (has_fitting ds t && all_fit ds ts) ≡ true → all_fit ds (settings_with s ts) ≡ true
    → all_fit ds (if b then record t { value = s.value; given = s.given } ∷ ts else t ∷ settings_with s ts) ≡ true
put_here ds s t ts true e h all rest =
    both _ (all_fit ds ts) (ap (λ (n : List ℕ). fits_known (kind_named ds n) s.value) (sym (same_name s.name t.name e))
    ∙ h) (second (has_fitting ds t) _ all)
put_here ds s t ts false e h all rest = both (has_fitting ds t) _ (first (has_fitting ds t) _ all) rest

put_fits : (ds : List Declaration) (s : Setting) (ss : List Setting) → has_fitting ds s ≡ true → all_fit ds ss ≡ true
    → all_fit ds (settings_with s ss) ≡ true
put_fits ds s [] h all = both (has_fitting ds s) true h refl
put_fits ds s (t ∷ ts) h all = put_here ds s t ts (bytes_eq s.name t.name) refl h all (put_fits ds s ts h (second (has_fitting ds t) _ all))

next_fits : (ds : List Declaration) (s : State) (v : Verdict) (o : Option OptionFaultData) → verdict_fits ds v ≡ true
    → all_fit ds s.settings ≡ true
    → all_fit ds (unless_fault o s v).settings ≡ true
next_fits ds s v (Some fault) h all = all
next_fits ds s (Sets setting) None h all = put_fits ds setting s.settings h all
next_fits ds s (Warns name) None h all = all
next_fits ds s (Refuses fault) None h all = all

fold_fits : (ds : List Declaration) (s : State) (vs : List Verdict) → list_all (verdict_fits ds) vs ≡ true → all_fit ds s.settings ≡ true
    → all_fit ds (fold next s vs).settings ≡ true
unfolding next
fold_fits ds s [] h all = all
fold_fits ds s (v ∷ vs) h all =
    fold_fits ds (unless_fault s.fault s v) vs (second (verdict_fits ds v) _ h)
    (next_fits ds s v s.fault (first (verdict_fits ds v) _ h) all)

built_in_fit : (ds : List Declaration) → all_fit ds built_in_settings ≡ true
unfolding built_in_settings built_ins kind_named built_in_kind built_in_kinds
built_in_fit ds = refl

given_cases : (ds : List Declaration) (v : value.Value) (s : Setting) (b : Bool) → has_fitting ds s ≡ true
    → fits_known (kind_named ds s.name) v ≡ true
    → has_fitting ds (if b then s else record s { value = v }) ≡ true
given_cases ds v s true h f = h
given_cases ds v s false h f = f

fill_here : (ds : List Declaration) (name : List ℕ) (v : value.Value) (s : Setting) (ss : List Setting) (b : Bool)
    → bytes_eq name s.name ≡ b
    → fits_known (kind_named ds name) v ≡ true → (has_fitting ds s && all_fit ds ss) ≡ true → all_fit ds (fill name v ss) ≡ true
    → all_fit ds (if b then or_given v s ∷ ss else s ∷ fill name v ss) ≡ true
fill_here ds name v s ss true e f all rest =
    both (has_fitting ds (or_given v s)) (all_fit ds ss)
    (given_cases ds v s s.given (first (has_fitting ds s) _ all)
    (ap (λ (n : List ℕ). fits_known (kind_named ds n) v) (sym (same_name name s.name e)) ∙ f))
    (second (has_fitting ds s) _ all)
fill_here ds name v s ss false e f all rest = both (has_fitting ds s) _ (first (has_fitting ds s) _ all) rest

fill_fits : (ds : List Declaration) (name : List ℕ) (v : value.Value) (ss : List Setting) → fits_known (kind_named ds name) v ≡ true
    → all_fit ds ss ≡ true
    → all_fit ds (fill name v ss) ≡ true
fill_fits ds name v [] f all = refl
fill_fits ds name v (s ∷ ss) f all = fill_here ds name v s ss (bytes_eq name s.name) refl f all
    (fill_fits ds name v ss f (second (has_fitting ds s) _ all))

-- the optimization of each type of build is a level
maybe_level : Option filling.BuildType → Bool
maybe_level None = true
maybe_level (Some t) = is_among levels t.optimization

level_cases : (t : filling.BuildType) (o : Option filling.BuildType) (b : Bool) → is_among levels t.optimization ≡ true
    → maybe_level o ≡ true
    → maybe_level (if b then Some t else o) ≡ true
unfolding maybe_level
level_cases t o true e f = e
level_cases t o false e f = f

levels_among : (ts : List filling.BuildType) (name : List ℕ)
    → list_all (λ (t : filling.BuildType). is_among levels t.optimization) ts ≡ true
    → maybe_level (type_among ts name) ≡ true
unfolding maybe_level
levels_among [] name e = refl
levels_among (t ∷ ts) name e =
    level_cases t (type_among ts name) (bytes_eq name t.name) (first (is_among levels t.optimization) _ e)
    (levels_among ts name (second (is_among levels t.optimization) _ e))

all_levels : list_all (λ (t : filling.BuildType). is_among levels t.optimization) build_types ≡ true
unfolding build_types
all_levels = refl

level_of : (o : Option (List ℕ)) → maybe_level (option_and_then (type_among build_types) o) ≡ true
unfolding maybe_level
level_of None = refl
level_of (Some name) = levels_among build_types name all_levels

type_fits : (ds : List Declaration) (o : Option filling.BuildType) (ss : List Setting) → maybe_level o ≡ true → all_fit ds ss ≡ true
    → all_fit ds (with_type o ss) ≡ true
unfolding maybe_level kind_named built_in_kind built_in_kinds built_ins
type_fits ds None ss e all = all
type_fits ds (Some t) ss e all =
    fill_fits ds (codes "optimization") (value.Combo t.optimization) (fill (codes "debug") (value.Boolean t.debug) ss) e
    (fill_fits ds (codes "debug") (value.Boolean t.debug) ss refl all)

buildtype_fits : (ds : List Declaration) (ss : List Setting) → all_fit ds ss ≡ true → all_fit ds (by_buildtype ss) ≡ true
unfolding by_buildtype
buildtype_fits ds ss all =
    type_fits ds (option_and_then (type_among build_types) (text_at (codes "buildtype") ss)) ss (level_of (text_at (codes "buildtype") ss))
    all

prefix_cases : (ds : List Declaration) (ss : List Setting) (b : Bool) → all_fit ds ss ≡ true
    → all_fit ds (if b then fill (codes "sysconfdir") (value.Text (codes "/etc")) ss else ss) ≡ true
unfolding kind_named built_in_kind built_in_kinds built_ins
prefix_cases ds ss true all = fill_fits ds (codes "sysconfdir") (value.Text (codes "/etc")) ss refl all
prefix_cases ds ss false all = all

prefix_fits : (ds : List Declaration) (ss : List Setting) → all_fit ds ss ≡ true → all_fit ds (by_prefix ss) ≡ true
unfolding by_prefix
prefix_fits ds ss all = prefix_cases ds ss (is_usr (text_at (codes "prefix") ss)) all

auto_fits : (k : kind.Kind) (state : FeatureState) → fits k (value.Feature feature.Auto) ≡ true → fits k (value.Feature state) ≡ true
auto_fits kind.Feature state e = refl
auto_fits kind.Text state e = absurd cc
auto_fits kind.Boolean state e = absurd cc
auto_fits (kind.Combo choices) state e = absurd cc
auto_fits (kind.Integer least greatest) state e = absurd cc
auto_fits (kind.Array choices) state e = absurd cc
auto_fits kind.Words state e = absurd cc

auto_known : (o : Option kind.Kind) (state : FeatureState) → fits_known o (value.Feature feature.Auto) ≡ true
    → fits_known o (value.Feature state) ≡ true
auto_known None state e = absurd cc
auto_known (Some k) state e = auto_fits k state e

decided_known : (o : Option kind.Kind) (state : FeatureState) (v : value.Value) → fits_known o v ≡ true
    → fits_known o (decided_value state v) ≡ true
decided_known o state (value.Feature feature.Auto) e = auto_known o state e
decided_known o state (value.Feature feature.Enabled) e = e
decided_known o state (value.Feature feature.Disabled) e = e
decided_known o state (value.Text text) e = e
decided_known o state (value.Boolean boolean) e = e
decided_known o state (value.Combo choice) e = e
decided_known o state (value.Integer number) e = e
decided_known o state (value.Array items) e = e

decided_fit : (ds : List Declaration) (state : FeatureState) (ss : List Setting) → all_fit ds ss ≡ true
    → all_fit ds (map (decided_setting state) ss) ≡ true
decided_fit ds state [] all = refl
decided_fit ds state (s ∷ ss) all =
    both (has_fitting ds (decided_setting state s)) (all_fit ds (map (decided_setting state) ss))
    (decided_known (kind_named ds s.name) state s.value (first (has_fitting ds s) _ all))
    (decided_fit ds state ss (second (has_fitting ds s) _ all))

state_cases : (ds : List Declaration) (o : Option FeatureState) (ss : List Setting) → all_fit ds ss ≡ true
    → all_fit ds (with_state o ss) ≡ true
state_cases ds None ss all = all
state_cases ds (Some state) ss all = decided_fit ds state ss all

auto_features_fit : (ds : List Declaration) (ss : List Setting) → all_fit ds ss ≡ true → all_fit ds (by_auto_features ss) ≡ true
unfolding by_auto_features
auto_features_fit ds ss all = state_cases ds (state_at (codes "auto_features") ss) ss all

-- what there is in the end, where there is no fault
pub ended : (o : Option OptionFaultData) (before ss : List Setting) → outcome_of o before ≡ Ok ss → (o ≡ None) × (filled_in before ≡ ss)
ended None before ss e = (refl, cc)
ended (Some fault) before ss e = absurd cc

pub final_fit : (ds : List Declaration) (defaults : List Default) (sections : List machine.Section) (words : List (List ℕ))
    (ss : List Setting)
    → are_new ds ≡ true → (resolved_options ds defaults sections words).outcome ≡ Ok ss → all_fit ds ss ≡ true
unfolding resolved_options at_first
final_fit ds defaults sections words ss new e =
    let s = fold next at_first (verdicts ds defaults sections words) in
    ap (all_fit ds) (sym (ended s.fault s.settings ss e).1)
    ∙ auto_features_fit ds (by_prefix (by_buildtype s.settings)) (prefix_fits ds (by_buildtype s.settings) (buildtype_fits ds s.settings
    (fold_fits ds at_first (verdicts ds defaults sections words) (verdicts_fit ds defaults sections words new) (built_in_fit ds))))

-- ---- the names, in their order

put_there : (s t : Setting) (ts : List Setting) (b : Bool) → (b || is_named s.name (names_in ts)) ≡ true
    → (is_named s.name (names_in ts) ≡ true → names_in (settings_with s ts) ≡ names_in ts)
    → names_in (if b then record t { value = s.value; given = s.given } ∷ ts else t ∷ settings_with s ts) ≡ t.name ∷ names_in ts
put_there s t ts true e rest = refl
put_there s t ts false e rest = ap (λ (ns : List (List ℕ)). t.name ∷ ns) (rest e)

put_known : (s : Setting) (ss : List Setting) → is_named s.name (names_in ss) ≡ true → names_in (settings_with s ss) ≡ names_in ss
put_known s [] e = absurd cc
put_known s (t ∷ ts) e = put_there s t ts (bytes_eq s.name t.name) e (put_known s ts)

put_behind : (s t : Setting) (ts : List Setting) (b : Bool) → (b || is_named s.name (names_in ts)) ≡ false
    → (is_named s.name (names_in ts) ≡ false → names_in (settings_with s ts) ≡ names_in ts ++ s.name ∷ [])
    → names_in (if b then record t { value = s.value; given = s.given } ∷ ts else t ∷ settings_with s ts) ≡ t.name ∷ (names_in ts ++ s.name ∷ [])
put_behind s t ts true e rest = absurd cc
put_behind s t ts false e rest = ap (λ (ns : List (List ℕ)). t.name ∷ ns) (rest e)

put_new : (s : Setting) (ss : List Setting) → is_named s.name (names_in ss) ≡ false → names_in (settings_with s ss) ≡ names_in ss ++ s.name ∷ []
put_new s [] e = refl
put_new s (t ∷ ts) e = put_behind s t ts (bytes_eq s.name t.name) e (put_new s ts)

-- a fault stays
pub no_fault : (s : State) (vs : List Verdict) (o : Option OptionFaultData) → s.fault ≡ o → (fold next s vs).fault ≡ None → o ≡ None
no_fault s vs None e h = refl
no_fault s vs (Some fault) e h = absurd (let same : (fold next s vs).fault
    ≡ Some fault = ap (λ (t : State). t.fault) (stays_at fault s vs e) ∙ e in cc)

declared_here : (before ds : List Declaration) (d : Declaration) (s : State) (o : Option value.Value) → is_new d.name before ≡ true
    → names_in s.settings ≡ built_in_names ++ declared_names before
    → (fold next (after_verdict s (of_default d o)) (map of_declaration ds)).fault ≡ None
    → names_in (after_verdict s (of_default d o)).settings ≡ built_in_names ++ declared_names (before ++ d ∷ [])
declared_here before ds d s None new names h =
    absurd (let none = no_fault (after_verdict s (of_default d None)) (map of_declaration ds) _ refl h in cc)
declared_here before ds d s (Some v) new names h =
    put_new (record { name = d.name; value = v; given = false }) s.settings (ap (is_named d.name) names ∙ new_is_none d.name before new)
    ∙ ap (λ (ns : List (List ℕ)). ns ++ d.name ∷ []) names
    ∙ append_assoc built_in_names (declared_names before) (d.name ∷ [])
    ∙ ap (λ (ns : List (List ℕ)). built_in_names ++ ns) (sym (map_more before d))
  where
    map_more : (before : List Declaration) (d : Declaration) → declared_names (before ++ d ∷ []) ≡ declared_names before ++ d.name ∷ []
    map_more [] d = refl
    map_more (b ∷ before) d = ap (λ (ns : List (List ℕ)). b.name ∷ ns) (map_more before d)

after_declarations : (before ds : List Declaration) (s : State) → are_new_after before ds ≡ true
    → names_in s.settings ≡ built_in_names ++ declared_names before
    → (fold next s (map of_declaration ds)).fault ≡ None
    → names_in (fold next s (map of_declaration ds)).settings ≡ built_in_names ++ declared_names (before ++ ds)
unfolding next of_declaration
after_declarations before [] s new names h = names
    ∙ ap (λ (xs : List Declaration). built_in_names ++ declared_names xs) (sym (append-nil before))
after_declarations before (d ∷ ds) s new names h =
    let here = no_fault s (map of_declaration (d ∷ ds)) s.fault refl h in
    let one : unless_fault s.fault s (of_default d (default_of d)) ≡ after_verdict s (of_default d (default_of d)) =
    ap (λ (o : Option OptionFaultData). unless_fault o s (of_default d (default_of d))) here in
    let t = after_verdict s (of_default d (default_of d)) in
    let ended_well : (fold next t (map of_declaration ds)).fault
    ≡ None = sym (ap (λ (x : State). (fold next x (map of_declaration ds)).fault) one) ∙ h in
    ap (λ (x : State). names_in (fold next x (map of_declaration ds)).settings) one
    ∙ after_declarations (before ++ d ∷ []) ds t (second (is_new d.name before) _ new)
    (declared_here before ds d s (default_of d) (first (is_new d.name before) _ new) names ended_well) ended_well
    ∙ ap (λ (xs : List Declaration). built_in_names ++ declared_names xs) (append_assoc before (d ∷ []) ds)

next_named : (ds : List Declaration) (s : State) (v : Verdict) (o : Option OptionFaultData) → verdict_fits ds v ≡ true
    → names_in s.settings ≡ built_in_names ++ declared_names ds
    → names_in (unless_fault o s v).settings ≡ built_in_names ++ declared_names ds
next_named ds s v (Some fault) h names = names
next_named ds s (Sets setting) None h names =
    put_known setting s.settings (ap (is_named setting.name) names ∙ fitting_named ds setting.name setting.value h) ∙ names
next_named ds s (Warns name) None h names = names
next_named ds s (Refuses fault) None h names = names

others_named : (ds : List Declaration) (s : State) (vs : List Verdict) → list_all (verdict_fits ds) vs ≡ true
    → names_in s.settings ≡ built_in_names ++ declared_names ds → names_in (fold next s vs).settings ≡ built_in_names ++ declared_names ds
unfolding next
others_named ds s [] h names = names
others_named ds s (v ∷ vs) h names =
    others_named ds (unless_fault s.fault s v) vs (second (verdict_fits ds v) _ h)
    (next_named ds s v s.fault (first (verdict_fits ds v) _ h) names)

pub given_name : (v : value.Value) (s : Setting) (b : Bool) → (if b then s else record s { value = v }).name ≡ s.name
given_name v s true = refl
given_name v s false = refl

fill_named : (name : List ℕ) (v : value.Value) (ss : List Setting) → names_in (fill name v ss) ≡ names_in ss
fill_named name v [] = refl
fill_named name v (s ∷ ss) = step (bytes_eq name s.name) (fill_named name v ss)
  where
    step : (b : Bool) → names_in (fill name v ss) ≡ names_in ss
        → names_in (if b then or_given v s ∷ ss else s ∷ fill name v ss) ≡ s.name ∷ names_in ss
    step true rest = ap (λ (n : List ℕ). n ∷ names_in ss) (given_name v s s.given)
    step false rest = ap (λ (ns : List (List ℕ)). s.name ∷ ns) rest

decided_named : (state : FeatureState) (ss : List Setting) → names_in (map (decided_setting state) ss) ≡ names_in ss
decided_named state [] = refl
decided_named state (s ∷ ss) = ap (λ (ns : List (List ℕ)). s.name ∷ ns) (decided_named state ss)

type_named : (o : Option filling.BuildType) (ss : List Setting) → names_in (with_type o ss) ≡ names_in ss
type_named None ss = refl
type_named (Some t) ss = fill_named (codes "optimization") _ (fill (codes "debug") (value.Boolean t.debug) ss)
    ∙ fill_named (codes "debug") _ ss

prefix_named : (b : Bool) (ss : List Setting) → names_in (if b then fill (codes "sysconfdir") (value.Text (codes "/etc")) ss else ss)
    ≡ names_in ss
prefix_named true ss = fill_named (codes "sysconfdir") _ ss
prefix_named false ss = refl

state_named : (o : Option FeatureState) (ss : List Setting) → names_in (with_state o ss) ≡ names_in ss
state_named None ss = refl
state_named (Some state) ss = decided_named state ss

filled_named : (ss : List Setting) → names_in (filled_in ss) ≡ names_in ss
unfolding by_buildtype by_prefix by_auto_features
filled_named ss =
    state_named (state_at (codes "auto_features") (by_prefix (by_buildtype ss))) (by_prefix (by_buildtype ss))
    ∙ prefix_named (is_usr (text_at (codes "prefix") (by_buildtype ss))) (by_buildtype ss)
    ∙ type_named (option_and_then (type_among build_types) (text_at (codes "buildtype") ss)) ss

first_named : names_in built_in_settings ≡ built_in_names ++ declared_names []
unfolding built_in_settings built_ins
first_named = refl

pub final_names : (ds : List Declaration) (defaults : List Default) (sections : List machine.Section) (words : List (List ℕ))
    (ss : List Setting)
    → are_new ds ≡ true → (resolved_options ds defaults sections words).outcome ≡ Ok ss → names_in ss ≡ built_in_names ++ declared_names ds
unfolding resolved_options at_first
final_names ds defaults sections words ss new e =
    let ls = map of_declaration ds in
    let others = map (of_project_default ds) defaults ++ (flat_map (of_section ds) sections ++ of_words ds 1 words) in
    let s = fold next at_first (verdicts ds defaults sections words) in
    let parts : s ≡ fold next (fold next at_first ls) others = fold-append next at_first ls others in
    let well : (fold next (fold next at_first ls) others).fault ≡ None = sym (ap (λ (t : State). t.fault) parts)
    ∙ (ended s.fault s.settings ss e).0 in
    ap names_in (sym (ended s.fault s.settings ss e).1) ∙ filled_named s.settings
    ∙ ap (λ (t : State). names_in t.settings) parts
    ∙ others_named ds (fold next at_first ls) others (others_fit ds defaults sections words new)
    (after_declarations [] ds at_first new first_named (no_fault (fold next at_first ls) others (fold next at_first ls).fault refl well))
