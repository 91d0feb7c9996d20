-- The last place that gives an option a value decides.
use Rattle.std.proofs.Common.{◌≡◌, ℕ, Bool, true, false, List, [], ◌∷◌, map, Option, Some, None, Ok, refl, sym, ap, ◌∙◌}
use Rattle.std.specs.Prelude.{bytes_eq, codes, if◌then◌else◌}
use Rattle.std.specs.List.{fold}
use Rattle.std.specs.Option.{option_map, option_and_then}
use Rattle.machine_file.specs.Files as machine
use Rattle.option_values.specs.declared.kind.FeatureState.{FeatureState}
use Rattle.option_values.specs.Values as value
use Rattle.options.specs.option_file.Declarations.{Declaration}
use Rattle.options.specs.Faults.{OptionFaultData}
use Rattle.options.specs.FillIns as filling
use Rattle.options.specs.FillIns.{build_types, type_among, with_type, by_buildtype, by_prefix, by_auto_features, decided_setting, decided_value}
use Rattle.options.specs.FillIns.{with_state, state_at, text_at, is_usr, is_auto, filled_in}
use Rattle.options.specs.Laws.{set_by, or_later, last_setting}
use Rattle.options.specs.Resolves.{State, after_verdict, unless_fault, next, verdicts, at_first, resolved_options}
use Rattle.option_values.specs.Settings.{value_named, Setting, settings_with, setting_named, or_given, fill}
use Rattle.options.specs.Verdicts.{Verdict, Sets, Warns, Refuses, Default}
use Rattle.options.proofs.Decided.{stays_decided}
use Rattle.options.proofs.FinalValues.{ended, no_fault, given_name}
use Rattle.options.proofs.KnownKinds.{same_name, is_itself}

-- what an option holds: its value, and whether a place gave it
abbrev pub Held : Type 0
Held = value.Value × Bool

abbrev pub of_setting : Setting → Held
of_setting s = (s.value, s.given)

abbrev pub held : List Setting → List ℕ → Option Held
held ss name = option_map of_setting (setting_named ss name)

-- ---- a value that is put is held

put_other : (name : List ℕ) (s t : Setting) (ts : List Setting) (a b c : Bool) → bytes_eq s.name t.name ≡ a → bytes_eq name t.name ≡ b
    → bytes_eq name s.name ≡ c
    → held (settings_with s ts) name ≡ (if c then Some (of_setting s) else held ts name)
    → held (if a then record t { value = s.value; given = s.given } ∷ ts else t ∷ settings_with s ts) name
    ≡ (if c then Some (of_setting s) else (if b then Some (of_setting t) else held ts name))
put_other name s t ts true true true e f g rest = ap (λ (x : Bool). option_map of_setting
    (if x then Some (record t { value = s.value; given = s.given }) else setting_named ts name)) f
put_other name s t ts true true false e f g rest =
    let same : s.name ≡ name = same_name s.name t.name e ∙ sym (same_name name t.name f) in
    absurd (let yes : bytes_eq name s.name ≡ true = ap (bytes_eq name) same ∙ is_itself name in cc)
put_other name s t ts true false true e f g rest =
    let same : name ≡ t.name = same_name name s.name g ∙ same_name s.name t.name e in
    absurd (let yes : bytes_eq name t.name ≡ true = ap (bytes_eq name) (sym same) ∙ is_itself name in cc)
put_other name s t ts true false false e f g rest = ap (λ (x : Bool). option_map of_setting
    (if x then Some (record t { value = s.value; given = s.given }) else setting_named ts name)) f
put_other name s t ts false true true e f g rest =
    let same : s.name ≡ t.name = sym (same_name name s.name g) ∙ same_name name t.name f in
    absurd (let yes : bytes_eq s.name t.name ≡ true = ap (bytes_eq s.name) (sym same) ∙ is_itself s.name in cc)
put_other name s t ts false true false e f g rest = ap (λ (x : Bool). option_map of_setting
    (if x then Some t else setting_named (settings_with s ts) name)) f
put_other name s t ts false false true e f g rest = ap (λ (x : Bool). option_map of_setting
    (if x then Some t else setting_named (settings_with s ts) name)) f ∙ rest
put_other name s t ts false false false e f g rest = ap (λ (x : Bool). option_map of_setting
    (if x then Some t else setting_named (settings_with s ts) name)) f ∙ rest

if_moved : {A : Type 0} (b : Bool) (f : Setting → A) (x : Setting) (o : Option Setting)
    → option_map f (if b then Some x else o) ≡ (if b then Some (f x) else option_map f o)
if_moved true f x o = refl
if_moved false f x o = refl

pub put_held : (name : List ℕ) (s : Setting) (ss : List Setting)
    → held (settings_with s ss) name ≡ (if bytes_eq name s.name then Some (of_setting s) else held ss name)
put_held name s [] = if_moved (bytes_eq name s.name) of_setting s None
put_held name s (t ∷ ts) =
    put_other name s t ts (bytes_eq s.name t.name) (bytes_eq name t.name) (bytes_eq name s.name) refl refl refl (put_held name s ts)
    ∙ ap (λ (o : Option Held). if bytes_eq name s.name then Some (of_setting s) else o)
    (sym (if_moved (bytes_eq name t.name) of_setting t (setting_named ts name)))

-- ---- after all values the last one is held

abbrev pub or_before : Option Setting → Option Held → Option Held
or_before (Some s) h = Some (of_setting s)
or_before None h = h

if_set : (b : Bool) (s : Setting) (h : Option Held) → (if b then Some (of_setting s) else h) ≡ or_before (if b then Some s else None) h
if_set true s h = refl
if_set false s h = refl

one_held : (name : List ℕ) (s : State) (v : Verdict)
    → held (after_verdict s v).settings name ≡ or_before (set_by v name) (held s.settings name)
one_held name s (Sets setting) = put_held name setting s.settings ∙ if_set (bytes_eq name setting.name) setting (held s.settings name)
one_held name s (Warns other) = refl
one_held name s (Refuses fault) = refl

later_first : (later now : Option Setting) (h : Option Held) → or_before later (or_before now h) ≡ or_before (or_later later now) h
later_first (Some s) now h = refl
later_first None now h = refl

all_held : (name : List ℕ) (s : State) (vs : List Verdict) → (fold next s vs).fault ≡ None
    → held (fold next s vs).settings name ≡ or_before (last_setting vs name) (held s.settings name)
unfolding next
all_held name s [] h = refl
all_held name s (v ∷ vs) h =
    let here = no_fault s (v ∷ vs) s.fault refl h in
    let one : unless_fault s.fault s v ≡ after_verdict s v = ap (λ (o : Option OptionFaultData). unless_fault o s v) here in
    let well : (fold next (after_verdict s v) vs).fault ≡ None = sym (ap (λ (x : State). (fold next x vs).fault) one) ∙ h in
    ap (λ (x : State). held (fold next x vs).settings name) one
    ∙ all_held name (after_verdict s v) vs well
    ∙ ap (or_before (last_setting vs name)) (one_held name s v)
    ∙ later_first (last_setting vs name) (set_by v name) (held s.settings name)

-- ---- what some options say of others leaves what is given

keeps_given : (v w : value.Value) (s : Setting) → of_setting s ≡ (w, true) → of_setting (or_given v s) ≡ (w, true)
keeps_given v w s e = by s.given (ap (λ (h : Held). h.1) e) ∙ e
  where
    by : (b : Bool) → b ≡ true → of_setting (if b then s else record s { value = v }) ≡ of_setting s
    by true h = refl
    by false h = absurd cc

fill_step : (name other : List ℕ) (v w : value.Value) (s : Setting) (ss : List Setting) (a b : Bool) → bytes_eq name s.name ≡ b
    → (if b then Some (of_setting s) else held ss name) ≡ Some (w, true)
    → (held ss name ≡ Some (w, true) → held (fill other v ss) name ≡ Some (w, true))
    → held (if a then or_given v s ∷ ss else s ∷ fill other v ss) name ≡ Some (w, true)
fill_step name other v w s ss true true e h rest =
    let here : of_setting s ≡ (w, true) = cc in
    ap (λ (n : List ℕ). option_map of_setting (if bytes_eq name n then Some (or_given v s) else setting_named ss name))
    (given_name v s s.given)
    ∙ ap (λ (x : Bool). option_map of_setting (if x then Some (or_given v s) else setting_named ss name)) e
    ∙ ap (λ (x : Held). Some x) (keeps_given v w s here)
fill_step name other v w s ss true false e h rest =
    ap (λ (n : List ℕ). option_map of_setting (if bytes_eq name n then Some (or_given v s) else setting_named ss name))
    (given_name v s s.given)
    ∙ ap (λ (x : Bool). option_map of_setting (if x then Some (or_given v s) else setting_named ss name)) e ∙ h
fill_step name other v w s ss false true e h rest = ap (λ (x : Bool). option_map of_setting
    (if x then Some s else setting_named (fill other v ss) name)) e ∙ h
fill_step name other v w s ss false false e h rest =
    ap (λ (x : Bool). option_map of_setting (if x then Some s else setting_named (fill other v ss) name)) e ∙ rest h

fill_held : (name other : List ℕ) (v w : value.Value) (ss : List Setting) → held ss name ≡ Some (w, true)
    → held (fill other v ss) name ≡ Some (w, true)
fill_held name other v w [] h = h
fill_held name other v w (s ∷ ss) h =
    fill_step name other v w s ss (bytes_eq other s.name) (bytes_eq name s.name) refl
    (sym (if_moved (bytes_eq name s.name) of_setting s (setting_named ss name)) ∙ h) (fill_held name other v w ss)

type_held : (name : List ℕ) (w : value.Value) (o : Option filling.BuildType) (ss : List Setting) → held ss name ≡ Some (w, true)
    → held (with_type o ss) name ≡ Some (w, true)
type_held name w None ss h = h
type_held name w (Some t) ss h =
    fill_held name (codes "optimization") _ w (fill (codes "debug") (value.Boolean t.debug) ss) (fill_held name (codes "debug") _ w ss h)

prefix_held : (name : List ℕ) (w : value.Value) (b : Bool) (ss : List Setting) → held ss name ≡ Some (w, true)
    → held (if b then fill (codes "sysconfdir") (value.Text (codes "/etc")) ss else ss) name ≡ Some (w, true)
prefix_held name w true ss h = fill_held name (codes "sysconfdir") _ w ss h
prefix_held name w false ss h = h

-- the value that is shown, of one that is held
abbrev pub shown : Option Held → Option value.Value
shown h = option_map (λ (x : Held). x.0) h

decided_shown : (name : List ℕ) (state : FeatureState) (w : value.Value) (ss : List Setting) → is_auto w ≡ false
    → value_named ss name ≡ Some w
    → value_named (map (decided_setting state) ss) name ≡ Some w
decided_shown name state w [] a h = h
decided_shown name state w (s ∷ ss) a h = step (bytes_eq name s.name) h (decided_shown name state w ss a)
  where
    step : (b : Bool) → option_map (λ (x : Setting). x.value) (if b then Some s else setting_named ss name) ≡ Some w
        → (value_named ss name ≡ Some w → value_named (map (decided_setting state) ss) name ≡ Some w)
        → option_map (λ (x : Setting). x.value) (if b then Some (decided_setting state s) else setting_named (map (decided_setting state) ss) name) ≡ Some w
    step true e rest =
        let same : s.value ≡ w = cc in
        ap (λ (x : value.Value). Some (decided_value state x)) same ∙ ap (λ (x : value.Value). Some x) (stays_decided state w a)
    step false e rest = rest e

state_shown : (name : List ℕ) (o : Option FeatureState) (w : value.Value) (ss : List Setting) → is_auto w ≡ false
    → value_named ss name ≡ Some w
    → value_named (with_state o ss) name ≡ Some w
state_shown name None w ss a h = h
state_shown name (Some state) w ss a h = decided_shown name state w ss a h

held_shown : (o : Option Setting) → shown (option_map of_setting o) ≡ option_map (λ (x : Setting). x.value) o
held_shown None = refl
held_shown (Some s) = refl

filled_shown : (name : List ℕ) (w : value.Value) (ss : List Setting) → is_auto w ≡ false → held ss name ≡ Some (w, true)
    → value_named (filled_in ss) name ≡ Some w
unfolding by_buildtype by_prefix by_auto_features
filled_shown name w ss a h =
    let typed = by_buildtype ss in
    let prefixed = by_prefix typed in
    let is_held : held prefixed name ≡ Some (w, true) =
    prefix_held name w (is_usr (text_at (codes "prefix") typed)) typed
    (type_held name w (option_and_then (type_among build_types) (text_at (codes "buildtype") ss)) ss h) in
    state_shown name (state_at (codes "auto_features") prefixed) w prefixed a (sym (held_shown (setting_named prefixed name))
    ∙ ap shown is_held)

pub final_value : (ds : List Declaration) (defaults : List Default) (sections : List machine.Section) (words : List (List ℕ))
    (ss : List Setting)
    → (resolved_options ds defaults sections words).outcome ≡ Ok ss → (name : List ℕ) (s : Setting)
    → last_setting (verdicts ds defaults sections words) name ≡ Some s → s.given ≡ true → is_auto s.value ≡ false
    → value_named ss name ≡ Some s.value
unfolding resolved_options at_first
final_value ds defaults sections words ss e name s last given other =
    let t = fold next at_first (verdicts ds defaults sections words) in
    let is_held : held t.settings name ≡ Some (s.value, true) =
    all_held name at_first (verdicts ds defaults sections words) (ended t.fault t.settings ss e).0
    ∙ ap (λ (o : Option Setting). or_before o (held at_first.settings name)) last
    ∙ ap (λ (b : Bool). let h : Held = (s.value, b) in Some h) given in
    ap (λ (x : List Setting). value_named x name) (sym (ended t.fault t.settings ss e).1)
    ∙ filled_shown name s.value t.settings other is_held
