-- The relation of what lines say, and the function that reads them.
use Rattle.std.proofs.Common.{◌≡◌, ℕ, suc, Bool, true, false, List, [], ◌∷◌, ◌++◌, Option, Some, None, Result, Ok, Err, refl, sym, ap, ◌∙◌}
use Rattle.std.proofs.Common.{subst, if◌then◌else◌}
use Rattle.std.specs.Prelude.{◌&&◌, not}
use Rattle.std.specs.Result.{result_map_both}
use Rattle.machine_file.specs.declared.section.SectionKind.{SectionKind}
use Rattle.machine_file.specs.Fault.{MachineFaultData}
use Rattle.machine_file.specs.Files.{Entry, Section, Open, Said, nothing_said, sections_said, has_key, has_name, cut_pair, takes}
use Rattle.machine_file.specs.Files.{with_value, with_parts, with_pair, with_entries, with_section, in_section, after_form, after}
use Rattle.machine_file.specs.Files.{continue_with}
use Rattle.machine_file.specs.Files.{said_from, machine_of}
use Rattle.machine_file.specs.Lines.{Form, Nothing, Header, Pair, form_of}
use Rattle.machine_file.specs.Reads.{with_begun, with_given, Says, end, nothing, section, pair, AreSections}
use Rattle.machine_file.specs.Misfits.{refused_misfit, SectionTwice, misfit_of}
use Rattle.machine_file.specs.Sections.{kind_of, knows}
use Rattle.machine_file.specs.Texts.{Parts}
use Rattle.machine_file.specs.Values.{Value, value_of}

abbrev Line : Type 0
Line = Result Said (List ℕ)

abbrev saying : Said → Line
saying s = Ok s

same_said : (s t : Said) → saying s ≡ saying t → s ≡ t
same_said s t e = cc

no_said : (detail : List ℕ) (t : Said) {A : Type 0} → Err detail ≡ saying t → A
no_said detail t e = absurd cc

-- ---- a line that is taken is one of the forms

header_known : (s t u : Said) (n : ℕ) (l : List ℕ) (ls : List (List ℕ)) (name : List ℕ) (kind : SectionKind) (b : Bool)
    → form_of l ≡ Header name → kind_of name ≡ Some kind
    → has_name name (sections_said s) ≡ b
    → (if b then refused_misfit (SectionTwice name) else saying (with_begun s (suc n) name kind)) ≡ saying t → Says t (suc n) ls u
    → Says s n (l ∷ ls) u
header_known s t u n l ls name kind true f k b e later = no_said _ t e
header_known s t u n l ls name kind false f k b e later =
    section s u n l ls name kind f k b (subst (λ (w : Said). Says w (suc n) ls u) (sym (same_said (with_begun s (suc n) name kind) t e))
    later)

header_taken : (s t u : Said) (n : ℕ) (l : List ℕ) (ls : List (List ℕ)) (name : List ℕ) (k : Option SectionKind) → form_of l ≡ Header name
    → kind_of name ≡ k
    → with_section s (suc n) name k ≡ saying t → Says t (suc n) ls u → Says s n (l ∷ ls) u
header_taken s t u n l ls name None f k e later = no_said _ t e
header_taken s t u n l ls name (Some kind) f k e later = header_known s t u n l ls name kind (has_name name (sections_said s)) f k refl e
    later

both : (a b : Bool) → (a && not b) ≡ true → (a ≡ true) × (b ≡ false)
both true true e = absurd cc
both true false e = (refl, refl)
both false b e = absurd cc

abbrev now : Said → Open → Result (List Entry) (List ℕ) → Line
now s o r = result_map_both (with_entries s o) (λ d. d) r

abbrev kept : SectionKind → List Entry → ℕ → List ℕ → List ℕ → Value → Bool → Result (List Entry) (List ℕ)
kept kind entries line name key v b =
    if b then Ok (entries ++ record { key = key; value = v; line = line } ∷ []) else refused_misfit (misfit_of name kind key v)

pair_known : (s t u : Said) (n : ℕ) (l : List ℕ) (ls : List (List ℕ)) (text : List ℕ) (o : Open) (key value : List ℕ) (v : Value) (b : Bool)
    → form_of l ≡ Pair text → s.open_section ≡ Some o
    → cut_pair o.kind text ≡ Some (key, value) → value_of value ≡ Some v → takes o.kind o.entries key v ≡ b
    → now s o (kept o.kind o.entries (suc n) o.name key v b) ≡ saying t
    → Says t (suc n) ls u → Says s n (l ∷ ls) u
pair_known s t u n l ls text o key value v false f h c w b e later = no_said _ t e
pair_known s t u n l ls text o key value v true f h c w b e later =
    let two = both (knows o.kind key v) (has_key key o.entries) b in
    pair s u n l ls text o key value v f h c w two.0 two.1 (subst (λ (x : Said). Says x (suc n) ls u)
    (sym (same_said (with_given s (suc n) o key v) t e)) later)

pair_valued : (s t u : Said) (n : ℕ) (l : List ℕ) (ls : List (List ℕ)) (text : List ℕ) (o : Open) (key value : List ℕ) (v : Option Value)
    → form_of l ≡ Pair text → s.open_section ≡ Some o
    → cut_pair o.kind text ≡ Some (key, value) → value_of value ≡ v
    → now s o (with_value o.name o.kind o.entries (suc n) key v) ≡ saying t → Says t (suc n) ls u → Says s n (l ∷ ls) u
pair_valued s t u n l ls text o key value None f h c w e later = no_said _ t e
pair_valued s t u n l ls text o key value (Some v) f h c w e later = pair_known s t u n l ls text o key value v
    (takes o.kind o.entries key v) f h c w refl e later

pair_cut : (s t u : Said) (n : ℕ) (l : List ℕ) (ls : List (List ℕ)) (text : List ℕ) (o : Open) (parts : Option Parts)
    → form_of l ≡ Pair text → s.open_section ≡ Some o
    → cut_pair o.kind text ≡ parts → now s o (with_parts o.name o.kind o.entries (suc n) parts) ≡ saying t → Says t (suc n) ls u
    → Says s n (l ∷ ls) u
pair_cut s t u n l ls text o None f h c e later = no_said _ t e
pair_cut s t u n l ls text o (Some (key, value)) f h c e later = pair_valued s t u n l ls text o key value (value_of value) f h c refl e
    later

pair_taken : (s t u : Said) (n : ℕ) (l : List ℕ) (ls : List (List ℕ)) (text : List ℕ) (o : Option Open) → form_of l ≡ Pair text
    → s.open_section ≡ o
    → in_section s (suc n) text o ≡ saying t → Says t (suc n) ls u → Says s n (l ∷ ls) u
unfolding with_pair
pair_taken s t u n l ls text None f h e later = no_said _ t e
pair_taken s t u n l ls text (Some o) f h e later = pair_cut s t u n l ls text o (cut_pair o.kind text) f h refl e later

form_taken : (s t u : Said) (n : ℕ) (l : List ℕ) (ls : List (List ℕ)) (f : Form) → form_of l ≡ f → after_form s (suc n) f ≡ saying t
    → Says t (suc n) ls u → Says s n (l ∷ ls) u
form_taken s t u n l ls Nothing f e later = nothing s u n l ls f (subst (λ (w : Said). Says w (suc n) ls u) (sym (same_said s t e)) later)
form_taken s t u n l ls (Header name) f e later = header_taken s t u n l ls name (kind_of name) f refl e later
form_taken s t u n l ls (Pair text) f e later = pair_taken s t u n l ls text s.open_section f refl e later

line_sound : (s t u : Said) (n : ℕ) (l : List ℕ) (ls : List (List ℕ)) → after s (suc n) l ≡ saying t → Says t (suc n) ls u
    → Says s n (l ∷ ls) u
unfolding after
line_sound s t u n l ls e later = form_taken s t u n l ls (form_of l) refl e later

abbrev done : Said → Result Said MachineFaultData
done s = Ok s

ok_same : (s t : Said) → done s ≡ done t → s ≡ t
ok_same s t e = cc

sound_by : (l : List ℕ) (ls : List (List ℕ)) (n : ℕ) (s u : Said) (o : Line) → after s (suc n) l ≡ o
    → continue_with (said_from ls (suc n)) (suc n) o ≡ done u
    → ((t : Said) → said_from ls (suc n) t ≡ done u → Says t (suc n) ls u) → Says s n (l ∷ ls) u
sound_by l ls n s u (Err detail) e h later = absurd cc
sound_by l ls n s u (Ok t) e h later = line_sound s t u n l ls e (later t h)

-- what the function reads, the lines say
pub said_sound : (ls : List (List ℕ)) (n : ℕ) (s u : Said) → said_from ls n s ≡ Ok u → Says s n ls u
unfolding said_from
said_sound [] n s u h = subst (Says s n []) (ok_same s u h) (end s n)
said_sound (l ∷ ls) n s u h = sound_by l ls n s u (after s (suc n) l) refl h (λ t e. said_sound ls (suc n) t u e)

-- ---- what the lines say, the function reads

step : (s t u : Said) (n : ℕ) (l : List ℕ) (ls : List (List ℕ)) → after s (suc n) l ≡ saying t → said_from ls (suc n) t ≡ Ok u
    → said_from (l ∷ ls) n s ≡ Ok u
unfolding said_from
step s t u n l ls e h = ap (continue_with (said_from ls (suc n)) (suc n)) e ∙ h

after_nothing : (s : Said) (n : ℕ) (l : List ℕ) → form_of l ≡ Nothing → after s (suc n) l ≡ saying s
unfolding after
after_nothing s n l f = ap (after_form s (suc n)) f

after_section : (s : Said) (n : ℕ) (l name : List ℕ) (kind : SectionKind) → form_of l ≡ Header name → kind_of name ≡ Some kind
    → has_name name (sections_said s) ≡ false
    → after s (suc n) l ≡ saying (with_begun s (suc n) name kind)
unfolding after
after_section s n l name kind f k h =
    ap (after_form s (suc n)) f ∙ ap (with_section s (suc n) name) k
    ∙ ap (λ (b : Bool). if b then refused_misfit (SectionTwice name) else saying (with_begun s (suc n) name kind)) h

after_pair : (s : Said) (n : ℕ) (l text : List ℕ) (o : Open) (key value : List ℕ) (v : Value) → form_of l ≡ Pair text
    → s.open_section ≡ Some o → cut_pair o.kind text ≡ Some (key, value)
    → value_of value ≡ Some v → knows o.kind key v ≡ true → has_key key o.entries ≡ false
    → after s (suc n) l ≡ saying (with_given s (suc n) o key v)
unfolding after with_pair
after_pair s n l text o key value v f h c w k fresh =
    ap (after_form s (suc n)) f ∙ ap (in_section s (suc n) text) h
    ∙ ap (λ (p : Option Parts). now s o (with_parts o.name o.kind o.entries (suc n) p)) c
    ∙ ap (λ (x : Option Value). now s o (with_value o.name o.kind o.entries (suc n) key x)) w
    ∙ ap (λ (b : Bool). now s o (kept o.kind o.entries (suc n) o.name key v (b && not (has_key key o.entries)))) k
    ∙ ap (λ (b : Bool). now s o (kept o.kind o.entries (suc n) o.name key v (not b))) fresh

pub said_complete : (ls : List (List ℕ)) (n : ℕ) (s u : Said) → Says s n ls u → said_from ls n s ≡ Ok u
unfolding said_from
said_complete _ _ _ _ (end s n) = refl
said_complete _ _ _ _ (nothing s t n l ls f later) = step s s t n l ls (after_nothing s n l f) (said_complete ls (suc n) s t later)
said_complete _ _ _ _ (section s t n l ls name kind f k h later) =
    step s (with_begun s (suc n) name kind) t n l ls (after_section s n l name kind f k h)
    (said_complete ls (suc n) (with_begun s (suc n) name kind) t later)
said_complete _ _ _ _ (pair s t n l ls text o key value v f h c w k fresh later) =
    step s (with_given s (suc n) o key v) t n l ls (after_pair s n l text o key value v f h c w k fresh)
    (said_complete ls (suc n) (with_given s (suc n) o key v) t later)

abbrev listed : List Section → Result (List Section) MachineFaultData
listed sections = Ok sections

said_by_all : (r : Result Said MachineFaultData) (sections : List Section) → result_map_both sections_said (λ f. f) r ≡ listed sections
    → (t : Said) × (r ≡ Ok t) × (sections ≡ sections_said t)
said_by_all (Ok t) sections e = (t, refl, (let w : sections_said t ≡ sections = cc in sym w))
said_by_all (Err fault) sections e = absurd cc

pub machine_sound : (ls : List (List ℕ)) (sections : List Section) → machine_of ls ≡ Ok sections → AreSections ls sections
unfolding machine_of
machine_sound ls sections e =
    let (t, h, all) = said_by_all (said_from ls 0 nothing_said) sections e in
    record { said = t; reads = said_sound ls 0 nothing_said t h; all = all }

-- the lines are a machine file with these sections only
pub machine_complete : (ls : List (List ℕ)) (sections : List Section) → AreSections ls sections → machine_of ls ≡ Ok sections
unfolding machine_of
machine_complete ls sections w =
    ap (result_map_both sections_said (λ (f : MachineFaultData). f)) (said_complete ls 0 nothing_said w.said w.reads)
    ∙ ap listed (sym w.all)
