-- A variable that takes a value in the slot of its name's number.
use Rattle.std.proofs.Common.{◌≡◌, ℕ, suc, ◌+◌, ◌<◌, ◌≤◌, ◌≢◌, Bool, true, false, cond, List, [], ◌∷◌, ◌++◌, length, length-append, get_or}
use Rattle.std.proofs.Common.{get_or-set_same, get_or-set_other, set, Option, Some, None, option_map, bytes_eq, refl, sym, ap, ◌∙◌, arith}
use Rattle.std.specs.Prelude.{nat_lt, nat_eq, not, ◌||◌, is_some, if◌then◌else◌, option_and_then}
use Rattle.std.specs.List.{list_any, position_or_len}
use Rattle.std.proofs.lemmas.Bool.{false≢true}
use Rattle.std.proofs.lemmas.Bool.Decides.{nat_tests}
use Rattle.std.proofs.lemmas.List.Folds.{position_or_len_push}
use Rattle.std.proofs.lemmas.Slice.Eq.{bytes_eq-Decides}
use Rattle.code.specs.Names.{number_in, with_name}
use Rattle.code.proofs.NameLists.{begins_with_name, name_at}
use Rattle.values.specs.Data.{Data}
use Rattle.values.specs.View.{data_of}
use Rattle.values.specs.declared.value.Value.{Value}
use Rattle.world.specs.World.{World, variables_with, with_variable, with_variables}
use Rattle.world.specs.Store.{Kept, slot_value, kept_variables, world_of, world_after_change}
use Rattle.code.specs.Draft.{IsFront}
use Rattle.std.specs.List.{IsDistinct}
use Rattle.std.proofs.lemmas.List.{get_or_past}
use Rattle.std.proofs.Common.{append_assoc, append-nil, length-set, subst, max}
use Rattle.std.proofs.lemmas.Grind.{common_steps}
use Rattle.world.proofs.Numbers.{number_at}
use Rattle.std.specs.Prelude.{codes, Result, Ok, Err, OnOk}
use Rattle.machine_file.specs.Files.{Section}
use Rattle.build.specs.project.World.{WorldData, new_world}
use Rattle.world.specs.World.{facts_after_declaration}
use Rattle.world.specs.Settings.{SettingsData}
use Rattle.world.specs.Start.{first_world, facts_before_project}

by_test : (b d e : Bool) (n k : ℕ) → nat_eq n k ≡ b → nat_lt (cond b (k + 1) n) (k + 1) ≡ d → nat_lt n k ≡ e → n ≤ k → d ≡ e
by_test true true true n k h i j l = refl
by_test true true false n k h i j l = absurd (grind (arith, nat_tests))
by_test true false true n k h i j l = absurd (grind (arith, nat_tests))
by_test true false false n k h i j l = refl
by_test false true true n k h i j l = refl
by_test false true false n k h i j l = absurd (grind (arith, nat_tests))
by_test false false true n k h i j l = absurd (grind (arith, nat_tests))
by_test false false false n k h i j l = refl

same_place : (b e : Bool) (n k : ℕ) → nat_eq n k ≡ b → nat_lt n k ≡ e → n ≤ k → cond e (Some (cond b (k + 1) n)) None ≡ cond e (Some n) None
same_place true true n k h i l = absurd (grind (arith, nat_tests))
same_place true false n k h i l = refl
same_place false e n k h i l = refl

by_place : (n m k j : ℕ) (b : Bool) → b ≡ false → m ≡ cond (nat_eq n k) (k + cond b 0 1) n → j ≡ k + 1 → n ≤ k → cond (nat_lt m j) (Some m) None ≡ cond (nat_lt n k) (Some n) None
by_place n m k j b h at l le =
    let p : m ≡ cond (nat_eq n k) (k + 1) n = at ∙ ap (λ c. cond (nat_eq n k) (k + cond c 0 1) n) h in
    ap (λ x. cond (nat_lt x j) (Some x) None) p ∙ ap (λ y. cond (nat_lt (cond (nat_eq n k) (k + 1) n) y) (Some (cond (nat_eq n k) (k + 1) n)) None) l
    ∙ ap (λ d. cond d (Some (cond (nat_eq n k) (k + 1) n)) None) (by_test (nat_eq n k) (nat_lt (cond (nat_eq n k) (k + 1) n) (k + 1)) (nat_lt n k) n k refl refl refl le)
    ∙ same_place (nat_eq n k) (nat_lt n k) n k refl refl le

place_step : (b : Bool) (n k : ℕ) → n ≤ k → cond (not b) (1 + n) 0 ≤ suc k
place_step true n k l = omega arith
place_step false n k l = omega arith

place_within : {X : Type 0} (p : X → Bool) (xs : List X) → position_or_len p xs ≤ length xs
place_within p [] = omega arith
place_within p (x ∷ xs) = place_step (p x) (position_or_len p xs) (length xs) (place_within p xs)

-- a further name that is another has no number of this one
number_behind : (q name : List ℕ) (names : List (List ℕ)) → bytes_eq q name ≡ false → number_in q (names ++ name ∷ []) ≡ number_in q names
number_behind q name names h =
    by_place (position_or_len (bytes_eq q) names) (position_or_len (bytes_eq q) (names ++ name ∷ [])) (length names) (length (names ++ name ∷ [])) (bytes_eq q name) h
    (position_or_len_push (bytes_eq q) names name) (length-append names (name ∷ [])) (place_within (bytes_eq q) names)

number_kept : (b : Bool) (q name : List ℕ) (names : List (List ℕ)) → bytes_eq q name ≡ false → number_in q (if b then names else names ++ name ∷ []) ≡ number_in q names
number_kept true q name names h = refl
number_kept false q name names h = number_behind q name names h

turned_by : (b : Bool) (x y : List ℕ) → bytes_eq x y ≡ false → bytes_eq y x ≡ b → b ≡ false
turned_by true x y h e = absurd (false≢true (sym h ∙ (bytes_eq-Decides x y).1 (sym ((bytes_eq-Decides y x).0 e))))
turned_by false x y h e = refl

module _ (names new : List (List ℕ)) (slots room : List (Option Value)) (name : List ℕ) (n : ℕ) (v : Option Value) (put : new ≡ with_name name names) (number : number_in name new ≡ Some n)
    (same : (i : ℕ) → get_or room i None ≡ get_or slots i None) (within : n < length room) where
  -- another name has its slot
  slot_kept : (q : List ℕ) (o : Option ℕ) → bytes_eq q name ≡ false → number_in q new ≡ o → option_and_then (slot_value (set room n v)) o ≡ option_and_then (slot_value slots) o
  slot_kept q None h e = refl
  slot_kept q (Some j) h e =
      let p = name_at q new j e in
      let r = name_at name new n number in
      let other : j ≢ n = λ (s : j ≡ n). false≢true (sym h ∙ (bytes_eq-Decides q name).1 (sym p.1 ∙ ap (λ k. get_or new k []) s ∙ r.1)) in
      ap (option_map data_of) (rw get_or-set_other (same j))

  by_name : (b : Bool) (q : List ℕ) → bytes_eq name q ≡ b
      → option_and_then (slot_value (set room n v)) (number_in q new) ≡ (if b then option_map data_of v else option_and_then (slot_value slots) (number_in q names))
  by_name true q h =
      let e : name ≡ q = (bytes_eq-Decides name q).0 h in
      let at : number_in q new ≡ Some n = ap (λ x. number_in x new) (sym e) ∙ number in
      let s : get_or (set room n v) n None ≡ v = rw get_or-set_same refl in
      ap (option_and_then (slot_value (set room n v))) at ∙ ap (option_map data_of) s
  by_name false q h =
      let other : bytes_eq q name ≡ false = turned_by (bytes_eq q name) name q h refl in
      slot_kept q (number_in q new) other refl
      ∙ ap (option_and_then (slot_value slots)) (ap (number_in q) put ∙ number_kept (list_any (bytes_eq name) names) q name names other)

  pub variables_set : (q : List ℕ) → option_and_then (slot_value (set room n v)) (number_in q new) ≡ variables_with (λ p. option_and_then (slot_value slots) (number_in p names)) name (option_map data_of v) q
  variables_set q = by_name (bytes_eq name q) q refl

-- no more slots than names
room_fits : (l k m r n : ℕ) → r ≤ max l (n + 1) → l ≤ k → k ≤ m → n < m → r ≤ m
room_fits l k m r n a b c d = grind (arith, common_steps)

pub slots_fit : (names new : List (List ℕ)) (slots room : List (Option Value)) (name : List ℕ) (n : ℕ) (v : Option Value) → new ≡ with_name name names
    → number_in name new ≡ Some n → length room ≤ max (length slots) (n + 1) → length slots ≤ length names → length (set room n v) ≤ length new
slots_fit names new slots room name n v put number few fits =
    let front = begins_with_name name names in
    let longer : length names ≤ length new = subst (λ ns. length names ≤ length ns) (sym (put ∙ front.is)) (rw (length-append names front.more) (omega arith)) in
    let within = (name_at name new n number).0 in
    rw (length-set room n v) (room_fits (length slots) (length names) (length new) (length room) n few fits longer within)

-- the same where the name is there
pub slots_within : (names : List (List ℕ)) (slots room : List (Option Value)) (n : ℕ) (v : Option Value) → n < length names
    → length room ≤ max (length slots) (n + 1) → length slots ≤ length names → length (set room n v) ≤ length names
slots_within names slots room n v within few fits =
    rw (length-set room n v) (room_fits (length slots) (length names) (length names) (length room) n few fits (omega arith) within)

-- ---- a table of names that stays

any_at : (b : Bool) (n m : ℕ) (rest : Bool) → nat_lt n m ≡ rest → nat_lt (cond (not b) (1 + n) 0) (suc m) ≡ (b || rest)
any_at true n m rest e = grind (arith, nat_tests)
any_at false n m true e = grind (arith, nat_tests)
any_at false n m false e = grind (arith, nat_tests)

any_place : {X : Type 0} (p : X → Bool) (xs : List X) → nat_lt (position_or_len p xs) (length xs) ≡ list_any p xs
any_place p [] = refl
any_place p (x ∷ xs) = any_at (p x) (position_or_len p xs) (length xs) (list_any p xs) (any_place p xs)

is_some-cond : {X : Type 0} (b : Bool) (x : X) → is_some (cond b (Some x) None) ≡ b
is_some-cond true x = refl
is_some-cond false x = refl

-- a name is in the table where it has a number
pub is_named : (name : List ℕ) (names : List (List ℕ)) → is_some (number_in name names) ≡ list_any (bytes_eq name) names
is_named name names =
    is_some-cond (nat_lt (position_or_len (bytes_eq name) names) (length names)) (position_or_len (bytes_eq name) names) ∙ any_place (bytes_eq name) names

kept_name : (name : List ℕ) (names : List (List ℕ)) (n : ℕ) → number_in name names ≡ Some n → names ≡ with_name name names
kept_name name names n e = ap (λ b. if b then names else names ++ name ∷ []) (sym (sym (is_named name names) ∙ ap is_some e))

-- a slot whose number is a name's
pub variables_at : (names : List (List ℕ)) (slots room : List (Option Value)) (n : ℕ) (v : Option Value) → IsDistinct bytes_eq names → n < length names
    → ((i : ℕ) → get_or room i None ≡ get_or slots i None) → n < length room → (q : List ℕ)
    → kept_variables names (set room n v) q ≡ variables_with (kept_variables names slots) (get_or names n []) (option_map data_of v) q
variables_at names slots room n v distinct l same within q =
    let at = number_at names n distinct l in
    variables_set names names slots room (get_or names n []) n v (kept_name (get_or names n []) names n at) at same within q

-- the value of a variable is that of its slot
pub variable_at : (names : List (List ℕ)) (slots : List (Option Value)) (n : ℕ) → IsDistinct bytes_eq names → n < length names
    → kept_variables names slots (get_or names n []) ≡ slot_value slots n
variable_at names slots n distinct l = ap (option_and_then (slot_value slots)) (number_at names n distinct l)

-- a variable that has no value loses none
none_lost_by : (b : Bool) (name q : List ℕ) (f : List ℕ → Option Data) → bytes_eq name q ≡ b → f name ≡ None → f q ≡ (if b then None else f q)
none_lost_by true name q f e h = ap f (sym ((bytes_eq-Decides name q).0 e)) ∙ h
none_lost_by false name q f e h = refl

pub none_lost : (f : List ℕ → Option Data) (name q : List ℕ) → f name ≡ None → f q ≡ variables_with f name None q
none_lost f name q h = none_lost_by (bytes_eq name q) name q f refl h

-- ---- a table of names that grows

past : (slots : List (Option Value)) (n : ℕ) → length slots ≤ n → slot_value slots n ≡ None
past slots n h = ap (option_map data_of) (get_or_past slots n None h)

-- the number of a name, where one name more stands at the end
grown_place : (slots : List (Option Value)) (b d e : Bool) (n m k j : ℕ) → b ≡ nat_eq n k → m ≡ cond b (k + cond d 0 1) n → j ≡ k + 1 → n ≤ k → length slots ≤ k → nat_lt n k ≡ e
    → option_and_then (slot_value slots) (cond (nat_lt m j) (Some m) None) ≡ option_and_then (slot_value slots) (cond e (Some n) None)
grown_place slots true d true n m k j h at l le few less = absurd (grind (arith, nat_tests))
grown_place slots true true false n m k j h at l le few less =
    let p : m ≡ k = omega (arith, at) in
    let q : nat_lt m j ≡ true = grind (arith, nat_tests) in
    ap (λ c. option_and_then (slot_value slots) (cond c (Some m) None)) q ∙ past slots m (omega (arith, p, few))
grown_place slots true false false n m k j h at l le few less =
    let q : nat_lt m j ≡ false = grind (arith, nat_tests) in
    ap (λ c. option_and_then (slot_value slots) (cond c (Some m) None)) q
grown_place slots false d true n m k j h at l le few less =
    let q : nat_lt m j ≡ true = grind (arith, nat_tests) in
    ap (λ c. option_and_then (slot_value slots) (cond c (Some m) None)) q ∙ ap (slot_value slots) at
grown_place slots false d false n m k j h at l le few less = absurd (grind (arith, nat_tests))

one_name : (names : List (List ℕ)) (slots : List (Option Value)) (name q : List ℕ) → length slots ≤ length names → kept_variables (names ++ name ∷ []) slots q ≡ kept_variables names slots q
one_name names slots name q few =
    grown_place slots (nat_eq (position_or_len (bytes_eq q) names) (length names)) (bytes_eq q name) (nat_lt (position_or_len (bytes_eq q) names) (length names))
    (position_or_len (bytes_eq q) names) (position_or_len (bytes_eq q) (names ++ name ∷ [])) (length names) (length (names ++ name ∷ [])) refl
    (position_or_len_push (bytes_eq q) names name) (length-append names (name ∷ [])) (place_within (bytes_eq q) names) few refl

more_names : (names more : List (List ℕ)) (slots : List (Option Value)) (q : List ℕ) → length slots ≤ length names → kept_variables (names ++ more) slots q ≡ kept_variables names slots q
more_names names [] slots q few = ap (λ ns. kept_variables ns slots q) (append-nil names)
more_names names (name ∷ more) slots q few =
    ap (λ ns. kept_variables ns slots q) (sym (append_assoc names (name ∷ []) more))
    ∙ more_names (names ++ name ∷ []) more slots q (omega (arith, length-append names (name ∷ []), few)) ∙ one_name names slots name q few

-- further names have no value
pub variables_grown : {names new : List (List ℕ)} (slots : List (Option Value)) → IsFront names new → length slots ≤ length names → (q : List ℕ) → kept_variables new slots q ≡ kept_variables names slots q
variables_grown {names = names} slots front few q = ap (λ ns. kept_variables ns slots q) front.is ∙ more_names names front.more slots q few

-- ---- worlds

-- the same, with this table of names and these slots
abbrev pub with_slots : Kept → List (List ℕ) → List (Option Value) → Kept
with_slots k names slots = record k { names = names; slots = slots }

-- the same world with other variables
abbrev pub with_all : World → (List ℕ → Option Data) → World
with_all w variables = world_after_change (with_variables variables) w

all_same : (w : World) (f g : List ℕ → Option Data) → ((q : List ℕ) → f q ≡ g q) → with_all w f ≡ with_all w g
all_same w f g e = λ i. with_all w (λ q. e q i)

-- a variable takes a value or loses it
pub world_with : (k : Kept) (names : List (List ℕ)) (slots : List (Option Value)) (name : List ℕ) (v : Option Data)
    → ((q : List ℕ) → kept_variables names slots q ≡ variables_with (kept_variables k.names k.slots) name v q) → world_of (with_slots k names slots) ≡ world_after_change (with_variable name v) (world_of k)
world_with k names slots name v e = all_same (world_of k) (kept_variables names slots) (variables_with (kept_variables k.names k.slots) name v) e

-- the variables stay
pub world_as : (k : Kept) (names : List (List ℕ)) (slots : List (Option Value)) → ((q : List ℕ) → kept_variables names slots q ≡ kept_variables k.names k.slots q) → world_of (with_slots k names slots) ≡ world_of k
world_as k names slots e = all_same (world_of k) (kept_variables names slots) (kept_variables k.names k.slots) e

pub world_lost : (w : World) (name : List ℕ) → w.facts.variables name ≡ None → w ≡ world_after_change (with_variable name None) w
world_lost w name h = all_same w w.facts.variables (variables_with w.facts.variables name None) (λ q. none_lost w.facts.variables name q h)

-- a slot that is emptied
slot_taken : (names : List (List ℕ)) (slots new : List (Option Value)) (n : ℕ) → IsDistinct bytes_eq names → n < length names → ((i : ℕ) → i ≢ n → get_or new i None ≡ get_or slots i None) → get_or new n None ≡ None
    → (b : Bool) (q : List ℕ) (o : Option ℕ) → bytes_eq (get_or names n []) q ≡ b → number_in q names ≡ o
    → option_and_then (slot_value new) o ≡ (if b then None else option_and_then (slot_value slots) o)
slot_taken names slots new n distinct l same none true q o h e =
    let is : get_or names n [] ≡ q = (bytes_eq-Decides (get_or names n []) q).0 h in
    let at : o ≡ Some n = sym e ∙ ap (λ x. number_in x names) (sym is) ∙ number_at names n distinct l in
    ap (option_and_then (slot_value new)) at ∙ ap (option_map data_of) none
slot_taken names slots new n distinct l same none false q None h e = refl
slot_taken names slots new n distinct l same none false q (Some j) h e =
    let p = name_at q names j e in
    let other : j ≢ n = λ (s : j ≡ n). false≢true (sym h ∙ (bytes_eq-Decides (get_or names n []) q).1 (ap (λ k. get_or names k []) (sym s) ∙ p.1)) in
    ap (option_map data_of) (same j other)

pub variables_taken : (names : List (List ℕ)) (slots new : List (Option Value)) (n : ℕ) → IsDistinct bytes_eq names → n < length names → ((i : ℕ) → i ≢ n → get_or new i None ≡ get_or slots i None) → get_or new n None ≡ None
    → (q : List ℕ) → kept_variables names new q ≡ variables_with (kept_variables names slots) (get_or names n []) None q
variables_taken names slots new n distinct l same none q = slot_taken names slots new n distinct l same none (bytes_eq (get_or names n []) q) q (number_in q names) refl refl

-- ---- the project

-- the project is this of what it was
pub project_made : (k : Kept) {p q : WorldData} (f : WorldData → WorldData) → q ≡ k.project → p ≡ f q
    → world_of (record k { project = p }) ≡ world_after_change (facts_after_declaration f) (world_of k)
project_made k f was is = ap (λ x. world_of (record k { project = x })) (is ∙ ap f was)

-- before anything was done
pub world_first : (k : Kept) (settings : SettingsData) (machine : List Section) → k.file ≡ codes "meson.build" → k.folder ≡ [] → k.line ≡ 1 → k.settings ≡ settings → k.names ≡ [] → k.slots ≡ [] → k.machine ≡ machine
    → k.options ≡ [] → k.configurations ≡ [] → k.is_begun ≡ false → k.project ≡ new_world (facts_before_project settings) → k.entered ≡ [] → k.looked ≡ [] → k.asked ≡ [] → world_of k ≡ first_world settings machine
world_first k settings file_said file folder line set names slots machine options configurations begun project entered looked asked = λ i. world_of (record {
  file = file i;
  folder = folder i;
  line = line i;
  settings = set i;
  names = names i;
  slots = slots i;
  machine = machine i;
  options = options i;
  configurations = configurations i;
  is_begun = begun i;
  project = project i;
  entered = entered i;
  looked = looked i;
  asked = asked i;
})
