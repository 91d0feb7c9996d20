-- What outputs in memory are seen as after each call.
use Rattle.std.proofs.Common.{◌≡◌, ℕ, ◌+◌, ◌-◌, ◌≤◌, ◌<◌, get_or, true, false, ◌&&◌, List, [], ◌∷◌, ◌++◌, map, take, drop, length, nat_le}
use Rattle.std.proofs.Common.{Option, Some, None, IsSome, refl, sym, ap, ◌∙◌, arith, length-append}
use Rattle.std.specs.List.{list_all, slice_get}
use Rattle.std.specs.Option.{option_map}
use Rattle.std.proofs.lemmas.Option.{slice_get-map, slice_get-get_or, slice_get_past}
use Rattle.std.proofs.lemmas.List.Folds.{list_all_at}
use Rattle.std.proofs.Math.Seq.{drop-append_seam, take-length}
use Rattle.std.proofs.lemmas.List.{map-append, append-nil, take-append-le, drop-append-le, length-drop}
use Rattle.std.proofs.lemmas.List.Folds.{list_all-append}
use Rattle.std.proofs.lemmas.Bool.{false≢true, and_from, and_parts, le-leb}
use Rattle.std.proofs.lemmas.Bool.Decides.{nat_tests}
use Rattle.ports.specs.declared.memory.event.Event.{Event}
use Rattle.ports.specs.declared.memory.event.Event.TheVariants.{Open, Byte, Close, Log, Fault}
use Rattle.ports.specs.declared.memory.outputs.Span.{Span}
use Rattle.ports.specs.declared.memory.outputs.Stream.TheVariants.{ToOutput, ToLog, ToFault}
use Rattle.ports.specs.Outputs as outputs
use Rattle.ports.specs.Outputs.{OutputState, Step, name_or_empty, events_of_steps, name_after, opening_steps, closing_steps, puts, logs, faults, Takes}
use Rattle.ports.specs.memory.Slots.{name_at, event_at, open_at, events_at, is_span_within, is_within, is_open_within, are_within, slot_of}
use Rattle.ports.specs.memory.Slots.{state_at}
use Rattle.ports.proofs.OpenNames.{name_after-puts, name_after-logs, name_after-faults}

-- the run is added as it stands
takes_as_told : (old new : OutputState) (run : List Step) → new.tells ≡ true → new.open_name ≡ name_after old.open_name run → new.events ≡ old.events ++ events_of_steps old.open_name run → Takes old new run
takes_as_told old new run t n e = record { tells = λ _. t; name = n; events = λ _. e }

events_at-append : (names : List ℕ) (a b : List (Event Span)) → events_at names (a ++ b) ≡ events_at names a ++ events_at names b
unfolding events_at
events_at-append names a b = map-append (event_at names) a b

told-logs : (names : List ℕ) (name : Option (List ℕ)) (bytes : List ℕ) → events_at names (map (slot_of ToLog) bytes) ≡ events_of_steps name (logs bytes)
unfolding events_at event_at events_of_steps logs
told-logs names name [] = refl
told-logs names name (b ∷ bytes) = ap (λ r. outputs.Log b ∷ r) (told-logs names name bytes)

told-faults : (names : List ℕ) (name : Option (List ℕ)) (bytes : List ℕ) → events_at names (map (slot_of ToFault) bytes) ≡ events_of_steps name (faults bytes)
unfolding events_at event_at events_of_steps faults
told-faults names name [] = refl
told-faults names name (b ∷ bytes) = ap (λ r. outputs.Fault b ∷ r) (told-faults names name bytes)

told-puts : (names : List ℕ) (span : Span) (bytes : List ℕ) → events_at names (map (slot_of (ToOutput span)) bytes) ≡ events_of_steps (Some (name_at names span)) (puts bytes)
unfolding events_at event_at events_of_steps puts
told-puts names span [] = refl
told-puts names span (b ∷ bytes) = ap (λ r. outputs.Byte (name_at names span) b ∷ r) (told-puts names span bytes)

pub puts_recorded : (names : List ℕ) (slots new : List (Event Span)) (current : Option Span) (span : Span) (f g : ℕ) (bytes : List ℕ) → current ≡ Some span
    → new ≡ slots ++ map (slot_of (ToOutput span)) bytes → Takes (state_at names slots current f) (state_at names new current g) (puts bytes)
unfolding open_at
puts_recorded names slots new current span f g bytes c e =
    takes_as_told _ _ _ refl (sym (name_after-puts _ bytes))
    (ap (events_at names) e ∙ events_at-append names slots _ ∙ ap (λ r. events_at names slots ++ r) (told-puts names span bytes ∙ ap (λ n. events_of_steps (open_at names n) (puts bytes)) (sym c)))

pub logs_recorded : (names : List ℕ) (slots new : List (Event Span)) (current : Option Span) (f g : ℕ) (bytes : List ℕ)
    → new ≡ slots ++ map (slot_of ToLog) bytes → Takes (state_at names slots current f) (state_at names new current g) (logs bytes)
logs_recorded names slots new current f g bytes e =
    takes_as_told _ _ _ refl (sym (name_after-logs _ bytes))
    (ap (events_at names) e ∙ events_at-append names slots _ ∙ ap (λ r. events_at names slots ++ r) (told-logs names _ bytes))

pub faults_recorded : (names : List ℕ) (slots new : List (Event Span)) (current : Option Span) (f g : ℕ) (bytes : List ℕ)
    → new ≡ slots ++ map (slot_of ToFault) bytes → Takes (state_at names slots current f) (state_at names new current g) (faults bytes)
faults_recorded names slots new current f g bytes e =
    takes_as_told _ _ _ refl (sym (name_after-faults _ bytes))
    (ap (events_at names) e ∙ events_at-append names slots _ ∙ ap (λ r. events_at names slots ++ r) (told-faults names _ bytes))

pub nothing_recorded : (names more : List ℕ) (slots new : List (Event Span)) (current : Option Span) (f g : ℕ) → more ≡ names → new ≡ slots
    → Takes (state_at names slots current f) (state_at more new current g) []
unfolding events_of_steps name_after
nothing_recorded names more slots new current f g n e =
    takes_as_told _ _ _ refl (ap (λ m. open_at m current) n) (ap (λ m. events_at m new) n ∙ ap (events_at names) e ∙ sym (append-nil _))

pub close_recorded : (names : List ℕ) (slots new : List (Event Span)) (current : Option Span) (span : Span) (f g : ℕ) → current ≡ Some span
    → new ≡ slots ++ Close span ∷ [] → Takes (state_at names slots current f) (state_at names new None g) closing_steps
unfolding open_at events_at event_at events_of_steps name_after closing_steps
close_recorded names slots new current span f g c e =
    takes_as_told _ _ _ refl refl
    (ap (events_at names) e ∙ events_at-append names slots _ ∙ ap (λ n. events_at names slots ++ (outputs.Close (name_or_empty (open_at names n)) ∷ [])) (sym c))

span_bounds : (n : ℕ) (span : Span) → is_span_within n span ≡ true → (span.start ≤ span.end) × (span.end ≤ n)
span_bounds n span h =
    let p = and_parts (nat_le span.start span.end) (nat_le span.end n) h in
    (grind (arith, nat_tests), grind (arith, nat_tests))

-- names that are added move no name that stands before them
name_at-more : (names more : List ℕ) (span : Span) → is_span_within (length names) span ≡ true → name_at (names ++ more) span ≡ name_at names span
name_at-more names more span h =
    let b = span_bounds (length names) span h in
    let le : span.start ≤ length names = omega arith in
    let fits : span.end - span.start ≤ length (drop span.start names) = omega (arith, length-drop span.start names) in
    rw (drop-append-le, take-append-le) refl

event_at-more : (names more : List ℕ) (slot : Event Span) → is_within (length names) slot ≡ true → event_at (names ++ more) slot ≡ event_at names slot
unfolding event_at is_within
event_at-more names more (Open span) h = ap (λ n. outputs.Open n) (name_at-more names more span h)
event_at-more names more (Byte span byte) h = ap (λ n. outputs.Byte n byte) (name_at-more names more span h)
event_at-more names more (Close span) h = ap (λ n. outputs.Close n) (name_at-more names more span h)
event_at-more names more (Log byte) h = refl
event_at-more names more (Fault byte) h = refl

events_at-more : (names more : List ℕ) (slots : List (Event Span)) → are_within (length names) slots ≡ true → events_at (names ++ more) slots ≡ events_at names slots
unfolding events_at are_within
events_at-more names more [] h = refl
events_at-more names more (s ∷ slots) h =
    let p = and_parts (is_within (length names) s) (list_all (is_within (length names)) slots) h in
    let e : event_at (names ++ more) s ≡ event_at names s = event_at-more names more s p.0 in
    let rest : map (event_at (names ++ more)) slots ≡ map (event_at names) slots = events_at-more names more slots p.1 in
    cc

-- the new name stands behind the old ones
name_at-new : (names name : List ℕ) (span : Span) → span.start ≡ length names → span.end ≡ length (names ++ name) → name_at (names ++ name) span ≡ name
name_at-new names name span s e =
    let width : span.end - span.start ≡ length name = omega (arith, length-append names name) in
    ap (λ n. take (span.end - span.start) (drop n (names ++ name))) s ∙ ap (take (span.end - span.start)) (drop-append_seam names name) ∙ ap (λ n. take n name) width ∙ take-length name

pub open_recorded : (names more name : List ℕ) (slots new : List (Event Span)) (current : Option Span) (span : Span) (f g : ℕ) → are_within (length names) slots ≡ true
    → more ≡ names ++ name → span.start ≡ length names → span.end ≡ length more
    → new ≡ slots ++ Open span ∷ [] → Takes (state_at names slots current f) (state_at more new (Some span) g) (opening_steps name)
unfolding open_at events_at event_at events_of_steps name_after opening_steps
open_recorded names more name slots new current span f g w m s e n =
    let at : name_at more span ≡ name = ap (λ r. name_at r span) m ∙ name_at-new names name span s (e ∙ ap length m) in
    takes_as_told _ _ _ refl (ap (λ r. Some r) at)
    (ap (events_at more) n ∙ events_at-append more slots _ ∙ ap (λ r. events_at more slots ++ (outputs.Open r ∷ [])) at
    ∙ ap (λ r. r ++ (outputs.Open name ∷ [])) (ap (λ r. events_at r slots) m ∙ events_at-more names name slots w))

is_span_within-more : (n m : ℕ) (span : Span) → n ≤ m → is_span_within n span ≡ true → is_span_within m span ≡ true
is_span_within-more n m span le h =
    let b = span_bounds n span h in
    let fits : span.end ≤ m = omega arith in
    and_from _ _ (le-leb _ _ b.0) (le-leb _ _ fits)

-- the places stay within the names
is_within-more : (n m : ℕ) (slot : Event Span) → n ≤ m → is_within n slot ≡ true → is_within m slot ≡ true
unfolding is_within
is_within-more n m (Open span) le h = is_span_within-more n m span le h
is_within-more n m (Byte span byte) le h = is_span_within-more n m span le h
is_within-more n m (Close span) le h = is_span_within-more n m span le h
is_within-more n m (Log byte) le h = refl
is_within-more n m (Fault byte) le h = refl

are_within-more : (n m : ℕ) (slots : List (Event Span)) → n ≤ m → are_within n slots ≡ true → are_within m slots ≡ true
unfolding are_within
are_within-more n m [] le h = refl
are_within-more n m (s ∷ slots) le h =
    let p = and_parts (is_within n s) (list_all (is_within n) slots) h in
    and_from _ _ (is_within-more n m s le p.0) (are_within-more n m slots le p.1)

are_within-append : (n : ℕ) (a b : List (Event Span)) → are_within n a ≡ true → are_within n b ≡ true → are_within n (a ++ b) ≡ true
unfolding are_within
are_within-append n a b h k = list_all-append (is_within n) a b ∙ and_from _ _ h k

bytes_within : (n : ℕ) (span : Span) (bytes : List ℕ) → is_span_within n span ≡ true → are_within n (map (slot_of (ToOutput span)) bytes) ≡ true
unfolding are_within is_within
bytes_within n span [] h = refl
bytes_within n span (b ∷ bytes) h = and_from _ _ h (bytes_within n span bytes h)

logs_within : (n : ℕ) (bytes : List ℕ) → are_within n (map (slot_of ToLog) bytes) ≡ true
unfolding are_within is_within
logs_within n [] = refl
logs_within n (b ∷ bytes) = logs_within n bytes

faults_within : (n : ℕ) (bytes : List ℕ) → are_within n (map (slot_of ToFault) bytes) ≡ true
unfolding are_within is_within
faults_within n [] = refl
faults_within n (b ∷ bytes) = faults_within n bytes

pub puts_stay_within : (n : ℕ) (slots new : List (Event Span)) (current : Option Span) (span : Span) (bytes : List ℕ) → current ≡ Some span → is_open_within n current ≡ true
    → are_within n slots ≡ true → new ≡ slots ++ map (slot_of (ToOutput span)) bytes → are_within n new ≡ true
unfolding is_open_within
puts_stay_within n slots new current span bytes c o w e =
    ap (are_within n) e ∙ are_within-append n slots _ w (bytes_within n span bytes (ap (is_open_within n) (sym c) ∙ o))

pub logs_stay_within : (n : ℕ) (slots new : List (Event Span)) (bytes : List ℕ) → are_within n slots ≡ true → new ≡ slots ++ map (slot_of ToLog) bytes → are_within n new ≡ true
logs_stay_within n slots new bytes w e = ap (are_within n) e ∙ are_within-append n slots _ w (logs_within n bytes)

pub faults_stay_within : (n : ℕ) (slots new : List (Event Span)) (bytes : List ℕ) → are_within n slots ≡ true → new ≡ slots ++ map (slot_of ToFault) bytes → are_within n new ≡ true
faults_stay_within n slots new bytes w e = ap (are_within n) e ∙ are_within-append n slots _ w (faults_within n bytes)

pub close_stays_within : (n : ℕ) (slots new : List (Event Span)) (current : Option Span) (span : Span) → current ≡ Some span → is_open_within n current ≡ true
    → are_within n slots ≡ true → new ≡ slots ++ Close span ∷ [] → are_within n new ≡ true
unfolding is_open_within are_within is_within
close_stays_within n slots new current span c o w e =
    ap (are_within n) e ∙ are_within-append n slots _ w (and_from _ _ (ap (is_open_within n) (sym c) ∙ o) refl)

new_span_within : (names more name : List ℕ) (span : Span) → more ≡ names ++ name → span.start ≡ length names → span.end ≡ length more → is_span_within (length more) span ≡ true
new_span_within names more name span m s e =
    let len : length more ≡ length names + length name = ap length m ∙ length-append names name in
    let below : span.start ≤ span.end = omega arith in
    let fits : span.end ≤ length more = omega arith in
    and_from _ _ (le-leb _ _ below) (le-leb _ _ fits)

pub open_stays_within : (names more name : List ℕ) (slots new : List (Event Span)) (span : Span) → are_within (length names) slots ≡ true
    → more ≡ names ++ name → span.start ≡ length names → span.end ≡ length more → new ≡ slots ++ Open span ∷ [] → are_within (length more) new ≡ true
unfolding are_within is_within
open_stays_within names more name slots new span w m s e n =
    let len : length more ≡ length names + length name = ap length m ∙ length-append names name in
    let le : length names ≤ length more = omega arith in
    ap (are_within (length more)) n ∙ are_within-append (length more) slots _ (are_within-more (length names) (length more) slots le w) (and_from _ _ (new_span_within names more name span m s e) refl)

pub current_is_within : (names more name : List ℕ) (span : Span) → more ≡ names ++ name → span.start ≡ length names → span.end ≡ length more → is_open_within (length more) (Some span) ≡ true
unfolding is_open_within
current_is_within names more name span m s e = new_span_within names more name span m s e

pub some_current : (names : List ℕ) (current : Option Span) → IsSome (open_at names current) → IsSome current
unfolding open_at
some_current names None h = h
some_current names (Some span) h = refl

pub within_bounds : (n : ℕ) (span : Span) → (nat_le span.start span.end && nat_le span.end n) ≡ true → (span.start ≤ span.end) × (span.end ≤ n)
within_bounds n span h = span_bounds n span h

pub event_read : (names : List ℕ) (slots : List (Event Span)) (i : ℕ) (slot : Event Span) → i < length slots → slot ≡ get_or slots i slot → slice_get (events_at names slots) i ≡ Some (event_at names slot)
unfolding events_at
event_read names slots i slot le is =
    slice_get-map (event_at names) slots i ∙ ap (option_map (event_at names)) (slice_get-get_or slots i slot le) ∙ ap (λ s. Some (event_at names s)) (sym is)

pub event_past : (names : List ℕ) (slots : List (Event Span)) (i : ℕ) → length slots ≤ i → slice_get (events_at names slots) i ≡ None
unfolding events_at
event_past names slots i le = slice_get-map (event_at names) slots i ∙ ap (option_map (event_at names)) (slice_get_past slots i le)

pub read_within : (n : ℕ) (slots : List (Event Span)) (i : ℕ) (slot : Event Span) → are_within n slots ≡ true → i < length slots → slot ≡ get_or slots i slot → is_within n slot ≡ true
unfolding are_within
read_within n slots i slot w le is =
    elim (is_within n slot) as (λ b. is_within n slot ≡ b → is_within n slot ≡ true) [
      | true ↦ λ e. e
      | false ↦ λ e. absurd (false≢true (sym (list_all_at (is_within n) slots i slot le (ap (is_within n) (sym is) ∙ e)) ∙ w))
    ] refl
