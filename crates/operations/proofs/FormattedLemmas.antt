-- Texts with places, and values in lists of any depth.
use Rattle.std.proofs.Common.{◌≡◌, ℕ, ◌<◌, ◌≤◌, true, false, List, [], ◌∷◌, ◌++◌, Ok, Err, map, length, refl, sym, ap, ◌∙◌, arith}
use Rattle.std.specs.Prelude.{Result, ◌&&◌, nat_le, if◌then◌else◌}
use Rattle.std.specs.List.{list_all, flat_map}
use Rattle.std.proofs.lemmas.Bool.Decides.{nat_tests}
use Rattle.std.proofs.lemmas.Bool.{cond-true, cond-false}
use Rattle.values.specs.declared.refusal.OperationRefusal.{OperationRefusal}
use Rattle.values.specs.declared.refusal.OperationRefusal.TheVariants as refusal
use Rattle.values.specs.declared.value.Value.{Value}
use Rattle.values.specs.Data.{Data}
use Rattle.values.specs.Limits.{within_bytes, Appends}
use Rattle.values.specs.View.{data_of}
use Rattle.values.specs.printing.Printed.{is_printable}
use Rattle.values.specs.declared.texts.placeholders.Places.TheVariants as places
use Rattle.values.specs.texts.Segments.{Segment, segments}
use Rattle.operations.specs.methods.Formatted.{has_value, text_of_filled_segment, formatted_text}

list_all-data_of : (vs : List Value) → list_all is_printable (map data_of vs) ≡ list_all (λ v. is_printable (data_of v)) vs
list_all-data_of [] = refl
list_all-data_of (v ∷ vs) = ap (λ b. is_printable (data_of v) && b) (list_all-data_of vs)

-- ---- a text with places

abbrev result : List ℕ → List Data → Result (List ℕ) OperationRefusal
result t values =
    if list_all (has_value values) (segments places.Numbers t) then within_bytes (flat_map (text_of_filled_segment values) (segments places.Numbers t))
    else Err refusal.Absent

pub formatted_refused : (t : List ℕ) (vs : List Value) → list_all (λ v. is_printable (data_of v)) vs ≡ false
    → Err refusal.Arguments ≡ formatted_text t (map data_of vs)
formatted_refused t vs e =
    sym (cond-false (list_all is_printable (map data_of vs)) (result t (map data_of vs)) (Err refusal.Arguments) (list_all-data_of vs ∙ e))

printable : (t : List ℕ) (vs : List Value) → list_all (λ v. is_printable (data_of v)) vs ≡ true
    → formatted_text t (map data_of vs) ≡ result t (map data_of vs)
printable t vs e =
    cond-true (list_all is_printable (map data_of vs)) (result t (map data_of vs)) (Err refusal.Arguments) (list_all-data_of vs ∙ e)

pub formatted_absent : (t : List ℕ) (vs : List Value) → list_all (λ v. is_printable (data_of v)) vs ≡ true
    → list_all (has_value (map data_of vs)) (segments places.Numbers t) ≡ false → Err refusal.Absent ≡ formatted_text t (map data_of vs)
formatted_absent t vs e none =
    sym (printable t vs e ∙ cond-false (list_all (has_value (map data_of vs)) (segments places.Numbers t))
    (within_bytes (flat_map (text_of_filled_segment (map data_of vs)) (segments places.Numbers t))) (Err refusal.Absent) none)

filled_is : (t : List ℕ) (vs : List Value) → list_all (λ v. is_printable (data_of v)) vs ≡ true
    → list_all (has_value (map data_of vs)) (segments places.Numbers t) ≡ true
    → formatted_text t (map data_of vs) ≡ within_bytes (flat_map (text_of_filled_segment (map data_of vs)) (segments places.Numbers t))
filled_is t vs e all =
    printable t vs e ∙ cond-true (list_all (has_value (map data_of vs)) (segments places.Numbers t))
    (within_bytes (flat_map (text_of_filled_segment (map data_of vs)) (segments places.Numbers t))) (Err refusal.Absent) all

short : (t made : List ℕ) → made ≡ t → length made ≤ 16777216 → Ok made ≡ within_bytes t
short t made is fit =
    let test : nat_le (length t) 16777216 ≡ true = let n = ap length is in grind (arith, nat_tests) in
    ap (λ x. Ok x) is ∙ sym (cond-true (nat_le (length t) 16777216) (Ok t) (Err refusal.Limit) test)

long : (t : List ℕ) → 16777216 < length t → Err refusal.Limit ≡ within_bytes t
long t h =
    let test : nat_le (length t) 16777216 ≡ false = grind (arith, nat_tests) in
    sym (cond-false (nat_le (length t) 16777216) (Ok t) (Err refusal.Limit) test)

pub formatted_made : (t : List ℕ) (vs : List Value) (ss : List Segment) (before made : List ℕ)
    → list_all (λ v. is_printable (data_of v)) vs ≡ true → ss ≡ segments places.Numbers t → list_all (has_value (map data_of vs)) ss ≡ true
    → before ≡ [] → Appends before (flat_map (text_of_filled_segment (map data_of vs)) ss) made (Ok tt) → Ok made ≡ formatted_text t (map data_of vs)
formatted_made t vs ss before made e is all empty wrote =
    let whole : made ≡ flat_map (text_of_filled_segment (map data_of vs)) (segments places.Numbers t) =
    wrote.0 ∙ ap (λ x. x ++ flat_map (text_of_filled_segment (map data_of vs)) ss) empty ∙ ap (flat_map (text_of_filled_segment (map data_of vs))) is in
    short (flat_map (text_of_filled_segment (map data_of vs)) (segments places.Numbers t)) made whole wrote.1
    ∙ sym (filled_is t vs e (ap (list_all (has_value (map data_of vs))) (sym is) ∙ all))

pub formatted_long : (t : List ℕ) (vs : List Value) (ss : List Segment) (before made : List ℕ) (r : OperationRefusal)
    → list_all (λ v. is_printable (data_of v)) vs ≡ true → ss ≡ segments places.Numbers t → list_all (has_value (map data_of vs)) ss ≡ true
    → before ≡ [] → Appends before (flat_map (text_of_filled_segment (map data_of vs)) ss) made (Err r) → Err r ≡ formatted_text t (map data_of vs)
formatted_long t vs ss before made r e is all empty wrote =
    let whole : before ++ flat_map (text_of_filled_segment (map data_of vs)) ss ≡ flat_map (text_of_filled_segment (map data_of vs)) (segments places.Numbers t) =
    ap (λ x. x ++ flat_map (text_of_filled_segment (map data_of vs)) ss) empty ∙ ap (flat_map (text_of_filled_segment (map data_of vs))) is in
    ap (λ x. Err x) wrote.0
    ∙ long (flat_map (text_of_filled_segment (map data_of vs)) (segments places.Numbers t)) (let n = ap length whole in omega (arith, wrote.1))
    ∙ sym (filled_is t vs e (ap (list_all (has_value (map data_of vs))) (sym is) ∙ all))
