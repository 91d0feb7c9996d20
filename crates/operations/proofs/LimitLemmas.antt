-- Lists within their limits.
use Rattle.std.proofs.Common.{◌≡◌, Bool, true, false, Ok, Err, refl, sym, ap, ◌∙◌}
use Rattle.std.specs.Prelude.{Result, if◌then◌else◌}
use Rattle.values.specs.declared.refusal.OperationRefusal.{OperationRefusal}
use Rattle.values.specs.declared.refusal.OperationRefusal.TheVariants as refusal
use Rattle.values.specs.Data.{Data, list, Items}
use Rattle.values.specs.Limits.{within, items_fit}

abbrev made : {X : Type 0} → (X → Data) → Result X OperationRefusal → Result Data OperationRefusal
made f (Ok x) = Ok (f x)
made f (Err e) = Err e

branches : {X : Type 0} (f : X → Data) (b : Bool) (x : X) → made f (if b then Ok x else Err refusal.Limit) ≡ (if b then Ok (f x) else Err refusal.Limit)
branches f true x = refl
branches f false x = refl

list_made : (ds : Items) (r : Result Items OperationRefusal) → r ≡ (if items_fit ds then Ok ds else Err refusal.Limit) → within (list ds) ≡ made list r
list_made ds r is = sym (ap (made list) is ∙ branches list (items_fit ds) ds)

pub list_within : (ds es : Items) → Ok es ≡ (if items_fit ds then Ok ds else Err refusal.Limit) → within (list ds) ≡ Ok (list es)
list_within ds es is = list_made ds (Ok es) is

pub list_past : (ds : Items) (e : OperationRefusal) → Err e ≡ (if items_fit ds then Ok ds else Err refusal.Limit) → within (list ds) ≡ Err e
list_past ds e is = list_made ds (Err e) is
