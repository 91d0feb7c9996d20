-- Lists whose items are shown.
use Rattle.std.proofs.Common.{◌≡◌, List, map, Result, Ok, Err, IfOk, refl, sym, ap, ◌∙◌, subst}
use Rattle.std.proofs.lemmas.Result.{IfOk-from_err, IfOk-weaker, on_ok_weaker}
use Rattle.std.proofs.lemmas.Simd.{map-map}
use Rattle.std.specs.Prelude.{OnOk, fold}
use Rattle.build.specs.project.World.{InstallData}
use Rattle.serde_json.specs.Data.{Data, no_members, object}
use Rattle.serde_json.specs.View.{view}
use Rattle.serde_json.specs.declared.value.Value.{Value}
use Rattle.serde.specs.Event.{Log}
use Rattle.introspection.specs.Document.{list, with_installed}
use Rattle.introspection.specs.Sending.{Sends}

-- items are shown by what they are seen as
pub list_shown : {A B E : Type 0} (show : B → Data) (see : A → B) (r : Result Value E) (xs : List A) (ys : List B)
    → map see xs ≡ ys → IfOk r (λ v. view v ≡ list (map (λ x. show (see x)) xs)) → IfOk r (λ v. view v ≡ list (map show ys))
list_shown show see r xs ys e h = IfOk-weaker r _ _ (λ v is. is ∙ ap list (sym (map-map show see xs) ∙ ap (map show) e)) h

pub list_seen : {A B : Type 0} (show : B → Data) (see : A → B) (xs : List A) (ys : List B) (d : Data) → map see xs ≡ ys
    → d ≡ list (map (λ x. show (see x)) xs) → d ≡ list (map show ys)
list_seen show see xs ys d e is = is ∙ ap list (sym (map-map show see xs) ∙ ap (map show) e)

pub list_sends : {A B : Type 0} (show : B → Data) (see : A → B) (xs : List A) (ys : List B) (old new : Log) → map see xs ≡ ys
    → Sends (list (map (λ x. show (see x)) xs)) old new → Sends (list (map show ys)) old new
list_sends show see xs ys old new e h = subst (λ ds. Sends (list ds) old new) (sym (map-map show see xs) ∙ ap (map show) e) h

pub one_sends : {A : Type 0} (show : A → Data) (x y : A) (old new : Log) → x ≡ y → Sends (show x) old new → Sends (show y) old new
one_sends show x y old new e h = subst (λ z. Sends (show z) old new) e h

pub installs_send : (xs ys : List InstallData) (old new : Log) → xs ≡ ys → Sends (object (fold with_installed no_members xs)) old new
    → Sends (object (fold with_installed no_members ys)) old new
installs_send xs ys old new e h = subst (λ zs. Sends (object (fold with_installed no_members zs)) old new) e h

-- what holds in any case
pub always : {T E : Type 0} (r : Result T E) (P : Type 0) → P → IfOk r (λ _. P)
always (Ok x) P p = p
always {T = T} {E = E} (Err x) P p = IfOk-from_err {T = T} {E = E} (Err x) (λ _. P) refl

pub always_on_ok : {T E : Type 0} (r : Result T E) (P Q : Type 0) → P → OnOk r Q → OnOk r P
always_on_ok r P Q p h = on_ok_weaker r (λ _. p) h
