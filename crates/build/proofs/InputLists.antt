-- Of inputs with equal paths the first is kept.
use Rattle.std.proofs.Common.{◌≡◌, ◌<◌, Bool, true, false, List, [], ◌∷◌, ◌++◌, length, map, string_bytes, String, refl, sym, ap, ◌∙◌}
use Rattle.std.proofs.Common.{arith}
use Rattle.std.specs.Prelude.{not, if◌then◌else◌, string_eq}
use Rattle.std.specs.List.{list_any}
use Rattle.std.specs.Global.{Global}
use Rattle.std.proofs.lemmas.List.{map-append}
use Rattle.std.proofs.lemmas.Bool.{not-true, not-false}
use Rattle.support.specs.Sets.{insert_key}
use Rattle.build.specs.edge.Texts.{Path, texts, holds}
use Rattle.build.proofs.TextLists.{holds-texts, texts-insert_key}
use Rattle.build.specs.Sources.{InputData, put_input, put_inputs}
use Rattle.build.specs.Inputs.{input_view}
use Rattle.build.specs.declared.sources.Input.{Input}

-- of less than two inputs each is kept
pub few_inputs : (xs : List Input) → length xs < 2 → map input_view xs ≡ put_inputs [] (map input_view xs)
few_inputs [] h = refl
few_inputs (x ∷ []) h = refl
few_inputs (x ∷ y ∷ xs) h = absurd (omega arith)

put_inputs-push : (kept is : List InputData) (i : InputData) → put_inputs kept (is ++ i ∷ []) ≡ put_input (put_inputs kept is) i
put_inputs-push kept [] i = refl
put_inputs-push kept (x ∷ is) i = put_inputs-push (put_input kept x) is i

abbrev paths : List InputData → List Path
paths is = map (λ (i : InputData). i.path) is

-- whether the path was seen, as the list says
was_seen : (keys : List (String Global)) (kept : List InputData) (k : String Global) (p : Path) → texts keys ≡ paths kept → string_bytes k ≡ p
    → list_any (string_eq k) keys ≡ holds p (paths kept)
was_seen keys kept k p seen same = holds-texts k keys ∙ ap (λ q. holds q (texts keys)) same ∙ ap (holds p) seen

module _ (all kept : List Input) (keys now : List (String Global)) (item : Input) (k : String Global) (added : Bool) (so_far : map input_view kept ≡ put_inputs [] (map input_view all))
    (seen : texts keys ≡ paths (map input_view kept)) (same : string_bytes k ≡ string_bytes item.path) (was : added ≡ not (list_any (string_eq k) keys)) (is : now ≡ insert_key string_eq keys k) where
  more : put_inputs [] (map input_view (all ++ item ∷ [])) ≡ put_input (map input_view kept) (input_view item)
  more =
      ap (put_inputs []) (map-append input_view all (item ∷ []))
      ∙ put_inputs-push [] (map input_view all) (input_view item)
      ∙ ap (λ l. put_input l (input_view item)) (sym so_far)

  abbrev old : List InputData
  old = map input_view kept

  in_old : list_any (string_eq k) keys ≡ holds (string_bytes item.path) (paths old)
  in_old = was_seen keys old k (string_bytes item.path) seen same

  held : added ≡ false → holds (string_bytes item.path) (paths old) ≡ true
  held none = sym in_old ∙ not-false (list_any (string_eq k) keys) (sym was ∙ none)

  not_held : added ≡ true → holds (string_bytes item.path) (paths old) ≡ false
  not_held one = sym in_old ∙ not-true (list_any (string_eq k) keys) (sym was ∙ one)

  now_is : texts now ≡ (if holds (string_bytes item.path) (paths old) then texts keys else texts keys ++ string_bytes item.path ∷ [])
  now_is =
      ap texts is ∙ texts-insert_key keys k
      ∙ ap (λ b. if b then texts keys else texts keys ++ string_bytes k ∷ []) (sym (holds-texts k keys) ∙ in_old)
      ∙ ap (λ p. if holds (string_bytes item.path) (paths old) then texts keys else texts keys ++ p ∷ []) same

  pub kept-present : added ≡ false → map input_view kept ≡ put_inputs [] (map input_view (all ++ item ∷ []))
  kept-present none = sym (more ∙ ap (λ b. if b then old else old ++ input_view item ∷ []) (held none))

  pub seen-present : added ≡ false → texts now ≡ paths (map input_view kept)
  seen-present none =
      now_is ∙ ap (λ b. if b then texts keys else texts keys ++ string_bytes item.path ∷ []) (held none) ∙ seen

  pub kept-new : (new : List Input) → new ≡ kept ++ item ∷ [] → added ≡ true → map input_view new ≡ put_inputs [] (map input_view (all ++ item ∷ []))
  kept-new new e one =
      ap (map input_view) e ∙ map-append input_view kept (item ∷ [])
      ∙ sym (more ∙ ap (λ b. if b then old else old ++ input_view item ∷ []) (not_held one))

  pub seen-new : (new : List Input) → new ≡ kept ++ item ∷ [] → added ≡ true → texts now ≡ paths (map input_view new)
  seen-new new e one =
      now_is ∙ ap (λ b. if b then texts keys else texts keys ++ string_bytes item.path ∷ []) (not_held one)
      ∙ ap (λ l. l ++ string_bytes item.path ∷ []) seen
      ∙ sym (ap (λ l. paths (map input_view l)) e ∙ ap paths (map-append input_view kept (item ∷ [])) ∙ map-append (λ (i : InputData). i.path) old (input_view item ∷ []))
