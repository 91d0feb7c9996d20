use Rattle.std.proofs.Common.{ap, sym, ◌∙◌, Bor, List, ℕ, Some, map, reverse, option_map}
use Rattle.std.proofs.lemmas.List.{length-map}
use Rattle.support.specs.paths.Folder.{folder_of}
use Rattle.support.specs.paths.Paths.{path_of_parts}
use Rattle.support.proofs.PathTexts.{named_some}
use Rattle.support.proofs.paths.named.clean_name.Goals as goal

pub returns-in_ok-join_parts-in-Some : goal.returns-in_ok-join_parts-in-Some
returns-in_ok-join_parts-in-Some c =
    let now : Bor (List ℕ) → List ℕ = λ part. part.now in
    ap (λ l. Some l) c.in_ok-join_parts-in-Some.ensures
    ∙ sym (named_some (map now c.deref.result.now) _ c.if-not-is_empty.ensures (length-map c.deref.result.now now ∙ c.deref.ensures.len))
    ∙ ap path_of_parts (ap (λ items. Some (reverse (map now items))) c.deref.ensures.value ∙ sym (ap (option_map folder_of) c.in-Some.is) ∙ c.in_ok-parts.ensures)
