use Rattle.std.proofs.Common.{◌≡◌, ◌∙◌, Bor, List, ℕ, String, Global, map, ap, sym, string_bytes, true}
use Rattle.std.specs.List.{join_with_byte}
use Rattle.support.specs.paths.BuildFolders.{are_below, is_tidy_folder}
use Rattle.support.proofs.BuildFolders.{joined_is_tidy}
use Rattle.support.proofs.paths.folders.tidy_folder.Goals as goal

pub returns-clause-tidy : goal.returns-clause-tidy
returns-clause-tidy c = λ x e.
    let parts = map (λ (s : Bor (List ℕ)). s.now) c.in_ok-parts.parts.items in
    let below : are_below parts ≡ true =
    ap (λ (xs : List (Bor (List ℕ))). are_below (map (λ s. s.now) xs)) (sym c.deref.ensures.value) ∙ sym c.are_below.ensures ∙ c.if-not-are_below.false in
    let bytes : string_bytes c.in_ok-join_parts.field-0 ≡ join_with_byte 47 parts =
    c.in_ok-join_parts.ensures ∙ ap (λ (xs : List (Bor (List ℕ))). join_with_byte 47 (map (λ s. s.now) xs)) c.deref-2.ensures.value in
    let tidy = joined_is_tidy c.args.path.now (string_bytes c.in_ok-join_parts.field-0) parts c.in_ok-parts.ensures below bytes in
    let same : c.in_ok-join_parts.field-0 ≡ x = cc in
    ap (λ (s : String Global). is_tidy_folder (string_bytes s)) (sym same) ∙ tidy
