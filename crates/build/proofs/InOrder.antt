-- The edges of the targets, one number after another, are all edges.
use Rattle.std.proofs.Common.{◌≡◌, ◌+◌, List, [], ◌∷◌, ◌++◌, length, take, refl, ap, ◌∙◌, append_assoc, length-append, arith}
use Rattle.std.specs.Prelude.{slice_get, Some}
use Rattle.std.proofs.Math.Seq.{take-append_seam}
use Rattle.build.specs.Data.{SurroundingsData, TargetData}
use Rattle.build.specs.Libraries.{DeclaredTargetData, declared_target, linked_after, linked_of}
use Rattle.build.proofs.LinkedLists.{begun, get_seam}
use Rattle.build.specs.target_edges.Edges.{edges_of, edges_after, all_edges}
use Rattle.build.specs.project.Adding.{edges_if, edges_between}

module _ (s : SurroundingsData) (all : List DeclaredTargetData) where
  from : (earlier : List DeclaredTargetData) (ts : List TargetData) → all ≡ linked_after earlier ts → edges_between s all (length ts) (length earlier) ≡ edges_after s earlier ts
  from earlier [] e = refl
  from earlier (t ∷ ts) e =
      let l = declared_target earlier t in
      let b = begun (earlier ++ l ∷ []) ts in
      let is : all ≡ earlier ++ l ∷ b.rest = e ∙ b.is ∙ append_assoc earlier (l ∷ []) b.rest in
      let front : take (length earlier) all ≡ earlier = ap (take (length earlier)) is ∙ take-append_seam earlier (l ∷ b.rest) in
      let here : slice_get all (length earlier) ≡ Some l = ap (λ xs. slice_get xs (length earlier)) is ∙ get_seam earlier l b.rest in
      let next : length earlier + 1 ≡ length (earlier ++ l ∷ []) = omega (arith, length-append earlier (l ∷ [])) in
      ap (λ xs. edges_if s xs (slice_get all (length earlier)) ++ edges_between s all (length ts) (length earlier + 1)) front
      ∙ ap (λ o. edges_if s earlier o ++ edges_between s all (length ts) (length earlier + 1)) here
      ∙ ap (λ n. edges_of s earlier l ++ edges_between s all (length ts) n) next
      ∙ ap (λ es. edges_of s earlier l ++ es) (from (earlier ++ l ∷ []) ts e)

pub in_order : (s : SurroundingsData) (ts : List TargetData) → edges_between s (linked_of ts) (length ts) 0 ≡ all_edges s ts
in_order s ts = from s (linked_of ts) [] ts refl
