-- Files that are required, one after another.
use Rattle.std.proofs.Common.{◌≡◌, ℕ, suc, ◌+◌, ◌<◌, List, map, drop, length, get_or, ap, sym, refl, ◌∙◌, add-one}
use Rattle.std.proofs.Math.Seq.{drop-cons}
use Rattle.sources.specs.SourcesView.{named_view}
use Rattle.sources.specs.declared.sources.NamedSource.{NamedSource}
use Rattle.world.specs.Deed.{then}
use Rattle.resource_calls.specs.NamedFiles.{file_required, files_required}

-- the next one
pub files_required-drop : (ns : List NamedSource) (i : ℕ) (n : NamedSource) → i < length ns → n ≡ get_or ns i n
    → files_required (map named_view (drop i ns)) ≡ then (file_required (named_view n)) (λ u. files_required (map named_view (drop (i + 1) ns)))
unfolding files_required
files_required-drop ns i n h is =
    ap (λ us. files_required (map named_view us)) (drop-cons ns i n h)
    ∙ ap (λ x. then (file_required (named_view x)) (λ (u : Unit {0}). files_required (map named_view (drop (suc i) ns)))) (sym is)
    ∙ rw add-one refl
