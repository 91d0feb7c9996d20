-- Tests over all sources of a target, its own and those of its dependencies.
use Rattle.std.proofs.Common.{◌≡◌, Bool, List, [], ◌∷◌, ◌++◌, map, refl, ap, ◌∙◌}
use Rattle.std.specs.Prelude.{◌&&◌, ◌||◌, flat_map}
use Rattle.std.specs.List.{list_any, list_all}
use Rattle.std.proofs.lemmas.List.Folds.{list_any-append, list_all-append, list_all-map}
use Rattle.build.proofs.TextLists.{list_any-map}
use Rattle.build.specs.Data.{SourceData, ListsData}
use Rattle.build.specs.View.{source_view}
use Rattle.build.specs.declared.target.Source.{Source}

module _ {D : Type 0} (view : D → ListsData) (items : D → List Source) (is : (d : D) → (view d).sources ≡ map source_view (items d)) (p : SourceData → Bool) where
  brought_all : (ds : List D) → list_all p (flat_map (λ (l : ListsData). l.sources) (map view ds)) ≡ list_all (λ d. list_all (λ s. p (source_view s)) (items d)) ds
  brought_all [] = refl
  brought_all (d ∷ ds) =
      list_all-append p (view d).sources (flat_map (λ (l : ListsData). l.sources) (map view ds))
      ∙ ap (λ b. list_all p (view d).sources && b) (brought_all ds)
      ∙ ap (λ b. b && list_all (λ e. list_all (λ s. p (source_view s)) (items e)) ds) (ap (list_all p) (is d) ∙ list_all-map p source_view (items d))

  brought_any : (ds : List D) → list_any p (flat_map (λ (l : ListsData). l.sources) (map view ds)) ≡ list_any (λ d. list_any (λ s. p (source_view s)) (items d)) ds
  brought_any [] = refl
  brought_any (d ∷ ds) =
      list_any-append p (view d).sources (flat_map (λ (l : ListsData). l.sources) (map view ds))
      ∙ ap (λ b. list_any p (view d).sources || b) (brought_any ds)
      ∙ ap (λ b. b || list_any (λ e. list_any (λ s. p (source_view s)) (items e)) ds) (ap (list_any p) (is d) ∙ list_any-map p source_view (items d))

  pub all_listed : (own : List Source) (ds : List D)
      → list_all p (map source_view own ++ flat_map (λ (l : ListsData). l.sources) (map view ds))
      ≡ (list_all (λ s. p (source_view s)) own && list_all (λ d. list_all (λ s. p (source_view s)) (items d)) ds)
  all_listed own ds =
      list_all-append p (map source_view own) (flat_map (λ (l : ListsData). l.sources) (map view ds))
      ∙ ap (λ b. b && list_all p (flat_map (λ (l : ListsData). l.sources) (map view ds))) (list_all-map p source_view own)
      ∙ ap (λ b. list_all (λ s. p (source_view s)) own && b) (brought_all ds)

  pub any_listed : (own : List Source) (ds : List D)
      → list_any p (map source_view own ++ flat_map (λ (l : ListsData). l.sources) (map view ds))
      ≡ (list_any (λ s. p (source_view s)) own || list_any (λ d. list_any (λ s. p (source_view s)) (items d)) ds)
  any_listed own ds =
      list_any-append p (map source_view own) (flat_map (λ (l : ListsData). l.sources) (map view ds))
      ∙ ap (λ b. b || list_any p (flat_map (λ (l : ListsData). l.sources) (map view ds))) (list_any-map p source_view own)
      ∙ ap (λ b. list_any (λ s. p (source_view s)) own || b) (brought_any ds)

pub all_both : (p : SourceData → Bool) (xs ys : List Source)
    → list_all p (map source_view xs ++ map source_view ys) ≡ (list_all (λ s. p (source_view s)) xs && list_all (λ s. p (source_view s)) ys)
all_both p xs ys =
    list_all-append p (map source_view xs) (map source_view ys)
    ∙ ap (λ b. b && list_all p (map source_view ys)) (list_all-map p source_view xs)
    ∙ ap (λ b. list_all (λ s. p (source_view s)) xs && b) (list_all-map p source_view ys)
