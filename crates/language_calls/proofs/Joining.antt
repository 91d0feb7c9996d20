-- Paths below one another.
use Rattle.std.proofs.Common.{◌≡◌, ℕ, ◌+◌, ◌<◌, ◌==◌, Bool, true, false, List, [], ◌∷◌, ◌++◌, Bor, map, take, length, get_or, refl, sym, ap}
use Rattle.std.proofs.Common.{◌∙◌, append_assoc, arith}
use Rattle.std.specs.Prelude.{◌||◌, if◌then◌else◌}
use Rattle.std.proofs.lemmas.Bool.Decides.{nat_tests}
use Rattle.std.proofs.lemmas.List.{get_or-map, length-map, take_more}
use Rattle.support.specs.paths.Below.{ends_with_slash, is_absolute, path_below}
use Rattle.language_calls.specs.JoinPaths.{path_of}

-- a path that is not empty, and a relative one below it
apart : (s t : List ℕ) (empty begins ends : Bool) → empty ≡ false → begins ≡ false → ends ≡ false
    → (if empty || begins then t else (if ends then s ++ t else s ++ (47 ∷ t))) ≡ s ++ (47 ∷ t)
apart s t true begins ends e b f = absurd cc
apart s t false true ends e b f = absurd cc
apart s t false false true e b f = absurd cc
apart s t false false false e b f = refl

pub below_joined : (s t joined : List ℕ) → 0 < length s → is_absolute t ≡ false → ends_with_slash s ≡ false
    → joined ≡ s ++ 47 ∷ [] → joined ++ t ≡ path_below s t
below_joined s t joined some relative bare is =
    let full : (length s == 0) ≡ false = grind (arith, nat_tests) in
    ap (λ j. j ++ t) is ∙ append_assoc s (47 ∷ []) t
    ∙ sym (apart s t (length s == 0) (is_absolute t) (ends_with_slash s) full relative bare)

path_of-push : (path : List ℕ) (ts : List (List ℕ)) (t : List ℕ) → path_of path (ts ++ t ∷ []) ≡ path_below (path_of path ts) t
path_of-push path [] t = refl
path_of-push path (u ∷ ts) t = path_of-push (path_below path u) ts t

-- the path of one text more
pub path_more : (texts : List (Bor (List ℕ))) (i : ℕ) (d : Bor (List ℕ)) → i < length texts
    → path_of [] (take (i + 1) (map (λ t. t.now) texts)) ≡ path_below (path_of [] (take i (map (λ t. t.now) texts))) (get_or texts i d).now
path_more texts i d here =
    let ts = map (λ (t : Bor (List ℕ)). t.now) texts in
    let within : i < length ts = let n = length-map texts (λ (t : Bor (List ℕ)). t.now) in omega (arith, here, n) in
    ap (path_of []) (take_more ts i [] within) ∙ path_of-push [] (take i ts) (get_or ts i [])
    ∙ ap (path_below (path_of [] (take i ts))) (get_or-map (λ (t : Bor (List ℕ)). t.now) texts i d [] here)
