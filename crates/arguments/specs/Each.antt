-- Applies a function to each element of a list, up to the first element for which it returns none or a refusal.
use Rattle.std.specs.Prelude.{List, [], ◌∷◌, ◌++◌, Option, Some, Ok, option_and_then}
use Rattle.arguments.specs.Said.{Said, ◌>>=◌}

-- Returns some elements followed by the function's result for each of the list, and none if one has no result.
abbrev pub each_behind : {A B : Type 0} → (A → Option B) → List B → List A → Option (List B)
each_behind f ys [] = Some ys
each_behind f ys (x ∷ xs) = option_and_then (λ y. each_behind f (ys ++ y ∷ []) xs) (f x)

-- Returns the function's result for each element, in order, and none if one has no result.
abbrev pub each_or_none : {A B : Type 0} → (A → Option B) → List A → Option (List B)
each_or_none f xs = each_behind f [] xs

-- Returns some elements followed by all that the function returns for each of the list, in order, and none if one has no result.
abbrev pub all_behind : {A B : Type 0} → (A → Option (List B)) → List B → List A → Option (List B)
all_behind f ys [] = Some ys
all_behind f ys (x ∷ xs) = option_and_then (λ more. all_behind f (ys ++ more) xs) (f x)

-- ---- what arguments say

-- Returns some elements followed by the function's result for each of the list, or the first refusal.
abbrev pub each_said : {A B : Type 0} → (A → Said B) → List B → List A → Said (List B)
each_said f ys [] = Ok ys
each_said f ys (x ∷ xs) = f x >>= (λ y. each_said f (ys ++ y ∷ []) xs)

-- Returns some elements followed by all that the function returns for each of the list, or the first refusal.
abbrev pub all_said : {A B : Type 0} → (A → Said (List B)) → List B → List A → Said (List B)
all_said f ys [] = Ok ys
all_said f ys (x ∷ xs) = f x >>= (λ more. all_said f (ys ++ more) xs)
