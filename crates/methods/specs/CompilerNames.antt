-- Defines the names of the methods of the C compiler: the type `compiler` of the page "Reference manual".
use Rattle.std.specs.Prelude.{ℕ, Bool, List, [], ◌∷◌, codes}
use Rattle.support.specs.Among.{is_among}

-- Returns the methods that would have to run a compiler, which are not supported.
abbrev pub left_out_names : List (List ℕ)
left_out_names = codes "compiles" ∷ codes "compute_int" ∷ codes "get_define" ∷ codes "links" ∷ codes "preprocess" ∷ codes "run" ∷ []

-- Holds if a method is not supported.
abbrev pub is_left_out : List ℕ → Bool
is_left_out name = is_among left_out_names name
