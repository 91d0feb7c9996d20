-- Decides whether there are disablers among arguments.
use Rattle.std.specs.Prelude.{ℕ, Bool, false, ◌||◌, List, [], ◌∷◌}
use Rattle.values.specs.Data.{Data, has_disabler}
use Rattle.arguments.specs.Arguments.{ArgumentsData}

-- Holds if one of some values is or contains a disabler.
abbrev pub one_has_disabler : List Data → Bool
one_has_disabler [] = false
one_has_disabler (d ∷ ds) = has_disabler d || one_has_disabler ds

-- Holds if one of the keyword arguments is or contains a disabler.
abbrev pub named_have_disabler : List (List ℕ × Data) → Bool
named_have_disabler [] = false
named_have_disabler (n ∷ ns) = has_disabler n.1 || named_have_disabler ns

-- Holds if a positional or keyword argument is a disabler, or a list that contains one at any depth of lists.
abbrev pub gives_disabler : ArgumentsData → Bool
gives_disabler a = one_has_disabler a.positional || named_have_disabler a.named
