-- The arguments of a call, one by one.
use Rattle.std.proofs.Common.{◌≡◌, ℕ, ◌+◌, ◌<◌, ◌≤◌, Bool, true, false, List, [], ◌∷◌, length, drop, get_or, Option, Some, None, Result}
use Rattle.std.proofs.Common.{Err, map}
use Rattle.std.proofs.Common.{String, string_bytes, refl, sym, ap, ◌∙◌}
use Rattle.std.specs.Prelude.{◌||◌, bytes_eq, if◌then◌else◌}
use Rattle.std.specs.List.{list_any}
use Rattle.std.specs.Option.{option_and_then}
use Rattle.std.specs.declared.alloc.Global.{Global}
use Rattle.syntax.specs.declared.tree.Argument.{Argument}
use Rattle.syntax.specs.ExpressionTree.{ArgumentTree, NoArgument, MoreArguments, arguments, argument_of, argument_trees}
use Rattle.option_values.specs.View.{strings_in}
use Rattle.options.specs.option_file.Calls.{stands_key, with_key, gives_twice, is_left_out_key, gives_left_out, with_argument}
use Rattle.options.specs.option_file.Calls.{keywords_from}
use Rattle.options.specs.option_file.Calls.{first_left_out, first_twice, option_of, or_fault, call_declares, unfit}
use Rattle.options.specs.option_file.Declarations.{Declaration}
use Rattle.options.specs.option_file.Keywords.{Keywords, nothing_given}
use Rattle.options.specs.option_file.Misfits.{LeftOut, RefusedData, Twice, refused_as}
use Rattle.options.specs.option_file.Unfit.{list_of_arguments}
use Rattle.support.specs.Among.{is_among}
use Rattle.options.proofs.Walks.{next_is, none_is}

trees_at : (xs : List Argument) (i : ℕ) (x : Argument) → i < length xs → x ≡ get_or xs i x
    → argument_trees (drop i xs) ≡ MoreArguments (argument_of x).0 (argument_of x).1 (argument_trees (drop (i + 1) xs))
trees_at xs i x lt is = ap arguments (next_is argument_of xs i x lt is)

trees_end : (xs : List Argument) (i : ℕ) → length xs ≤ i → argument_trees (drop i xs) ≡ NoArgument
trees_end xs i le = ap arguments (none_is argument_of xs i le)

-- ---- keywords that come twice

pub among_strings : (key : List ℕ) (ks : List (String Global))
    → list_any (λ k. bytes_eq key (string_bytes k)) ks ≡ is_among (strings_in ks) key
among_strings key [] = refl
among_strings key (k ∷ ks) = ap (λ (b : Bool). bytes_eq key (string_bytes k) || b) (among_strings key ks)

pub twice_first : (xs : List Argument) (ks : List (String Global)) → ks ≡ []
    → gives_twice [] (argument_trees xs) ≡ gives_twice (strings_in ks) (argument_trees xs)
twice_first xs ks e = ap (λ (l : List (String Global)). gives_twice (strings_in l) (argument_trees xs)) (sym e)

pub twice_found : (xs : List Argument) (ks : List (List ℕ)) (i : ℕ) (x : Argument) (again : Bool)
    → gives_twice [] (argument_trees xs) ≡ gives_twice ks (argument_trees (drop i xs)) → i < length xs → x ≡ get_or xs i x
    → again ≡ stands_key ks (argument_of x).0 → again ≡ true → true ≡ gives_twice [] (argument_trees xs)
twice_found xs ks i x again h lt is a t =
    sym (h ∙ ap (gives_twice ks) (trees_at xs i x lt is)
    ∙ ap (λ (b : Bool). b || gives_twice (with_key ks (argument_of x).0) (argument_trees (drop (i + 1) xs))) (sym a ∙ t))

pub twice_more : (xs : List Argument) (ks more : List (List ℕ)) (i : ℕ) (x : Argument) (again : Bool)
    → gives_twice [] (argument_trees xs) ≡ gives_twice ks (argument_trees (drop i xs)) → i < length xs → x ≡ get_or xs i x
    → again ≡ stands_key ks (argument_of x).0 → again ≡ false → more ≡ with_key ks (argument_of x).0
    → gives_twice [] (argument_trees xs) ≡ gives_twice more (argument_trees (drop (i + 1) xs))
twice_more xs ks more i x again h lt is a f m =
    h ∙ ap (gives_twice ks) (trees_at xs i x lt is)
    ∙ ap (λ (b : Bool). b || gives_twice (with_key ks (argument_of x).0) (argument_trees (drop (i + 1) xs))) (sym a ∙ f)
    ∙ ap (λ (l : List (List ℕ)). gives_twice l (argument_trees (drop (i + 1) xs))) (sym m)

pub twice_none : (xs : List Argument) (ks : List (List ℕ)) (i : ℕ)
    → gives_twice [] (argument_trees xs) ≡ gives_twice ks (argument_trees (drop i xs))
    → length xs ≤ i → false ≡ gives_twice [] (argument_trees xs)
twice_none xs ks i h le = sym (h ∙ ap (gives_twice ks) (trees_end xs i le))

-- ---- keywords that are left out

pub left_out_any : (xs : List Argument) → list_any (λ a. is_left_out_key (argument_of a).0) xs ≡ gives_left_out (argument_trees xs)
left_out_any [] = refl
left_out_any (x ∷ xs) = ap (λ (b : Bool). is_left_out_key (argument_of x).0 || b) (left_out_any xs)

-- ---- what keywords give

pub keywords_first : (xs : List Argument) (k : Keywords) → k ≡ nothing_given
    → keywords_from nothing_given (argument_trees xs) ≡ keywords_from k (argument_trees xs)
keywords_first xs k e = ap (λ (l : Keywords). keywords_from l (argument_trees xs)) (sym e)

keywords_next : (xs : List Argument) (k : Keywords) (i : ℕ) (x : Argument) (o : Option Keywords)
    → keywords_from nothing_given (argument_trees xs) ≡ keywords_from k (argument_trees (drop i xs)) → i < length xs → x ≡ get_or xs i x
    → o ≡ with_argument k (argument_of x)
    → keywords_from nothing_given (argument_trees xs) ≡ option_and_then (λ next. keywords_from next (argument_trees (drop (i + 1) xs))) o
keywords_next xs k i x o h lt is e =
    h ∙ ap (keywords_from k) (trees_at xs i x lt is)
    ∙ ap (option_and_then (λ next. keywords_from next (argument_trees (drop (i + 1) xs)))) (sym e)

pub keywords_none : (xs : List Argument) (k : Keywords) (i : ℕ) (x : Argument)
    → keywords_from nothing_given (argument_trees xs) ≡ keywords_from k (argument_trees (drop i xs)) → i < length xs → x ≡ get_or xs i x
    → None ≡ with_argument k (argument_of x) → None ≡ keywords_from nothing_given (argument_trees xs)
keywords_none xs k i x h lt is e = sym (keywords_next xs k i x None h lt is e)

pub keywords_more : (xs : List Argument) (k next : Keywords) (i : ℕ) (x : Argument)
    → keywords_from nothing_given (argument_trees xs) ≡ keywords_from k (argument_trees (drop i xs)) → i < length xs → x ≡ get_or xs i x
    → Some next ≡ with_argument k (argument_of x)
    → keywords_from nothing_given (argument_trees xs) ≡ keywords_from next (argument_trees (drop (i + 1) xs))
keywords_more xs k next i x h lt is e = keywords_next xs k i x (Some next) h lt is e

pub keywords_end : (xs : List Argument) (k : Keywords) (i : ℕ)
    → keywords_from nothing_given (argument_trees xs) ≡ keywords_from k (argument_trees (drop i xs))
    → length xs ≤ i → Some k ≡ keywords_from nothing_given (argument_trees xs)
keywords_end xs k i h le = sym (h ∙ ap (keywords_from k) (trees_end xs i le))

-- ---- a call as a whole

listed_trees : (xs : List Argument) → list_of_arguments (argument_trees xs) ≡ map argument_of xs
listed_trees [] = refl
listed_trees (x ∷ xs) = ap (λ (ts : List ArgumentTree). argument_of x ∷ ts) (listed_trees xs)

abbrev told_twice : List ArgumentTree → Result Declaration RefusedData
told_twice ts = Err (refused_as (Twice (first_twice [] ts)))

abbrev told_left_out : List ArgumentTree → Result Declaration RefusedData
told_left_out ts = Err (refused_as (LeftOut (first_left_out ts)))

abbrev other : ℕ → List Argument → Result Declaration RefusedData
other line xs = or_fault (unfit (list_of_arguments (argument_trees xs))) (option_of line (argument_trees xs))

abbrev unless_left_out : ℕ → List Argument → Bool → Result Declaration RefusedData
unless_left_out line xs l = if l then told_left_out (list_of_arguments (argument_trees xs)) else other line xs

abbrev unless_twice : ℕ → List Argument → Bool → Result Declaration RefusedData
unless_twice line xs b =
    if b then told_twice (list_of_arguments (argument_trees xs)) else unless_left_out line xs (gives_left_out (argument_trees xs))

pub call_twice : (line : ℕ) (xs : List Argument) (b : Bool) → b ≡ gives_twice [] (argument_trees xs) → b ≡ true
    → Err (refused_as (Twice (first_twice [] (map argument_of xs)))) ≡ call_declares line (argument_trees xs)
call_twice line xs b e t = ap told_twice (sym (listed_trees xs)) ∙ ap (unless_twice line xs) (sym t ∙ e)

once : (line : ℕ) (xs : List Argument) (b : Bool) → b ≡ gives_twice [] (argument_trees xs) → b ≡ false
    → unless_left_out line xs (gives_left_out (argument_trees xs)) ≡ call_declares line (argument_trees xs)
once line xs b e f = ap (unless_twice line xs) (sym f ∙ e)

pub call_left_out : (line : ℕ) (xs : List Argument) (b l : Bool) → b ≡ gives_twice [] (argument_trees xs) → b ≡ false
    → l ≡ list_any (λ a. is_left_out_key (argument_of a).0) xs → l ≡ true
    → Err (refused_as (LeftOut (first_left_out (map argument_of xs)))) ≡ call_declares line (argument_trees xs)
call_left_out line xs b l e f g t =
    ap told_left_out (sym (listed_trees xs)) ∙ ap (unless_left_out line xs) (sym t ∙ g ∙ left_out_any xs) ∙ once line xs b e f

pub call_else : (line : ℕ) (xs : List Argument) (b l : Bool) (o : Option Declaration) → b ≡ gives_twice [] (argument_trees xs) → b ≡ false
    → l ≡ list_any (λ a. is_left_out_key (argument_of a).0) xs → l ≡ false → o ≡ option_of line (argument_trees xs)
    → or_fault (unfit (map argument_of xs)) o ≡ call_declares line (argument_trees xs)
call_else line xs b l o e f g n is =
    ap (λ (ts : List ArgumentTree). or_fault (unfit ts) o) (sym (listed_trees xs))
    ∙ ap (or_fault (unfit (list_of_arguments (argument_trees xs)))) is
    ∙ ap (unless_left_out line xs) (sym n ∙ g ∙ left_out_any xs)
    ∙ once line xs b e f
