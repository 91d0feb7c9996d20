-- The items of a list, one by one.
use Rattle.std.proofs.Common.{◌≡◌, ℕ, ◌+◌, ◌<◌, ◌≤◌, List, [], ◌∷◌, ◌++◌, length, drop, get_or, Option, Some, None, String, string_bytes}
use Rattle.std.proofs.Common.{map, refl, sym, ap, ◌∙◌, append_assoc, arith}
use Rattle.std.specs.Option.{option_map}
use Rattle.std.specs.declared.alloc.Global.{Global}
use Rattle.std.proofs.lemmas.List.{append-nil, map-append}
use Rattle.syntax.specs.declared.tree.Expression.{Expression}
use Rattle.syntax.specs.ExpressionTree.{ExpressionTree, expression_of, expressions}
use Rattle.option_values.specs.View.{strings_in}
use Rattle.options.specs.declared.option_file.declaration.DeclaredValue.{DeclaredValue as Written}
use Rattle.options.specs.declared.option_file.declaration.DeclaredValue.TheVariants as written
use Rattle.options.specs.option_file.Given.{Given, Texts, Other, item_given, items_given, in_front, texts_in, texts_or_other, list_given}
use Rattle.options.specs.option_file.View.{given_in}
use Rattle.options.proofs.Walks.{next_is, none_is}

-- the items found so far in front of those of the expressions that are left
abbrev pub found_in : List Written → List ExpressionTree → Option (List Given)
found_in all rest = option_map (λ others. map given_in all ++ others) (items_given (expressions rest))

abbrev pub found : List Written → List Expression → Option (List Given)
found all rest = found_in all (map expression_of rest)

pub found_first : (items : List Expression) (all : List Written) → all ≡ []
    → items_given (expressions (map expression_of items)) ≡ found all items
found_first items all e = same (items_given (expressions (map expression_of items))) ∙ ap (λ a. found a items) (sym e)
  where
    same : (o : Option (List Given)) → o ≡ option_map (λ others. [] ++ others) o
    same None = refl
    same (Some xs) = refl

pub item_none : (items : List Expression) (all : List Written) (i : ℕ) (x : Expression)
    → items_given (expressions (map expression_of items)) ≡ found all (drop i items)
    → i < length items → x ≡ get_or items i x → None ≡ item_given (expression_of x)
    → None ≡ items_given (expressions (map expression_of items))
item_none items all i x h lt is none =
    sym (h ∙ ap (found_in all) (next_is expression_of items i x lt is)
    ∙ ap (λ o. option_map (λ others. map given_in all ++ others)
    (in_front o (items_given (expressions (map expression_of (drop (i + 1) items)))))) (sym none))

join : (xs : List Given) (g : Given) (o : Option (List Given))
    → option_map (λ ys. xs ++ ys) (option_map (λ ys. g ∷ ys) o) ≡ option_map (λ ys. (xs ++ g ∷ []) ++ ys) o
join xs g None = refl
join xs g (Some ys) = ap (λ (zs : List Given). Some zs) (sym behind)
  where
    behind : (xs ++ g ∷ []) ++ ys ≡ xs ++ g ∷ ys
    behind = simp append_assoc

pub item_more : (items : List Expression) (all more : List Written) (i : ℕ) (x : Expression) (g : Written)
    → items_given (expressions (map expression_of items)) ≡ found all (drop i items)
    → i < length items → x ≡ get_or items i x → Some (given_in g) ≡ item_given (expression_of x) → more ≡ all ++ g ∷ []
    → items_given (expressions (map expression_of items)) ≡ found more (drop (i + 1) items)
item_more items all more i x g h lt is some m =
    h ∙ ap (found_in all) (next_is expression_of items i x lt is)
    ∙ ap (λ o. option_map (λ others. map given_in all ++ others)
    (in_front o (items_given (expressions (map expression_of (drop (i + 1) items)))))) (sym some)
    ∙ join (map given_in all) (given_in g) (items_given (expressions (map expression_of (drop (i + 1) items))))
    ∙ ap (λ xs. option_map (λ others. xs ++ others) (items_given (expressions (map expression_of (drop (i + 1) items)))))
    (sym (map-append given_in all (g ∷ [])))
    ∙ ap (λ a. found a (drop (i + 1) items)) (sym m)

pub items_end : (items : List Expression) (all : List Written) (i : ℕ)
    → items_given (expressions (map expression_of items)) ≡ found all (drop i items)
    → length items ≤ i → Some (map given_in all) ≡ items_given (expressions (map expression_of items))
items_end items all i h le =
    sym (h ∙ ap (found_in all) (none_is expression_of items i le) ∙ ap (λ (xs : List Given). Some xs) (append-nil (map given_in all)))

-- ---- the texts among what is given

-- the list that the texts so far and what is left are
abbrev pub listed : List (List ℕ) → List Given → Given
listed texts rest = texts_or_other (option_map (λ others. texts ++ others) (texts_in rest))

pub listed_first : (items rest : List Written) (texts : List (String Global)) → texts ≡ [] → rest ≡ items
    → list_given (map given_in items) ≡ listed (strings_in texts) (map given_in rest)
listed_first items rest texts e f =
    ap texts_or_other (same (texts_in (map given_in items)))
    ∙ ap (λ (ts : List (String Global)). listed (strings_in ts) (map given_in items)) (sym e)
    ∙ ap (λ (gs : List Written). listed (strings_in texts) (map given_in gs)) (sym f)
  where
    same : (o : Option (List (List ℕ))) → o ≡ option_map (λ others. [] ++ others) o
    same None = refl
    same (Some xs) = refl

other_first : (texts : List (List ℕ)) (item : Written) (rest : List Given) → ((text : String Global) → item ≡ written.Text text → ⊥)
    → listed texts (given_in item ∷ rest) ≡ Other
other_first texts (written.Text text) rest differs = absurd (differs text refl)
other_first texts (written.Boolean boolean) rest differs = refl
other_first texts (written.Integer number) rest differs = refl
other_first texts (written.Texts items) rest differs = refl
other_first texts written.Other rest differs = refl

pub listed_other : (items left after : List Written) (texts : List (String Global)) (item : Written)
    → list_given (map given_in items) ≡ listed (strings_in texts) (map given_in left) → left ≡ item ∷ after
    → ((text : String Global) → item ≡ written.Text text → ⊥) → Other ≡ list_given (map given_in items)
listed_other items left after texts item h e differs =
    sym (h ∙ ap (λ (gs : List Written). listed (strings_in texts) (map given_in gs)) e
    ∙ other_first (strings_in texts) item (map given_in after) differs)

joined : (texts : List (List ℕ)) (text : List ℕ) (o : Option (List (List ℕ)))
    → option_map (λ ys. texts ++ ys) (option_map (λ ys. text ∷ ys) o) ≡ option_map (λ ys. (texts ++ text ∷ []) ++ ys) o
joined texts text None = refl
joined texts text (Some ys) = ap (λ (zs : List (List ℕ)). Some zs) (sym behind)
  where
    behind : (texts ++ text ∷ []) ++ ys ≡ texts ++ text ∷ ys
    behind = simp append_assoc

pub listed_more : (items left after : List Written) (texts more : List (String Global)) (item : Written) (text : String Global)
    → list_given (map given_in items) ≡ listed (strings_in texts) (map given_in left) → left ≡ item ∷ after
    → item ≡ written.Text text → more ≡ texts ++ text ∷ [] → list_given (map given_in items) ≡ listed (strings_in more) (map given_in after)
listed_more items left after texts more item text h e is m =
    h ∙ ap (λ (gs : List Written). listed (strings_in texts) (map given_in gs)) (e ∙ ap (λ (g : Written). g ∷ after) is)
    ∙ ap texts_or_other (joined (strings_in texts) (string_bytes text) (texts_in (map given_in after)))
    ∙ ap (λ (ts : List (List ℕ)). listed ts (map given_in after)) (sym (map-append string_bytes texts (text ∷ [])))
    ∙ ap (λ (ts : List (String Global)). listed (strings_in ts) (map given_in after)) (sym m)

none_left : (left : List Written) → length left ≡ 0 → left ≡ []
none_left [] e = refl
none_left (g ∷ gs) e = absurd (omega arith)

pub listed_end : (items left : List Written) (texts : List (String Global))
    → list_given (map given_in items) ≡ listed (strings_in texts) (map given_in left)
    → length left ≡ 0 → Texts (strings_in texts) ≡ list_given (map given_in items)
listed_end items left texts h e =
    sym (h ∙ ap (λ (gs : List Written). listed (strings_in texts) (map given_in gs)) (none_left left e)
    ∙ ap Texts (append-nil (strings_in texts)))
