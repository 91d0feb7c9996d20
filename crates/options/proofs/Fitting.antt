-- What is a value of an option is one of its type.
use Rattle.std.proofs.Common.{◌≡◌, ℕ, ℤ, Bool, true, false, List, [], ◌∷◌, ◌++◌, Option, Some, None, refl, sym, ap, ◌∙◌, append_assoc}
use Rattle.std.specs.Prelude.{◌||◌, bytes_eq, if◌then◌else◌}
use Rattle.std.specs.List.{list_any, list_all}
use Rattle.std.specs.Option.{option_map, option_and_then, unwrap_or}
use Rattle.std.proofs.lemmas.Slice.Eq.{bytes_eq-Decides}
use Rattle.support.specs.Among.{is_among}
use Rattle.machine_file.specs.Values as written
use Rattle.option_values.specs.Given.{value_of_items, value_of_given, printed_list, boolean_text}
use Rattle.option_values.specs.Integers.{is_within, bounded_integer, integer_of}
use Rattle.option_values.specs.declared.kind.FeatureState.{FeatureState}
use Rattle.option_values.specs.Kinds as kind
use Rattle.option_values.specs.Lists.{are_among, items_of, word_items_of}
use Rattle.option_values.specs.Texts.{boolean_of, state_of, array_of, value_of}
use Rattle.option_values.specs.Values as value
use Rattle.options.specs.option_file.Declarations.{Declaration}
use Rattle.options.specs.option_file.Given as given
use Rattle.options.specs.Defaults as default
use Rattle.options.specs.Defaults.{default_of}
use Rattle.options.specs.Laws.{fits}
use Rattle.options.proofs.Bools.{both}

-- where there is a value, it is one of this
abbrev pub maybe_fits : kind.Kind → Option value.Value → Bool
maybe_fits k None = true
maybe_fits k (Some v) = fits k v

boolean_fits : (o : Option Bool) → maybe_fits kind.Boolean (option_map value.Boolean o) ≡ true
boolean_fits None = refl
boolean_fits (Some b) = refl

words_fit : (o : Option (List (List ℕ))) → maybe_fits kind.Words (option_map value.Array o) ≡ true
words_fit None = refl
words_fit (Some items) = refl

choice_fits : (choices : List (List ℕ)) (text : List ℕ) (b : Bool) → is_among choices text ≡ b
    → maybe_fits (kind.Combo choices) (if b then Some (value.Combo text) else None) ≡ true
choice_fits choices text true e = e
choice_fits choices text false e = refl

within_fits : (least greatest : Option ℤ) (n : ℤ) (b : Bool) → is_within least greatest n ≡ b
    → maybe_fits (kind.Integer least greatest) (option_map value.Integer (if b then Some n else None)) ≡ true
within_fits least greatest n true e = e
within_fits least greatest n false e = refl

integer_fits : (least greatest : Option ℤ) (o : Option ℤ)
    → maybe_fits (kind.Integer least greatest) (option_map value.Integer (option_and_then (bounded_integer least greatest) o)) ≡ true
integer_fits least greatest None = refl
integer_fits least greatest (Some n) = within_fits least greatest n (is_within least greatest n) refl

array_cases : (choices : Option (List (List ℕ))) (items : List (List ℕ)) (b : Bool) → are_among choices items ≡ b
    → maybe_fits (kind.Array choices) (if b then Some (value.Array items) else None) ≡ true
array_cases choices items true e = e
array_cases choices items false e = refl

array_fits : (choices : Option (List (List ℕ))) (items : List (List ℕ)) → maybe_fits (kind.Array choices) (array_of choices items) ≡ true
array_fits choices items = array_cases choices items (are_among choices items) refl

array_maybe : (choices : Option (List (List ℕ))) (o : Option (List (List ℕ)))
    → maybe_fits (kind.Array choices) (option_and_then (array_of choices) o) ≡ true
array_maybe choices None = refl
array_maybe choices (Some items) = array_fits choices items

value_fits : (k : kind.Kind) (text : List ℕ) → maybe_fits k (value_of k text) ≡ true
value_fits kind.Text text = refl
value_fits kind.Boolean text = boolean_fits (boolean_of text)
value_fits (kind.Combo choices) text = choice_fits choices text (is_among choices text) refl
value_fits (kind.Integer least greatest) text = integer_fits least greatest (integer_of text)
value_fits (kind.Array choices) text = array_maybe choices (items_of text)
value_fits kind.Words text = words_fit (word_items_of text)
value_fits kind.Feature text = state_fits (state_of text)
  where
    state_fits : (o : Option FeatureState) → maybe_fits kind.Feature (option_map value.Feature o) ≡ true
    state_fits None = refl
    state_fits (Some state) = refl

items_fit : (k : kind.Kind) (items : List (List ℕ)) → maybe_fits k (value_of_items k items) ≡ true
items_fit kind.Text items = value_fits kind.Text (printed_list items)
items_fit kind.Boolean items = value_fits kind.Boolean (printed_list items)
items_fit (kind.Combo choices) items = value_fits (kind.Combo choices) (printed_list items)
items_fit (kind.Integer least greatest) items = value_fits (kind.Integer least greatest) (printed_list items)
items_fit (kind.Array choices) items = array_fits choices items
items_fit kind.Words items = refl
items_fit kind.Feature items = value_fits kind.Feature (printed_list items)

pub given_fits : (k : kind.Kind) (what : written.Value) → maybe_fits k (value_of_given k what) ≡ true
given_fits k (written.Text text) = value_fits k text
given_fits k (written.Integer n) = value_fits k _
given_fits k (written.Boolean b) = value_fits k (boolean_text b)
given_fits k (written.Texts items) = items_fit k items

-- ---- declared values

is_itself : (text : List ℕ) → bytes_eq text text ≡ true
is_itself text = (bytes_eq-Decides text text).1 refl

any_later : {A : Type 0} (p : A → Bool) (before : List A) (x : A) (xs : List A) → p x ≡ true → list_any p (before ++ x ∷ xs) ≡ true
any_later p [] x xs e = ap (λ (b : Bool). b || list_any p xs) e
any_later p (y ∷ ys) x xs e = or_true (p y) (list_any p (ys ++ x ∷ xs)) (any_later p ys x xs e)
  where
    or_true : (a b : Bool) → b ≡ true → (a || b) ≡ true
    or_true true b e = refl
    or_true false b e = e

all_themselves : (before xs : List (List ℕ)) → list_all (is_among (before ++ xs)) xs ≡ true
all_themselves before [] = refl
all_themselves before (x ∷ xs) =
    both (is_among (before ++ x ∷ xs) x) (list_all (is_among (before ++ x ∷ xs)) xs)
    (any_later (λ choice. bytes_eq x choice) before x xs (is_itself x))
    (ap (λ (all : List (List ℕ)). list_all (is_among all) xs) (sym (append_assoc before (x ∷ []) xs))
    ∙ all_themselves (before ++ x ∷ []) xs)

first_fits : (choices : List (List ℕ)) → maybe_fits (kind.Combo choices) (default.first_of choices) ≡ true
first_fits [] = refl
first_fits (x ∷ xs) = any_later (λ choice. bytes_eq x choice) [] x xs (is_itself x)

all_fit_array : (choices : Option (List (List ℕ))) → are_among choices (unwrap_or choices []) ≡ true
all_fit_array None = refl
all_fit_array (Some xs) = all_themselves [] xs

kind_fits : (k : kind.Kind) → maybe_fits k (default.value_of_kind k) ≡ true
kind_fits kind.Text = refl
kind_fits kind.Boolean = refl
kind_fits (kind.Combo choices) = first_fits choices
kind_fits (kind.Integer least greatest) = refl
kind_fits (kind.Array choices) = all_fit_array choices
kind_fits kind.Words = refl
kind_fits kind.Feature = refl

boolean_declared : (k : kind.Kind) (b : Bool) → maybe_fits k (default.boolean_of k b) ≡ true
boolean_declared kind.Boolean b = refl
boolean_declared kind.Text b = refl
boolean_declared (kind.Combo choices) b = refl
boolean_declared (kind.Integer least greatest) b = refl
boolean_declared (kind.Array choices) b = refl
boolean_declared kind.Words b = refl
boolean_declared kind.Feature b = refl

integer_cases : (least greatest : Option ℤ) (n : ℤ) (b : Bool) → is_within least greatest n ≡ b
    → maybe_fits (kind.Integer least greatest) (if b then Some (value.Integer n) else None) ≡ true
integer_cases least greatest n true e = e
integer_cases least greatest n false e = refl

integer_declared : (k : kind.Kind) (n : ℤ) → maybe_fits k (default.integer_of k n) ≡ true
integer_declared (kind.Integer least greatest) n = integer_cases least greatest n (is_within least greatest n) refl
integer_declared kind.Text n = refl
integer_declared kind.Boolean n = refl
integer_declared (kind.Combo choices) n = refl
integer_declared (kind.Array choices) n = refl
integer_declared kind.Words n = refl
integer_declared kind.Feature n = refl

items_declared : (k : kind.Kind) (items : List (List ℕ)) → maybe_fits k (default.items_of k items) ≡ true
items_declared (kind.Array choices) items = array_fits choices items
items_declared kind.Text items = refl
items_declared kind.Boolean items = refl
items_declared (kind.Combo choices) items = refl
items_declared (kind.Integer least greatest) items = refl
items_declared kind.Words items = refl
items_declared kind.Feature items = refl

declared_fits : (k : kind.Kind) (o : Option given.Given) → maybe_fits k (default.value_or_kind k o) ≡ true
declared_fits k None = kind_fits k
declared_fits k (Some (given.Text text)) = value_fits k text
declared_fits k (Some (given.Boolean b)) = boolean_declared k b
declared_fits k (Some (given.Integer n)) = integer_declared k n
declared_fits k (Some (given.Texts items)) = items_declared k items
declared_fits k (Some given.Other) = refl

pub default_fits : (d : Declaration) → maybe_fits d.kind (default.default_of d) ≡ true
unfolding default_of
default_fits d = declared_fits d.kind d.value
