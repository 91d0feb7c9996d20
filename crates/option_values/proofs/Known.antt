-- Texts that are put into a set.
use Rattle.std.proofs.Common.{◌≡◌, ℕ, ◌+◌, ◌<◌, Bool, true, false, List, [], ◌∷◌, ◌++◌, length, take, get_or, String, string_bytes, refl}
use Rattle.std.proofs.Common.{sym, ap, ◌∙◌, if◌then◌else◌}
use Rattle.std.specs.Prelude.{◌||◌, bytes_eq}
use Rattle.std.specs.List.{list_any}
use Rattle.std.specs.declared.alloc.Global.{Global}
use Rattle.std.specs.String.{string_eq}
use Rattle.std.proofs.lemmas.List.{map-append, take_more}
use Rattle.std.proofs.lemmas.Slice.Eq.{bytes_eq-Decides}
use Rattle.support.specs.Sets.{insert_key}
use Rattle.support.specs.Among.{is_among}
use Rattle.option_values.specs.View.{strings_in}

pub any_string : (text : List ℕ) (xs : List (String Global))
    → list_any (λ x. bytes_eq text (string_bytes x)) xs ≡ is_among (strings_in xs) text
any_string text [] = refl
any_string text (x ∷ xs) = ap (λ b. bytes_eq text (string_bytes x) || b) (any_string text xs)

assoc_or : (a b c : Bool) → (a || (b || c)) ≡ ((a || b) || c)
assoc_or true b c = refl
assoc_or false b c = refl

or_nothing : (a : Bool) → (a || false) ≡ a
or_nothing true = refl
or_nothing false = refl

or_self : (a b : Bool) → (b ≡ true → a ≡ true) → a ≡ (a || b)
or_self true b h = refl
or_self false true h = h refl
or_self false false h = refl

pub among_more : (xs : List (List ℕ)) (x text : List ℕ) → is_among (xs ++ x ∷ []) text ≡ (is_among xs text || bytes_eq text x)
among_more [] x text = or_nothing (bytes_eq text x)
among_more (y ∷ ys) x text =
    ap (λ b. bytes_eq text y || b) (among_more ys x text) ∙ assoc_or (bytes_eq text y) (is_among ys text) (bytes_eq text x)

-- a text that is put among others stands there
pub known_more : (known : List (String Global)) (s : String Global) (text : List ℕ)
    → is_among (strings_in (insert_key string_eq known s)) text ≡ (is_among (strings_in known) text || bytes_eq text (string_bytes s))
known_more known s text = put (list_any (string_eq s) known) refl
  where
    put : (b : Bool) → list_any (string_eq s) known ≡ b
        → is_among (strings_in (if b then known else known ++ s ∷ [])) text
        ≡ (is_among (strings_in known) text || bytes_eq text (string_bytes s))
    put true e = or_self (is_among (strings_in known) text) (bytes_eq text (string_bytes s))
        (λ same. ap (is_among (strings_in known)) ((bytes_eq-Decides text (string_bytes s)).0 same)
        ∙ sym (any_string (string_bytes s) known) ∙ e)
    put false e = ap (λ xs. is_among xs text) (map-append string_bytes known (s ∷ [])) ∙ among_more (strings_in known) (string_bytes s) text

-- one more of the texts
pub known_next : (known more texts : List (String Global)) (s d : String Global) (i : ℕ) (text : List ℕ)
    → is_among (strings_in known) text ≡ is_among (strings_in (take i texts)) text → i < length texts
    → string_bytes s ≡ string_bytes (get_or texts i d) → more ≡ insert_key string_eq known s
    → is_among (strings_in more) text ≡ is_among (strings_in (take (i + 1) texts)) text
known_next known more texts s d i text h l e m =
    ap (λ xs. is_among (strings_in xs) text) m ∙ known_more known s text
    ∙ ap (λ b. b || bytes_eq text (string_bytes s)) h
    ∙ ap (λ b. is_among (strings_in (take i texts)) text || bytes_eq text b) e
    ∙ sym (among_more (strings_in (take i texts)) (string_bytes (get_or texts i d)) text)
    ∙ sym (ap (λ xs. is_among xs text) (ap strings_in (take_more texts i d l)
    ∙ map-append string_bytes (take i texts) (get_or texts i d ∷ [])))
