-- Names of keywords: put into a set, or held against those before them.
use Rattle.std.proofs.Common.{◌≡◌, ℕ, ◌+◌, ◌<◌, Bool, true, false, List, [], ◌∷◌, ◌++◌, map, take, drop, get_or, length, String}
use Rattle.std.proofs.Common.{string_bytes, Some, refl, sym, ap, ◌∙◌}
use Rattle.std.proofs.lemmas.List.{drop_more, map-append, take_more}
use Rattle.std.specs.Prelude.{◌||◌, bytes_eq}
use Rattle.std.specs.List.{list_any}
use Rattle.std.specs.declared.alloc.Global.{Global}
use Rattle.arguments.specs.Arguments.{named_data}
use Rattle.arguments.specs.Misfits.{Twice, again}
use Rattle.arguments.specs.declared.arguments.Named.{Named}

pub any_name : (name : List ℕ) (ns : List (String Global)) → list_any (λ n. bytes_eq name (string_bytes n)) ns ≡ list_any (bytes_eq name) (map string_bytes ns)
any_name name [] = refl
any_name name (n ∷ ns) = ap (λ (b : Bool). bytes_eq name (string_bytes n) || b) (any_name name ns)

abbrev pub names_in : List Named → List (List ℕ)
names_in ns = map (λ n. n.name) ns

-- the name is that of one of these
abbrev pub is_one_of : List ℕ → List Named → Bool
is_one_of name ns = list_any (λ n. bytes_eq name n.name) ns

any_named : (name : List ℕ) (ns : List Named) → is_one_of name ns ≡ list_any (bytes_eq name) (names_in ns)
any_named name [] = refl
any_named name (n ∷ ns) = ap (λ (b : Bool). bytes_eq name n.name || b) (any_named name ns)

keyword_at : (ns : List Named) (i : ℕ) (x : Named) → i < length ns → x ≡ get_or ns i x → drop i ns ≡ x ∷ drop (i + 1) ns
keyword_at ns i x within is = drop_more ns i x within ∙ ap (λ y. y ∷ drop (i + 1) ns) (sym is)

-- the keyword at a place, where its name stands before it
pub comes_again : (ns : List Named) (i : ℕ) (x : Named) (name : List ℕ) → i < length ns → x ≡ get_or ns i x → name ≡ x.name
    → is_one_of name (take i ns) ≡ true → Some (Twice name) ≡ again (names_in (take i ns)) (map named_data (drop i ns))
comes_again ns i x name within at is before =
    let known : is_one_of x.name (take i ns) ≡ true = ap (λ t. is_one_of t (take i ns)) (sym is) ∙ before in
    rw (keyword_at ns i x within at, is, sym (any_named x.name (take i ns)) ∙ known) refl

-- and where it does not
pub goes_on : (ns : List Named) (i : ℕ) (x : Named) (name : List ℕ) → i < length ns → x ≡ get_or ns i x → name ≡ x.name
    → is_one_of name (take i ns) ≡ false
    → again (names_in (take (i + 1) ns)) (map named_data (drop (i + 1) ns)) ≡ again (names_in (take i ns)) (map named_data (drop i ns))
goes_on ns i x name within at is before =
    let known : is_one_of x.name (take i ns) ≡ false = ap (λ t. is_one_of t (take i ns)) (sym is) ∙ before in
    let names : names_in (take (i + 1) ns) ≡ names_in (take i ns) ++ x.name ∷ [] =
    ap names_in (take_more ns i x within) ∙ map-append (λ n. n.name) (take i ns) (get_or ns i x ∷ [])
    ∙ ap (λ y. names_in (take i ns) ++ y.name ∷ []) (sym at) in
    rw (keyword_at ns i x within at, names, sym (any_named x.name (take i ns)) ∙ known) refl
