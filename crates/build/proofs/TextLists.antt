-- Lists of texts.
use Rattle.std.proofs.Common.{◌≡◌, ℕ, ◌+◌, Bool, true, false, List, [], ◌∷◌, ◌++◌, length, map, take, get_or, ◌<◌, string_bytes, bytes_eq}
use Rattle.std.proofs.Common.{String, refl, sym, ap, ◌∙◌, append_assoc}
use Rattle.std.specs.Prelude.{◌||◌, ◌&&◌, if◌then◌else◌, string_eq}
use Rattle.std.specs.List.{list_any, list_all}
use Rattle.std.specs.Global.{Global}
use Rattle.std.proofs.lemmas.List.{take_more, map-append}
use Rattle.support.specs.Sets.{insert_key}
use Rattle.build.specs.edge.Texts.{Text, texts, holds, put_new, put_all_new}

pub list_any-map : {X Y : Type 0} (p : Y → Bool) (f : X → Y) (xs : List X) → list_any p (map f xs) ≡ list_any (λ x. p (f x)) xs
list_any-map p f [] = refl
list_any-map p f (x ∷ xs) = ap (λ b. p (f x) || b) (list_any-map p f xs)

pub holds-texts : (k : String Global) (ks : List (String Global)) → list_any (string_eq k) ks ≡ holds (string_bytes k) (texts ks)
holds-texts k ks = sym (list_any-map (bytes_eq (string_bytes k)) string_bytes ks)

pub texts-list_all : (p : Text → Bool) (ss : List (String Global)) → list_all p (texts ss) ≡ list_all (λ s. p (string_bytes s)) ss
texts-list_all p [] = refl
texts-list_all p (s ∷ ss) = ap (λ b. p (string_bytes s) && b) (texts-list_all p ss)

put_all_new-push : (kept ts : List Text) (t : Text) → put_all_new kept (ts ++ t ∷ []) ≡ put_new (put_all_new kept ts) t
put_all_new-push kept [] t = refl
put_all_new-push kept (x ∷ ts) t = put_all_new-push (put_new kept x) ts t

texts-branch : (b : Bool) (ks : List (String Global)) (k : String Global) → texts (if b then ks else ks ++ k ∷ []) ≡ (if b then texts ks else texts ks ++ string_bytes k ∷ [])
texts-branch true ks k = refl
texts-branch false ks k = map-append string_bytes ks (k ∷ [])

pub texts-insert_key : (ks : List (String Global)) (k : String Global) → texts (insert_key string_eq ks k) ≡ put_new (texts ks) (string_bytes k)
texts-insert_key ks k = texts-branch (list_any (string_eq k) ks) ks k ∙ ap (λ b. if b then texts ks else texts ks ++ string_bytes k ∷ []) (holds-texts k ks)

-- one text more
pub kept_more : (ks new all : List (String Global)) (k : String Global) (i : ℕ) (item : String Global) → i < length all → item ≡ get_or all i item → string_bytes k ≡ string_bytes item
    → new ≡ insert_key string_eq ks k → texts ks ≡ put_all_new [] (texts (take i all)) → texts new ≡ put_all_new [] (texts (take (i + 1) all))
kept_more ks new all k i item h at same e so_far =
    ap texts e ∙ texts-insert_key ks k
    ∙ ap (put_new (texts ks)) (same ∙ ap string_bytes at)
    ∙ ap (λ l. put_new l (string_bytes (get_or all i item))) so_far
    ∙ sym (put_all_new-push [] (texts (take i all)) (string_bytes (get_or all i item)))
    ∙ ap (put_all_new []) (sym (ap texts (take_more all i item h) ∙ map-append string_bytes (take i all) (get_or all i item ∷ [])))

-- the same of a list in place of a set
pub few_more : (ks new all : List (String Global)) (i : ℕ) (item : String Global) → i < length all → item ≡ get_or all i item
    → texts new ≡ put_new (texts ks) (string_bytes item) → texts ks ≡ put_all_new [] (texts (take i all)) → texts new ≡ put_all_new [] (texts (take (i + 1) all))
few_more ks new all i item h at e so_far =
    e
    ∙ ap (put_new (texts ks)) (ap string_bytes at)
    ∙ ap (λ l. put_new l (string_bytes (get_or all i item))) so_far
    ∙ sym (put_all_new-push [] (texts (take i all)) (string_bytes (get_or all i item)))
    ∙ ap (put_all_new []) (sym (ap texts (take_more all i item h) ∙ map-append string_bytes (take i all) (get_or all i item ∷ [])))

-- one more made of a text, behind those made of the texts before it
pub mapped_more : {X Z : Type 0} (g : X → Z) (f : Text → Z) (front : List Z) (xs new : List X) (x : X) (ys : List (String Global)) (i : ℕ) (y : String Global)
    → i < length ys → y ≡ get_or ys i y → g x ≡ f (string_bytes y) → new ≡ xs ++ x ∷ [] → map g xs ≡ front ++ map f (texts (take i ys))
    → map g new ≡ front ++ map f (texts (take (i + 1) ys))
mapped_more g f front xs new x ys i y lt at made is so_far =
    let item = get_or ys i y in
    ap (map g) is ∙ map-append g xs (x ∷ [])
    ∙ ap (λ z. map g xs ++ z ∷ []) (made ∙ ap (λ k. f (string_bytes k)) at)
    ∙ ap (λ l. l ++ f (string_bytes item) ∷ []) so_far
    ∙ append_assoc front (map f (texts (take i ys))) (f (string_bytes item) ∷ [])
    ∙ ap (λ l. front ++ l) (sym (ap (λ l. map f (texts l)) (take_more ys i y lt) ∙ ap (map f) (map-append string_bytes (take i ys) (item ∷ []))
    ∙ map-append f (texts (take i ys)) (string_bytes item ∷ [])))
