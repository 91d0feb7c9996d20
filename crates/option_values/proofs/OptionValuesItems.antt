-- Lists of texts, item by item.
use Rattle.std.proofs.Common.{◌≡◌, ℕ, ◌+◌, ◌<◌, List, [], ◌∷◌, ◌++◌, length, drop, get_or, map, String, string_bytes, refl, sym, ap}
use Rattle.std.proofs.Common.{◌∙◌, arith, append_assoc}
use Rattle.std.specs.Prelude.{◌&&◌, ◌==◌, codes}
use Rattle.std.specs.List.{list_all, slice_split}
use Rattle.std.specs.declared.alloc.Global.{Global}
use Rattle.std.proofs.lemmas.List.{at_drop_more, map-append}
use Rattle.syntax.specs.lexer.Bytes.{comma}
use Rattle.option_values.specs.Given.{quoted_texts}
use Rattle.option_values.specs.Lists.{without_spaces, parts_of}
use Rattle.support.specs.Among.{is_among}
use Rattle.option_values.specs.View.{strings_in}

pub all_items : (choices : List (List ℕ)) (items : List (String Global))
    → list_all (λ item. is_among choices (string_bytes item)) items ≡ list_all (is_among choices) (strings_in items)
all_items choices [] = refl
all_items choices (x ∷ xs) = ap (λ b. is_among choices (string_bytes x) && b) (all_items choices xs)

join_quoted : (text sep q x rest : List ℕ) → ((((text ++ sep) ++ q) ++ x) ++ q) ++ rest ≡ text ++ (sep ++ (q ++ (x ++ (q ++ rest))))
join_quoted text sep q x rest =
    append_assoc (((text ++ sep) ++ q) ++ x) q rest
    ∙ append_assoc ((text ++ sep) ++ q) x (q ++ rest)
    ∙ append_assoc (text ++ sep) q (x ++ (q ++ rest))
    ∙ append_assoc text sep (q ++ (x ++ (q ++ rest)))

pub printed_more : (items : List (String Global)) (text more sep whole : List ℕ) (d : String Global) (i : ℕ) → i < length items
    → text ++ quoted_texts sep (strings_in (drop i items)) ≡ whole
    → more ≡ (((text ++ sep) ++ codes "'") ++ string_bytes (get_or items i d)) ++ codes "'"
    → more ++ quoted_texts (codes ", ") (strings_in (drop (i + 1) items)) ≡ whole
printed_more items text more sep whole d i l h m =
    ap (λ t. t ++ quoted_texts (codes ", ") (strings_in (drop (i + 1) items))) m
    ∙ join_quoted text sep (codes "'") (string_bytes (get_or items i d)) (quoted_texts (codes ", ") (strings_in (drop (i + 1) items)))
    ∙ sym (at_drop_more (λ xs. text ++ quoted_texts sep (strings_in xs)) items i d l)
    ∙ h

pub parts_more : (all : List (List ℕ)) (made more : List (String Global)) (s : String Global) (part : List ℕ) (n m : ℕ)
    (whole : List (List ℕ))
    → (n < length all) × (part ≡ get_or all n part) → strings_in made ++ map without_spaces (drop n all) ≡ whole
    → string_bytes s ≡ without_spaces part
    → more ≡ made ++ s ∷ [] → m ≡ n + 1 → strings_in more ++ map without_spaces (drop m all) ≡ whole
parts_more all made more s part n m whole at h e p l =
    ap (λ k. strings_in more ++ map without_spaces (drop k all)) l
    ∙ ap (λ xs. strings_in xs ++ map without_spaces (drop (n + 1) all)) p
    ∙ ap (λ xs. xs ++ map without_spaces (drop (n + 1) all)) (map-append string_bytes made (s ∷ []))
    ∙ append_assoc (strings_in made) (string_bytes s ∷ []) (map without_spaces (drop (n + 1) all))
    ∙ ap (λ x. strings_in made ++ x ∷ map without_spaces (drop (n + 1) all)) (e ∙ ap without_spaces at.1)
    ∙ sym (at_drop_more (λ xs. strings_in made ++ map without_spaces xs) all n part at.0)
    ∙ h

pub parts_of-some : (text : List ℕ) → 0 < length text → parts_of text ≡ map without_spaces (slice_split (λ c. c == comma) text)
parts_of-some [] l = absurd (omega arith)
parts_of-some (b ∷ bs) l = refl
