-- Pieces, and the text that they make.
use Rattle.std.proofs.Common.{◌≡◌, ℕ, Bool, true, false, List, [], ◌∷◌, ◌++◌, codes, refl, sym, ap, ◌∙◌, append_assoc}
use Rattle.std.specs.List.{flat_map}
use Rattle.std.specs.Fmt.{signed_decimal}
use Rattle.std.proofs.lemmas.List.{append-nil}
use Rattle.values.specs.Data.{Data, boolean, integer, text, list, dictionary, object, Items, no_items, item, Entries, no_entries, entry}
use Rattle.values.specs.Data.{entry_values, keys_in}
use Rattle.values.specs.View.{data_of, items_of, entries_of}
use Rattle.values.specs.declared.value.Value.{Value}
use Rattle.values.specs.printing.Printed.{text_of_value, inside, quoted_text, comma_list, item_texts, entry_texts, boolean_text}
use Rattle.values.specs.printing.Pieces.{pieces, inside_pieces, item_pieces, entry_pieces, separator, whole}
use Rattle.values.specs.printing.Parts.{remaining_pieces, part_pieces}
use Rattle.values.specs.declared.printing.pieces.Part.{Part}

-- ---- parts on the stack

pub left_push : (ps : List Part) (p : Part) → remaining_pieces (ps ++ p ∷ []) ≡ part_pieces p ++ remaining_pieces ps
left_push [] p = sym (append-nil (part_pieces p))
left_push (q ∷ ps) p = ap (λ x. x ++ part_pieces q) (left_push ps p) ∙ append_assoc (part_pieces p) (remaining_pieces ps) (part_pieces q)

-- ---- the entries of a dictionary, by its keys and values

pub entries_of_both : (es : Entries) (vs : List Value) → items_of vs ≡ entry_values es → entries_of (keys_in es) vs ≡ es
entries_of_both no_entries vs e = refl
entries_of_both (entry k d es) [] e = absurd cc
entries_of_both (entry k d es) (v ∷ vs) e =
    let rest : items_of vs ≡ entry_values es = cc in
    let value : data_of v ≡ d = cc in
    ap (λ x. entry k x (entries_of (keys_in es) vs)) value ∙ ap (entry k d) (entries_of_both es vs rest)

-- ---- what the pieces make

whole-append : (ps qs : List (List ℕ)) → whole (ps ++ qs) ≡ whole ps ++ whole qs
whole-append [] qs = refl
whole-append (p ∷ ps) qs = ap (λ x. p ++ x) (whole-append ps qs) ∙ sym (append_assoc p (whole ps) (whole qs))

-- texts with a comma and a space between each two, and in front of the first unless it is the first of all
abbrev rest : Bool → List (List ℕ) → List ℕ
rest true ts = comma_list ts
rest false ts = flat_map (λ next. codes ", " ++ next) ts

one_more : (is_first : Bool) (t end more : List ℕ) (ts : List (List ℕ)) → more ≡ rest false ts ++ end
    → separator is_first ++ (t ++ more) ≡ rest is_first (t ∷ ts) ++ end
one_more true t end more ts is = ap (λ x. t ++ x) is ∙ sym (append_assoc t (rest false ts) end)
one_more false t end more ts is =
    ap (λ x. codes ", " ++ (t ++ x)) is ∙ ap (λ x. codes ", " ++ x) (sym (append_assoc t (rest false ts) end))
    ∙ sym (append_assoc (codes ", ") (t ++ rest false ts) end)
    ∙ ap (λ x. x ++ end) (sym (append_assoc (codes ", ") t (rest false ts)))

key_whole : (k t more : List ℕ) → codes "'" ++ (k ++ (codes "' : " ++ (t ++ more))) ≡ ((quoted_text k ++ codes " : ") ++ t) ++ more
key_whole k t more =
    ap (λ x. codes "'" ++ x) (sym (append_assoc k (codes "'") (codes " : " ++ (t ++ more))))
    ∙ sym (append_assoc (quoted_text k) (codes " : ") (t ++ more))
    ∙ sym (append_assoc (quoted_text k ++ codes " : ") t more)

one_entry : (is_first : Bool) (k t end more : List ℕ) (ts : List (List ℕ)) → more ≡ rest false ts ++ end
    → (separator is_first ++ codes "'") ++ (k ++ (codes "' : " ++ (t ++ more))) ≡ rest is_first (((quoted_text k ++ codes " : ") ++ t) ∷ ts) ++ end
one_entry is_first k t end more ts is =
    append_assoc (separator is_first) (codes "'") (k ++ (codes "' : " ++ (t ++ more)))
    ∙ ap (λ x. separator is_first ++ x) (key_whole k t more)
    ∙ one_more is_first ((quoted_text k ++ codes " : ") ++ t) end more ts is

mutual
  whole_inside : (d : Data) → whole (inside_pieces d) ≡ inside d
  whole_inside (boolean b) = append-nil (boolean_text b)
  whole_inside (integer z) = append-nil (signed_decimal z)
  whole_inside (text t) = refl
  whole_inside (list ds) = ap (λ x. codes "[" ++ x) (whole_items true ds)
  whole_inside (dictionary es) = ap (λ x. codes "{" ++ x) (whole_entries true es)
  whole_inside (object o) = refl

  whole_items : (is_first : Bool) (ds : Items) → whole (item_pieces is_first ds) ≡ rest is_first (item_texts ds) ++ codes "]"
  whole_items true no_items = refl
  whole_items false no_items = refl
  whole_items is_first (item d ds) =
      ap (λ x. separator is_first ++ x) (whole-append (inside_pieces d) (item_pieces false ds)
      ∙ ap (λ x. x ++ whole (item_pieces false ds)) (whole_inside d))
      ∙ one_more is_first (inside d) (codes "]") (whole (item_pieces false ds)) (item_texts ds) (whole_items false ds)

  whole_entries : (is_first : Bool) (es : Entries) → whole (entry_pieces is_first es) ≡ rest is_first (entry_texts es) ++ codes "}"
  whole_entries true no_entries = refl
  whole_entries false no_entries = refl
  whole_entries is_first (entry k d es) =
      ap (λ x. (separator is_first ++ codes "'") ++ (k ++ (codes "' : " ++ x))) (whole-append (inside_pieces d) (entry_pieces false es)
      ∙ ap (λ x. x ++ whole (entry_pieces false es)) (whole_inside d))
      ∙ one_entry is_first k (inside d) (codes "}") (whole (entry_pieces false es)) (entry_texts es) (whole_entries false es)

pub whole_pieces : (d : Data) → whole (pieces d) ≡ text_of_value d
whole_pieces (boolean b) = whole_inside (boolean b)
whole_pieces (integer z) = whole_inside (integer z)
whole_pieces (text t) = append-nil t
whole_pieces (list ds) = whole_inside (list ds)
whole_pieces (dictionary es) = whole_inside (dictionary es)
whole_pieces (object o) = whole_inside (object o)
