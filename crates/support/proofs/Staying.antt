-- Paths whose parts all stay.
use Rattle.std.proofs.Common.{◌≡◌, ℕ, Bool, true, false, cond, List, [], ◌∷◌, ◌++◌, reverse, Some, codes, refl, sym, ap, ◌∙◌, append_assoc}
use Rattle.std.proofs.Common.{append-nil, arith}
use Rattle.std.specs.Prelude.{not, ◌&&◌, ◌||◌}
use Rattle.std.specs.List.{list_all}
use Rattle.std.specs.Str.{bytes_eq}
use Rattle.std.proofs.lemmas.List.{reverse-append}
use Rattle.std.proofs.lemmas.List.Splits.{length-slice_split, join_with_byte-slice_split}
use Rattle.support.specs.paths.Paths.{and_then, follow_parts, path_of_parts, parts_of}
use Rattle.support.proofs.PathTexts.{named_parts}

abbrev pub stays : List ℕ → Bool
stays part = not (bytes_eq part [] || (bytes_eq part (codes ".") || bytes_eq part (codes "..")))

-- one part
stays_on : (folder : List (List ℕ)) (part : List ℕ) (empty here above : Bool) → not (empty || (here || above)) ≡ true
    → cond (empty || here) (Some folder) (cond above (Rattle.support.specs.paths.Paths.without_last folder) (Some (part ∷ folder))) ≡ Some (part ∷ folder)
stays_on folder part false false false h = refl
stays_on folder part true here above h = cc
stays_on folder part false true above h = cc
stays_on folder part false false true h = cc

both : (a b : Bool) → (a && b) ≡ true → (a ≡ true) × (b ≡ true)
both true b h = (refl, h)
both false b h = cc

reverse_on : (part : List ℕ) (parts folder : List (List ℕ)) → reverse parts ++ part ∷ folder ≡ reverse (part ∷ parts) ++ folder
reverse_on part parts folder = sym (append_assoc (reverse parts) (part ∷ []) folder) ∙ ap (λ l. l ++ folder) (sym (reverse-append (part ∷ []) parts))

follow_all : (folder parts : List (List ℕ)) → list_all stays parts ≡ true → follow_parts folder parts ≡ Some (reverse parts ++ folder)
follow_all folder [] h = refl
follow_all folder (part ∷ parts) h =
    let s = both (stays part) (list_all stays parts) h in
    ap (λ o. and_then o (λ next. follow_parts next parts)) (stays_on folder part (bytes_eq part []) (bytes_eq part (codes ".")) (bytes_eq part (codes "..")) s.0)
    ∙ follow_all (part ∷ folder) parts s.1 ∙ ap Some (reverse_on part parts folder)

-- a text is the path that it names
pub named_itself : (text : List ℕ) → list_all stays (parts_of text) ≡ true → path_of_parts (follow_parts [] (parts_of text)) ≡ Some text
named_itself text h =
    ap path_of_parts (follow_all [] (parts_of text) h ∙ ap Some (append-nil (reverse (parts_of text))))
    ∙ named_parts (parts_of text) (omega (arith, length-slice_split (λ b. Rattle.std.proofs.Common.eqb b 47) text))
    ∙ ap Some (join_with_byte-slice_split 47 text)
