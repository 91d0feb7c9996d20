-- Texts that are read one after another.
use Rattle.std.proofs.Common.{◌≡◌, ℕ, ◌+◌, ◌<◌, ◌≤◌, List, [], ◌∷◌, ◌++◌, drop, length, sym, ap, subst, take, ◌-◌, ◌∙◌, arith, append_assoc, append-nil, length-append}
use Rattle.std.specs.List.{flat_map}
use Rattle.std.proofs.lemmas.Grind.{flat_map-append}
use Rattle.std.proofs.lemmas.List.{drop-drop, drop_all, length-drop, take_rest}
use Rattle.byte_devices.specs.Texts.{IsText, AreTexts, SpellsTexts, BeginsWith, BeginsWithNone, null_terminated_text}
use Rattle.byte_devices.proofs.Zeros.{cut_same}

-- these texts were read, up to this place
pub record ReadUpTo (bytes : List ℕ) (at : ℕ) (done : List (List ℕ)) : Type 0 where
  pub read : bytes ≡ flat_map null_terminated_text done ++ drop at bytes
  pub good : AreTexts done

AreTexts-push : (done : List (List ℕ)) (text : List ℕ) → AreTexts done → IsText text → AreTexts (done ++ text ∷ [])
AreTexts-push [] text d t = (t, tt)
AreTexts-push (x ∷ done) text d t = (d.0, AreTexts-push done text d.1 t)

pub none_read : (bytes : List ℕ) (done : List (List ℕ)) → done ≡ [] → ReadUpTo bytes 0 done
none_read bytes done e = record { read = ap (λ d. flat_map null_terminated_text d ++ bytes) (sym e); good = subst AreTexts (sym e) tt }

-- one text more
pub one_read : (bytes : List ℕ) (at : ℕ) (done new : List (List ℕ)) (text : List ℕ) → ReadUpTo bytes at done
    → BeginsWith (take (length bytes - at) (drop at bytes)) text → new ≡ done ++ text ∷ []
    → ReadUpTo bytes (at + (length text + 1)) new
one_read bytes at done new text r begins n =
    let b = subst (λ s. BeginsWith s text) (take_rest bytes at) begins in
    record {
      read =
          r.read ∙ ap (λ s. flat_map null_terminated_text done ++ s) (b.parts ∙ ap (λ s. text ++ 0 ∷ s) (drop-drop (length text + 1) at bytes))
          ∙ ap (λ s. flat_map null_terminated_text done ++ s) (sym (append_assoc text (0 ∷ []) (drop (at + (length text + 1)) bytes)))
          ∙ sym (append_assoc (flat_map null_terminated_text done) (null_terminated_text text) (drop (at + (length text + 1)) bytes))
          ∙ ap (λ s. s ++ drop (at + (length text + 1)) bytes)
          (ap (λ s. flat_map null_terminated_text done ++ s) (sym (append-nil (null_terminated_text text))) ∙ sym (flat_map-append null_terminated_text done (text ∷ [])) ∙ ap (flat_map null_terminated_text) (sym n));
      good = subst AreTexts (sym n) (AreTexts-push done text r.good b.is_text);
    }

-- the rest spells the texts that are left
texts_left : (done texts : List (List ℕ)) (rest : List ℕ) → AreTexts done → AreTexts texts → flat_map null_terminated_text done ++ rest ≡ flat_map null_terminated_text texts
    → (more : List (List ℕ)) × SpellsTexts rest more
texts_left [] texts rest d t e = (texts, record { joined = e; are_texts = t })
texts_left (x ∷ done) [] rest d t e = absurd (omega (arith, ap length e, length-append (flat_map null_terminated_text (x ∷ done)) rest, length-append (null_terminated_text x) (flat_map null_terminated_text done), length-append x (0 ∷ [])))
texts_left (x ∷ done) (y ∷ texts) rest d t e =
    let left : x ++ 0 ∷ (flat_map null_terminated_text done ++ rest) ≡ y ++ 0 ∷ flat_map null_terminated_text texts =
    sym (append_assoc x (0 ∷ []) (flat_map null_terminated_text done ++ rest)) ∙ sym (append_assoc (null_terminated_text x) (flat_map null_terminated_text done) rest) ∙ e ∙ append_assoc y (0 ∷ []) (flat_map null_terminated_text texts) in
    texts_left done texts rest d.1 t.1 (cut_same x y _ _ d.0 t.0 left).1

none_begins : (rest : List ℕ) (more : List (List ℕ)) → SpellsTexts rest more → 0 < length rest → BeginsWithNone rest → ⊥
none_begins rest [] s some none = omega (arith, ap length s.joined)
none_begins rest (text ∷ more) s some none = none text (flat_map null_terminated_text more) s.are_texts.0 (s.joined ∙ append_assoc text (0 ∷ []) (flat_map null_terminated_text more))

-- where no text begins, the bytes spell no texts
pub no_texts : (bytes : List ℕ) (at : ℕ) (done : List (List ℕ)) → ReadUpTo bytes at done → at < length bytes
    → BeginsWithNone (take (length bytes - at) (drop at bytes))
    → (texts : List (List ℕ)) → SpellsTexts bytes texts → ⊥
no_texts bytes at done r less none texts s =
    let left = texts_left done texts (drop at bytes) r.good s.are_texts (sym r.read ∙ s.joined) in
    none_begins (drop at bytes) left.0 left.1 (omega (arith, length-drop at bytes)) (subst BeginsWithNone (take_rest bytes at) none)

-- at the end all are read
pub all_read : (bytes : List ℕ) (at : ℕ) (done : List (List ℕ)) → ReadUpTo bytes at done → length bytes ≤ at → SpellsTexts bytes done
all_read bytes at done r past = record {
  joined = r.read ∙ ap (λ s. flat_map null_terminated_text done ++ s) (drop_all at bytes past) ∙ append-nil (flat_map null_terminated_text done);
  are_texts = r.good;
}
