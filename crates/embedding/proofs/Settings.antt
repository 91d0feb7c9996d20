-- The settings of what a caller gives.
use Rattle.std.proofs.Common.{◌≡◌, ℕ, List, [], ◌∷◌, ◌++◌, length, refl, sym, ap, ◌∙◌, arith, append_assoc, length-append}
use Rattle.std.specs.List.{flat_map}
use Rattle.world.specs.MakingSettings.{settings_of}
use Rattle.byte_devices.specs.Texts.{AreTexts, SpellsTexts, null_terminated_text}
use Rattle.byte_devices.proofs.Zeros.{cut_same}

same : (texts others : List (List ℕ)) → AreTexts texts → AreTexts others → flat_map null_terminated_text texts ≡ flat_map null_terminated_text others → others ≡ texts
same [] [] t o e = refl
same [] (x ∷ others) t o e = absurd (omega (arith, ap length e, length-append (null_terminated_text x) (flat_map null_terminated_text others), length-append x (0 ∷ [])))
same (x ∷ texts) [] t o e = absurd (omega (arith, ap length e, length-append (null_terminated_text x) (flat_map null_terminated_text texts), length-append x (0 ∷ [])))
same (x ∷ texts) (y ∷ others) t o e =
    let cut = cut_same x y _ _ t.0 o.0 (sym (append_assoc x (0 ∷ []) (flat_map null_terminated_text texts)) ∙ e ∙ append_assoc y (0 ∷ []) (flat_map null_terminated_text others)) in
    let rest = same texts others t.1 o.1 cut.1 in
    λ j. sym cut.0 j ∷ rest j

-- bytes are the same texts, however they are read
pub texts_same : (bytes : List ℕ) (texts others : List (List ℕ)) → SpellsTexts bytes texts → SpellsTexts bytes others → texts ≡ others
texts_same bytes texts others t o = same others texts o.are_texts t.are_texts (sym o.joined ∙ t.joined)

pub settings_as : (root other folder others : List ℕ) (words options : List (List ℕ)) → root ≡ other → folder ≡ others → words ≡ options
    → settings_of root folder words ≡ settings_of other others options
settings_as root other folder others words options r f w = λ j. settings_of (r j) (f j) (w j)
