-- The bytes that symbols begin with.
use Rattle.std.proofs.Common.{◌≡◌, ℕ, ◌<◌, Bool, true, false, refl, sym, subst, ◌⊎◌, inl, inr, lit<, Option, Some, None}
use Rattle.std.specs.Prelude.{◌==◌, if◌then◌else◌}
use Rattle.std.specs.Char.{is_ascii_digit}
use Rattle.std.proofs.lemmas.Bool.{eqb-true}
use Rattle.syntax.specs.declared.lexer.token.TokenKind.{TokenKind}
use Rattle.syntax.specs.lexer.Bytes as byte
use Rattle.syntax.specs.lexer.Bytes.{quote, is_letter}
use Rattle.syntax.specs.lexer.Kinds.{single_kind, with_equals_kind}

pub peel : {A : Type 0} (b : Bool) (o r : Option A) (k : A) → (if b then o else r) ≡ Some k → (b ≡ true) ⊎ (r ≡ Some k)
peel true o r k e = inl refl
peel false o r k e = inr e

pub none_some : {A : Type 0} (k : A) → ◌≡◌ {A = Option A} None (Some k) → ⊥
none_some k e = cc

-- neither a word, a number nor a string begins with the byte, which is one of ASCII
abbrev pub IsApart : ℕ → Type 0
IsApart a = (is_letter a ≡ false) × (is_ascii_digit a ≡ false) × ((a == quote) ≡ false) × (a < 128)

at : (a b : ℕ) → (a == b) ≡ true → IsApart b → IsApart a
at a b y h = subst IsApart (sym (eqb-true a b y)) h

pub single_apart : (a : ℕ) (k : TokenKind) → single_kind a ≡ Some k → IsApart a
single_apart a k e =
    elim (peel (a == byte.open_parenthesis) _ _ k e) [
      | inl y ↦ at a byte.open_parenthesis y (refl, refl, refl, lit< tt)
      | inr e1 ↦
          elim (peel (a == byte.close_parenthesis) _ _ k e1) [
            | inl y ↦ at a byte.close_parenthesis y (refl, refl, refl, lit< tt)
            | inr e2 ↦
                elim (peel (a == byte.open_bracket) _ _ k e2) [
                  | inl y ↦ at a byte.open_bracket y (refl, refl, refl, lit< tt)
                  | inr e3 ↦
                      elim (peel (a == byte.close_bracket) _ _ k e3) [
                        | inl y ↦ at a byte.close_bracket y (refl, refl, refl, lit< tt)
                        | inr e4 ↦
                            elim (peel (a == byte.open_brace) _ _ k e4) [
                              | inl y ↦ at a byte.open_brace y (refl, refl, refl, lit< tt)
                              | inr e5 ↦
                                  elim (peel (a == byte.close_brace) _ _ k e5) [
                                    | inl y ↦ at a byte.close_brace y (refl, refl, refl, lit< tt)
                                    | inr e6 ↦
                                        elim (peel (a == byte.comma) _ _ k e6) [
                                          | inl y ↦ at a byte.comma y (refl, refl, refl, lit< tt)
                                          | inr e7 ↦
                                              elim (peel (a == byte.colon) _ _ k e7) [
                                                | inl y ↦ at a byte.colon y (refl, refl, refl, lit< tt)
                                                | inr e8 ↦
                                                    elim (peel (a == byte.dot) _ _ k e8) [
                                                      | inl y ↦ at a byte.dot y (refl, refl, refl, lit< tt)
                                                      | inr e9 ↦
                                                          elim (peel (a == byte.question) _ _ k e9) [
                                                            | inl y ↦ at a byte.question y (refl, refl, refl, lit< tt)
                                                            | inr e10 ↦
                                                                elim (peel (a == byte.equals) _ _ k e10) [
                                                                  | inl y ↦ at a byte.equals y (refl, refl, refl, lit< tt)
                                                                  | inr e11 ↦
                                                                      elim (peel (a == byte.less) _ _ k e11) [
                                                                        | inl y ↦ at a byte.less y (refl, refl, refl, lit< tt)
                                                                        | inr e12 ↦
                                                                            elim (peel (a == byte.greater) _ _ k e12) [
                                                                              | inl y ↦ at a byte.greater y (refl, refl, refl, lit< tt)
                                                                              | inr e13 ↦
                                                                                  elim (peel (a == byte.plus) _ _ k e13) [
                                                                                    | inl y ↦ at a byte.plus y (refl, refl, refl, lit< tt)
                                                                                    | inr e14 ↦
                                                                                        elim (peel (a == byte.minus) _ _ k e14) [
                                                                                          | inl y ↦ at a byte.minus y (refl, refl, refl, lit< tt)
                                                                                          | inr e15 ↦
                                                                                              elim (peel (a == byte.star) _ _ k e15) [
                                                                                                | inl y ↦ at a byte.star y (refl, refl, refl, lit< tt)
                                                                                                | inr e16 ↦
                                                                                                    elim (peel (a == byte.slash) _ _ k e16) [
                                                                                                      | inl y ↦ at a byte.slash y (refl, refl, refl, lit< tt)
                                                                                                      | inr e17 ↦
                                                                                                          elim (peel (a == byte.percent) _ _ k e17) [
                                                                                                            | inl y ↦ at a byte.percent y (refl, refl, refl, lit< tt)
                                                                                                            | inr e18 ↦
                                                                                                                elim (peel (a == byte.newline) _ _ k e18) [
                                                                                                                  | inl y ↦ at a byte.newline y (refl, refl, refl, lit< tt)
                                                                                                                  | inr e19 ↦
                                                                                                                      absurd (none_some k e19)
                                                                                                                ]
                                                                                                          ]
                                                                                                    ]
                                                                                              ]
                                                                                        ]
                                                                                  ]
                                                                            ]
                                                                      ]
                                                                ]
                                                          ]
                                                    ]
                                              ]
                                        ]
                                  ]
                            ]
                      ]
                ]
          ]
    ]

pub equals_apart : (a : ℕ) (k : TokenKind) → with_equals_kind a ≡ Some k → IsApart a
equals_apart a k e =
    elim (peel (a == byte.equals) _ _ k e) [
      | inl y ↦ at a byte.equals y (refl, refl, refl, lit< tt)
      | inr e1 ↦
          elim (peel (a == byte.exclamation) _ _ k e1) [
            | inl y ↦ at a byte.exclamation y (refl, refl, refl, lit< tt)
            | inr e2 ↦
                elim (peel (a == byte.less) _ _ k e2) [
                  | inl y ↦ at a byte.less y (refl, refl, refl, lit< tt)
                  | inr e3 ↦
                      elim (peel (a == byte.greater) _ _ k e3) [
                        | inl y ↦ at a byte.greater y (refl, refl, refl, lit< tt)
                        | inr e4 ↦
                            elim (peel (a == byte.plus) _ _ k e4) [
                              | inl y ↦ at a byte.plus y (refl, refl, refl, lit< tt)
                              | inr e5 ↦
                                  absurd (none_some k e5)
                            ]
                      ]
                ]
          ]
    ]
