-- The items of a list, token by token.
use Rattle.std.proofs.Common.{◌≡◌, ℕ, ◌-◌, ◌<◌, ◌≤◌, Bool, true, false, List, [], ◌∷◌, ◌++◌, length, take, drop, get_or, Option, Some, None}
use Rattle.std.proofs.Common.{String, string_bytes, refl, sym, ap, ◌∙◌, arith, append_assoc, length-drop, is_some, if◌then◌else◌, Vec}
use Rattle.std.specs.declared.alloc.Global.{Global}
use Rattle.std.specs.Option.{option_map}
use Rattle.std.specs.Bool.{then_some}
use Rattle.std.proofs.lemmas.List.{append-nil, map-append, take_all}
use Rattle.syntax.specs.declared.lexer.token.Token.{Token}
use Rattle.syntax.specs.declared.lexer.token.TokenKind.TheVariants as Kinds
use Rattle.syntax.specs.lexer.Kinds.{is}
use Rattle.syntax.specs.lexer.Lexeme.{Lexeme, lexeme_of, lexemes}
use Rattle.machine_file.specs.Values.{plain_text, with_item, no_further_items, items_of}
use Rattle.machine_file.specs.View.{strings_in}

-- the items found so far in front of those of the tokens that are left
abbrev pub found : List (String Global) → List Token → Option (List (List ℕ))
found items rest = option_map (λ others. strings_in items ++ others) (items_of (lexemes rest))

abbrev pub seen : Option (Vec (String Global) Global) → Option (List (List ℕ))
seen = option_map (λ v. strings_in v.items)

pub found_first : (tokens : List Token) (items : List (String Global)) → items ≡ [] → items_of (lexemes tokens) ≡ found items tokens
found_first tokens items e = same (items_of (lexemes tokens)) ∙ ap (λ i. found i tokens) (sym e)
  where
    same : (o : Option (List (List ℕ))) → o ≡ option_map (λ others. [] ++ others) o
    same None = refl
    same (Some xs) = refl

push_strings : (items : List (String Global)) (text : String Global)
    → strings_in (items ++ text ∷ []) ≡ strings_in items ++ (string_bytes text ∷ [])
push_strings items text = map-append string_bytes items (text ∷ [])

join : (xs : List (List ℕ)) (b : List ℕ) (o : Option (List (List ℕ)))
    → option_map (λ ys. xs ++ ys) (option_map (λ ys. b ∷ ys) o) ≡ option_map (λ ys. (xs ++ b ∷ []) ++ ys) o
join xs b None = refl
join xs b (Some ys) = ap Some (sym append_assoc_here)
  where
    append_assoc_here : (xs ++ b ∷ []) ++ ys ≡ xs ++ b ∷ ys
    append_assoc_here = simp append_assoc

-- a string, and what the token behind it leads to
two : (items : List (String Global)) (text : String Global) (rest : List Token) (d e : Token) (v : Bool) → 1 < length rest
    → Some (string_bytes text) ≡ plain_text (lexeme_of (get_or rest 0 d)) → v ≡ is (get_or rest 1 e).kind Kinds.Comma
    → found items rest
    ≡ option_map (λ others. strings_in (items ++ text ∷ []) ++ others)
    (if v then items_of (lexemes (drop 2 rest)) else no_further_items (lexemes (drop 1 rest)))
unfolding items_of
two items text [] d e v l p c = absurd (omega arith)
two items text (t ∷ []) d e v l p c = absurd (omega arith)
two items text (t ∷ m ∷ ts) d e v l p c =
    ap (λ o. option_map (λ others. strings_in items ++ others) (with_item o
    (if is m.kind Kinds.Comma then items_of (lexemes ts) else no_further_items (lexemes (m ∷ ts))))) (sym p)
    ∙ join (strings_in items) (string_bytes text) (if is m.kind Kinds.Comma then items_of (lexemes ts) else no_further_items (lexemes (m ∷ ts)))
    ∙ ap (λ xs. option_map (λ others. xs ++ others) (if is m.kind Kinds.Comma then items_of (lexemes ts) else no_further_items (lexemes (m ∷ ts))))
    (sym (push_strings items text))
    ∙ ap (λ w. option_map (λ others. strings_in (items ++ text ∷ []) ++ others)
    (if w then items_of (lexemes ts) else no_further_items (lexemes (m ∷ ts)))) (sym c)

pub found_more : (tokens rest : List Token) (items more : List (String Global)) (text : String Global) (d e : Token) (v : Bool) (n : ℕ)
    → items_of (lexemes tokens) ≡ found items rest → 1 < length rest → length rest ≤ n
    → Some (string_bytes text) ≡ plain_text (lexeme_of (get_or rest 0 d))
    → v ≡ is (get_or rest 1 e).kind Kinds.Comma → v ≡ true → more ≡ items ++ text ∷ []
    → items_of (lexemes tokens) ≡ found more (take (n - 2) (drop 2 rest))
found_more tokens rest items more text d e v n h l within p c t m =
    h ∙ two items text rest d e v l p c
    ∙ ap (λ w. option_map (λ others. strings_in (items ++ text ∷ []) ++ others)
    (if w then items_of (lexemes (drop 2 rest)) else no_further_items (lexemes (drop 1 rest)))) t
    ∙ ap (λ xs. found xs (drop 2 rest)) (sym m)
    ∙ ap (found more) (sym (take_all (n - 2) (drop 2 rest) (omega (arith, length-drop 2 rest))))

closed_by : (b : Bool) (v : Vec (String Global) Global)
    → seen (then_some (is_some {T = List (List ℕ)} (if b then Some [] else None)) v)
    ≡ option_map (λ (others : List (List ℕ)). strings_in v.items ++ others) (if b then Some [] else None)
closed_by true v = ap (λ (xs : List (List ℕ)). Some xs) (sym (append-nil (strings_in v.items)))
closed_by false v = refl

closed_is : (ts : List Lexeme) (v : Vec (String Global) Global)
    → seen (then_some (is_some (no_further_items ts)) v) ≡ option_map (λ others. strings_in v.items ++ others) (no_further_items ts)
closed_is [] v = refl
closed_is (t ∷ []) v = closed_by (is t.kind Kinds.CloseBracket) v
closed_is (t ∷ u ∷ ts) v = refl

pub found_close : (tokens rest : List Token) (items : List (String Global)) (more : Vec (String Global) Global) (text : String Global)
    (d e : Token) (v b : Bool) (n : ℕ)
    → items_of (lexemes tokens) ≡ found items rest → 1 < length rest → length rest ≤ n
    → Some (string_bytes text) ≡ plain_text (lexeme_of (get_or rest 0 d))
    → v ≡ is (get_or rest 1 e).kind Kinds.Comma → v ≡ false → more.items ≡ items ++ text ∷ []
    → b ≡ is_some (no_further_items (lexemes (take (n - 1) (drop 1 rest)))) → seen (then_some b more) ≡ items_of (lexemes tokens)
found_close tokens rest items more text d e v b n h l within p c f m g =
    ap (λ w. seen (then_some w more)) (g
    ∙ ap (λ ts. is_some (no_further_items (lexemes ts))) (take_all (n - 1) (drop 1 rest) (omega (arith, length-drop 1 rest))))
    ∙ closed_is (lexemes (drop 1 rest)) more
    ∙ sym (h ∙ two items text rest d e v l p c
    ∙ ap (λ w. option_map (λ others. strings_in (items ++ text ∷ []) ++ others)
    (if w then items_of (lexemes (drop 2 rest)) else no_further_items (lexemes (drop 1 rest)))) f
    ∙ ap (λ xs. option_map (λ others. strings_in xs ++ others) (no_further_items (lexemes (drop 1 rest)))) (sym m))

short : (rest : List Token) → length rest ≤ 1 → items_of (lexemes rest) ≡ no_further_items (lexemes rest)
unfolding items_of
short [] l = refl
short (t ∷ []) l = refl
short (t ∷ u ∷ ts) l = absurd (omega arith)

pub found_end : (tokens rest : List Token) (items : Vec (String Global) Global) (b : Bool)
    → items_of (lexemes tokens) ≡ found items.items rest → length rest ≤ 1
    → b ≡ is_some (no_further_items (lexemes rest)) → seen (then_some b items) ≡ items_of (lexemes tokens)
found_end tokens rest items b h l g =
    ap (λ w. seen (then_some w items)) g ∙ closed_is (lexemes rest) items
    ∙ sym (h ∙ ap (option_map (λ others. strings_in items.items ++ others)) (short rest l))

none_first : (items : List (String Global)) (rest : List Token) (d : Token) → 1 < length rest
    → None ≡ plain_text (lexeme_of (get_or rest 0 d)) → found items rest ≡ None
unfolding items_of
none_first items [] d l p = absurd (omega arith)
none_first items (t ∷ []) d l p = absurd (omega arith)
none_first items (t ∷ m ∷ ts) d l p = ap (λ o. option_map (λ others. strings_in items ++ others)
    (with_item o (if is m.kind Kinds.Comma then items_of (lexemes ts) else no_further_items (lexemes (m ∷ ts))))) (sym p)

pub found_none : (tokens rest : List Token) (items : List (String Global)) (d : Token) → items_of (lexemes tokens) ≡ found items rest
    → 1 < length rest
    → None ≡ plain_text (lexeme_of (get_or rest 0 d)) → None ≡ items_of (lexemes tokens)
found_none tokens rest items d h l p = sym (h ∙ none_first items rest d l p)
