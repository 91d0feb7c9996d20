-- The words that a text is read as, and the machine that cuts it.
use Rattle.std.proofs.Common.{◌≡◌, ℕ, Bool, true, false, List, [], ◌∷◌, ◌++◌, Option, Some, None, Result, Ok, Err, refl, sym, ap, ◌∙◌}
use Rattle.std.proofs.Common.{subst, arith, append_assoc, if◌then◌else◌}
use Rattle.std.specs.Prelude.{◌==◌, ◌&&◌, ◌||◌, ◌↔◌, not, IfOk}
use Rattle.std.specs.Option.{option_map}
use Rattle.std.specs.Char.{encode_utf8}
use Rattle.std.specs.Str.{encode_utf8_all}
use Rattle.std.specs.List.{list_all}
use Rattle.std.proofs.lemmas.Bool.{false≢true}
use Rattle.std.proofs.lemmas.Bool.Decides.{nat_tests}
use Rattle.std.proofs.lemmas.List.{append-nil}
use Rattle.syntax.specs.lexer.Bytes.{backslash, quote}
use Rattle.option_values.specs.declared.words.ShellState.{ShellState}
use Rattle.option_values.specs.declared.words.ShellState.TheVariants as place
use Rattle.option_values.specs.Words.{Cut, double_quote, parts_words, is_escapable, bare, cut_from, words_of_cut}
use Rattle.option_values.specs.Shell as shell
use Rattle.option_values.specs.Shell.{is_bare, is_no_quote, Inside, Piece, Reads}

abbrev at : ShellState → List ℕ → List (List ℕ) → Cut
at p word words = record { place = p; word = word; words = words }

if_true : {A : Type 0} (b : Bool) (x y : A) → b ≡ true → (if b then x else y) ≡ x
if_true b x y e = rw e refl

if_false : {A : Type 0} (b : Bool) (x y : A) → b ≡ false → (if b then x else y) ≡ y
if_false b x y e = rw e refl

-- ---- what is written as words is cut so

both : (a b : Bool) → (a && b) ≡ true → (a ≡ true) × (b ≡ true)
both true b h = (refl, h)
both false b h = absurd (false≢true h)

neither : (a b : Bool) → (a || b) ≡ false → (a ≡ false) × (b ≡ false)
neither false b h = (refl, h)
neither true b h = absurd (false≢true (sym h))

negated : (a : Bool) → not a ≡ true → a ≡ false
negated false h = refl
negated true h = absurd (false≢true h)

record Bare (c : ℕ) : Type 0 where
  apart : parts_words c ≡ false
  escape : (c == backslash) ≡ false
  one : (c == quote) ≡ false
  two : (c == double_quote) ≡ false

bare_parts : (c : ℕ) → is_bare c ≡ true → Bare c
bare_parts c h =
    let first = neither (parts_words c) ((c == backslash) || ((c == quote) || (c == double_quote))) (negated _ h) in
    let second = neither (c == backslash) ((c == quote) || (c == double_quote)) first.1 in
    let third = neither (c == quote) (c == double_quote) second.1 in
    record { apart = first.0; escape = second.0; one = third.0; two = third.1 }

bare_cut : (p : ShellState) (word : List ℕ) (words : List (List ℕ)) (c : ℕ) → Bare c
    → bare (at p word words) c ≡ at place.Bare (word ++ encode_utf8 c) words
bare_cut p word words c b = if_false _ _ _ b.escape ∙ if_false _ _ _ b.one ∙ if_false _ _ _ b.two

single_cut : (cs rest word : List ℕ) (words : List (List ℕ)) → list_all is_no_quote cs ≡ true
    → cut_from (at place.Single word words) ((cs ++ quote ∷ []) ++ rest) ≡ cut_from (at place.Bare (word ++ encode_utf8_all cs) words) rest
single_cut [] rest word words h = ap (λ w. cut_from (at place.Bare w words) rest) (sym (append-nil word))
single_cut (c ∷ cs) rest word words h =
    let parts = both (is_no_quote c) (list_all is_no_quote cs) h in
    ap (λ s. cut_from s ((cs ++ quote ∷ []) ++ rest)) (if_false (c == quote) (at place.Bare word words)
    (at place.Single (word ++ encode_utf8 c) words) (negated _ parts.0))
    ∙ single_cut cs rest (word ++ encode_utf8 c) words parts.1
    ∙ ap (λ w. cut_from (at place.Bare w words) rest) (append_assoc word (encode_utf8 c) (encode_utf8_all cs))

double_cut : (cs text rest word : List ℕ) (words : List (List ℕ)) → Inside cs text
    → cut_from (at place.Double word words) ((cs ++ double_quote ∷ []) ++ rest) ≡ cut_from (at place.Bare (word ++ text) words) rest
double_cut _ _ rest word words shell.nothing = ap (λ w. cut_from (at place.Bare w words) rest) (sym (append-nil word))
double_cut _ _ rest word words (shell.plain c cs text n inside) =
    let parts = neither (c == double_quote) (c == backslash) n in
    ap (λ s. cut_from s ((cs ++ double_quote ∷ []) ++ rest)) (if_false _ _ _ parts.0 ∙ if_false _ _ _ parts.1)
    ∙ double_cut cs text rest (word ++ encode_utf8 c) words inside
    ∙ ap (λ w. cut_from (at place.Bare w words) rest) (append_assoc word (encode_utf8 c) text)
double_cut _ _ rest word words (shell.escaped c cs text y inside) =
    ap (λ s. cut_from s ((cs ++ double_quote ∷ []) ++ rest)) (if_true _ _ _ y)
    ∙ double_cut cs text rest (word ++ encode_utf8 c) words inside
    ∙ ap (λ w. cut_from (at place.Bare w words) rest) (append_assoc word (encode_utf8 c) text)
double_cut _ _ rest word words (shell.kept c cs text n inside) =
    ap (λ s. cut_from s ((cs ++ double_quote ∷ []) ++ rest)) (if_false _ _ _ n)
    ∙ double_cut cs text rest ((word ++ encode_utf8 backslash) ++ encode_utf8 c) words inside
    ∙ ap (λ w. cut_from (at place.Bare w words) rest)
    (append_assoc (word ++ encode_utf8 backslash) (encode_utf8 c) text ∙ append_assoc word (encode_utf8 backslash) (encode_utf8 c ++ text))

between_cut : (cs text rest word : List ℕ) (words : List (List ℕ)) → Piece cs text
    → cut_from (at place.Between word words) (cs ++ rest) ≡ cut_from (at place.Bare (word ++ text) words) rest
between_cut _ _ rest word words (shell.bare c b) =
    let parts = bare_parts c b in ap (λ s. cut_from s rest) (if_false _ _ _ parts.apart ∙ bare_cut place.Between word words c parts)
between_cut _ _ rest word words (shell.escaped c) = refl
between_cut _ _ rest word words (shell.single cs n) = single_cut cs rest word words n
between_cut _ _ rest word words (shell.double cs text inside) = double_cut cs text rest word words inside

within_cut : (cs text rest word : List ℕ) (words : List (List ℕ)) → Piece cs text
    → cut_from (at place.Bare word words) (cs ++ rest) ≡ cut_from (at place.Bare (word ++ text) words) rest
within_cut _ _ rest word words (shell.bare c b) =
    let parts = bare_parts c b in ap (λ s. cut_from s rest) (if_false _ _ _ parts.apart ∙ bare_cut place.Bare word words c parts)
within_cut _ _ rest word words (shell.escaped c) = refl
within_cut _ _ rest word words (shell.single cs n) = single_cut cs rest word words n
within_cut _ _ rest word words (shell.double cs text inside) = double_cut cs text rest word words inside

abbrev state : Option (List ℕ) → List (List ℕ) → Cut
state None words = at place.Between [] words
state (Some word) words = at place.Bare word words

cut_words : (o : Option (List ℕ)) (cs : List ℕ) (more words : List (List ℕ)) → Reads o cs more
    → words_of_cut (cut_from (state o words) cs) ≡ Some (words ++ more)
cut_words _ _ _ words shell.end = ap (λ (ws : List (List ℕ)). Some ws) (sym (append-nil words))
cut_words _ _ _ words (shell.blank c cs more b reads) = ap (λ s. words_of_cut (cut_from s cs)) (if_true _ _ _ b)
    ∙ cut_words None cs more words reads
cut_words _ _ _ words (shell.begin cs text rest more piece reads) = ap words_of_cut (between_cut cs text rest [] words piece)
    ∙ cut_words (Some text) rest more words reads
cut_words _ _ _ words (shell.further word cs text rest more piece reads) =
    ap words_of_cut (within_cut cs text rest word words piece) ∙ cut_words (Some (word ++ text)) rest more words reads
cut_words _ _ _ words (shell.part word c cs more b reads) =
    ap (λ s. words_of_cut (cut_from s cs)) (if_true _ _ _ b) ∙ cut_words None cs more (words ++ word ∷ []) reads
    ∙ ap (λ (ws : List (List ℕ)). Some ws) (append_assoc words (word ∷ []) more)
cut_words _ _ _ words (shell.last word) = refl

pub written_cut : (cs : List ℕ) (words : List (List ℕ)) → Reads None cs words → words_of_cut (cut_from (at place.Between [] []) cs) ≡ Some words
written_cut cs words reads = cut_words None cs words [] reads

-- ---- what is cut is written so

-- a part of a text up to a mark, what it gives, and what stands behind the mark
record Closed (word cs : List ℕ) (words : List (List ℕ)) (mark : ℕ) (Gives : List ℕ → List ℕ → Type 0) : Type 0 where
  inside : List ℕ
  text : List ℕ
  rest : List ℕ
  parts : cs ≡ (inside ++ mark ∷ []) ++ rest
  gives : Gives inside text
  reads : Reads (Some (word ++ text)) rest words

record Next (word cs : List ℕ) (words : List (List ℕ)) : Type 0 where
  piece : List ℕ
  text : List ℕ
  rest : List ℕ
  parts : cs ≡ piece ++ rest
  is_piece : Piece piece text
  reads : Reads (Some (word ++ text)) rest words

record Behind (word cs : List ℕ) (words : List (List ℕ)) : Type 0 where
  char : ℕ
  rest : List ℕ
  parts : cs ≡ char ∷ rest
  reads : Reads (Some (word ++ encode_utf8 char)) rest words

abbrev GivesSingle : List ℕ → List ℕ → Type 0
GivesSingle cs text = (list_all is_no_quote cs ≡ true) × (text ≡ encode_utf8_all cs)

abbrev GivesEscaped : List ℕ → List ℕ → Type 0
GivesEscaped cs text = Inside (backslash ∷ cs) text

-- what the rest of a text is, from a place on
abbrev Left : ShellState → List ℕ → List ℕ → List (List ℕ) → Type 0
Left place.Between word cs more = Reads None cs more
Left place.Bare word cs more = Reads (Some word) cs more
Left place.Escaped word cs more = Behind word cs more
Left place.Single word cs more = Closed word cs more quote GivesSingle
Left place.Double word cs more = Closed word cs more double_quote Inside
Left place.DoubleEscaped word cs more = Closed word cs more double_quote GivesEscaped

abbrev Found : ShellState → List ℕ → List (List ℕ) → List ℕ → List (List ℕ) → Type 0
Found p word words cs given = (more : List (List ℕ)) × (given ≡ words ++ more) × Left p word cs more

-- no word has begun between words
abbrev Begun : ShellState → List ℕ → Type 0
Begun place.Between word = word ≡ []
Begun _ word = Unit {0}

abbrev Rest : List ℕ → Type 0
Rest cs = (p : ShellState) (word : List ℕ) (words given : List (List ℕ)) → Begun p word → words_of_cut (cut_from (at p word words) cs) ≡ Some given
    → Found p word words cs given

same_some : (a b : List (List ℕ)) → Some a ≡ Some b → a ≡ b
same_some a b e = cc

no_some : (b : List (List ℕ)) {A : Type 0} → None ≡ Some b → A
no_some b e = absurd cc

eq_from_test : (m n : ℕ) → (m == n) ≡ true → m ≡ n
eq_from_test m n h = grind (arith, nat_tests)

and_true : (a b : Bool) → a ≡ true → b ≡ true → (a && b) ≡ true
and_true true b p q = q
and_true false b p q = absurd (false≢true p)

or_false : (a b : Bool) → a ≡ false → b ≡ false → (a || b) ≡ false
or_false false b p q = q
or_false true b p q = absurd (false≢true (sym p))

not_true : (a : Bool) → a ≡ false → not a ≡ true
not_true false p = refl
not_true true p = absurd (false≢true (sym p))

longer : (P Q : List ℕ → List ℕ → Type 0) (word cs extra : List ℕ) (c mark : ℕ) (more : List (List ℕ))
    → ((xs text : List ℕ) → P xs text → Q (c ∷ xs) (extra ++ text))
    → Closed (word ++ extra) cs more mark P → Closed word (c ∷ cs) more mark Q
longer P Q word cs extra c mark more step k = record {
  inside = c ∷ k.inside;
  text = extra ++ k.text;
  rest = k.rest;
  parts = ap (λ xs. c ∷ xs) k.parts;
  gives = step k.inside k.text k.gives;
  reads = subst (λ (w : List ℕ). Reads (Some w) k.rest more) (append_assoc word extra k.text) k.reads;
}

closed_here : (P : List ℕ → List ℕ → Type 0) (word cs : List ℕ) (c mark : ℕ) (more : List (List ℕ)) → P [] [] → c ≡ mark
    → Reads (Some word) cs more → Closed word (c ∷ cs) more mark P
closed_here P word cs c mark more p e r = record {
  inside = [];
  text = [];
  rest = cs;
  parts = ap (λ d. d ∷ cs) e;
  gives = p;
  reads = subst (λ (w : List ℕ). Reads (Some w) cs more) (sym (append-nil word)) r;
}

single_step : (cs word : List ℕ) (words given : List (List ℕ)) (c : ℕ) (b : Bool) → Rest cs → (c == quote) ≡ b
    → words_of_cut (cut_from (if b then at place.Bare word words else at place.Single (word ++ encode_utf8 c) words) cs) ≡ Some given
    → Found place.Single word words (c ∷ cs) given
single_step cs word words given c true later e h =
    let found = later place.Bare word words given tt h in
    (found.0, found.1, closed_here GivesSingle word cs c quote found.0 (refl, refl) (eq_from_test c quote e) found.2)
single_step cs word words given c false later e h =
    let found = later place.Single (word ++ encode_utf8 c) words given tt h in (
      found.0,
      found.1,
      longer GivesSingle GivesSingle word cs (encode_utf8 c) c quote found.0
          (λ xs text g. (and_true (is_no_quote c) (list_all is_no_quote xs) (not_true _ e) g.0, ap (λ t. encode_utf8 c ++ t) g.1)) found.2,
    )

double_step : (cs word : List ℕ) (words given : List (List ℕ)) (c : ℕ) (a b : Bool) → Rest cs → (c == double_quote) ≡ a
    → (c == backslash) ≡ b
    → words_of_cut (cut_from (if a then at place.Bare word words else (if b then at place.DoubleEscaped word words else at place.Double
    (word ++ encode_utf8 c) words)) cs) ≡ Some given
    → Found place.Double word words (c ∷ cs) given
double_step cs word words given c true b later d e h =
    let found = later place.Bare word words given tt h in
    (found.0, found.1, closed_here Inside word cs c double_quote found.0 shell.nothing (eq_from_test c double_quote d) found.2)
double_step cs word words given c false true later d e h =
    let found = later place.DoubleEscaped word words given tt h in
    let k = found.2 in (
      found.0,
      found.1,
      record {
        inside = c ∷ k.inside;
        text = k.text;
        rest = k.rest;
        parts = ap (λ xs. c ∷ xs) k.parts;
        gives = subst (λ (x : ℕ). Inside (x ∷ k.inside) k.text) (sym (eq_from_test c backslash e)) k.gives;
        reads = k.reads;
      },
    )
double_step cs word words given c false false later d e h =
    let found = later place.Double (word ++ encode_utf8 c) words given tt h in (
      found.0,
      found.1,
      longer Inside Inside word cs (encode_utf8 c) c double_quote found.0
          (λ xs text g. shell.plain c xs text (or_false _ _ d e) g) found.2,
    )

escaped_step : (cs word : List ℕ) (words given : List (List ℕ)) (c : ℕ) (b : Bool) → Rest cs → is_escapable c ≡ b
    → words_of_cut (cut_from (if b then at place.Double (word ++ encode_utf8 c) words else at place.Double
    ((word ++ encode_utf8 backslash) ++ encode_utf8 c) words) cs) ≡ Some given
    → Found place.DoubleEscaped word words (c ∷ cs) given
escaped_step cs word words given c true later e h =
    let found = later place.Double (word ++ encode_utf8 c) words given tt h in (
      found.0,
      found.1,
      longer Inside GivesEscaped word cs (encode_utf8 c) c double_quote found.0 (λ xs text g. shell.escaped c xs text e g)
          found.2,
    )
escaped_step cs word words given c false later e h =
    let found = later place.Double ((word ++ encode_utf8 backslash) ++ encode_utf8 c) words given tt h in
    let both_of = encode_utf8 backslash ++ encode_utf8 c in
    let kept : (xs text : List ℕ) → Inside xs text → GivesEscaped (c ∷ xs) (both_of ++ text) =
    λ xs text g. subst (λ (t : List ℕ). GivesEscaped (c ∷ xs) t) (sym (append_assoc (encode_utf8 backslash) (encode_utf8 c) text))
    (shell.kept c xs text e g) in (
      found.0,
      found.1,
      longer Inside GivesEscaped word cs both_of c double_quote found.0 kept
          (subst (λ (w : List ℕ). Closed w cs found.0 double_quote Inside) (append_assoc word (encode_utf8 backslash) (encode_utf8 c))
          found.2),
    )

abbrev FoundNext : List ℕ → List (List ℕ) → List ℕ → List (List ℕ) → Type 0
FoundNext word words cs given = (more : List (List ℕ)) × (given ≡ words ++ more) × Next word cs more

bare_step : (cs word : List ℕ) (words given : List (List ℕ)) (c : ℕ) (a b d : Bool) → Rest cs → parts_words c ≡ false → (c == backslash) ≡ a
    → (c == quote) ≡ b → (c == double_quote) ≡ d
    → words_of_cut (cut_from (if a then at place.Escaped word words else (if b then at place.Single word
    words else (if d then at place.Double word words else at place.Bare (word ++ encode_utf8 c) words))) cs) ≡ Some given
    → FoundNext word words (c ∷ cs) given
bare_step cs word words given c true b d later apart e q r h =
    let found = later place.Escaped word words given tt h in
    let k = found.2 in (
      found.0,
      found.1,
      record {
        piece = backslash ∷ k.char ∷ [];
        text = encode_utf8 k.char;
        rest = k.rest;
        parts = ap (λ x. x ∷ cs) (eq_from_test c backslash e) ∙ ap (λ xs. backslash ∷ xs) k.parts;
        is_piece = shell.escaped k.char;
        reads = k.reads;
      },
    )
bare_step cs word words given c false true d later apart e q r h =
    let found = later place.Single word words given tt h in
    let k = found.2 in (
      found.0,
      found.1,
      record {
        piece = quote ∷ (k.inside ++ quote ∷ []);
        text = encode_utf8_all k.inside;
        rest = k.rest;
        parts = ap (λ x. x ∷ cs) (eq_from_test c quote q) ∙ ap (λ xs. quote ∷ xs) k.parts;
        is_piece = shell.single k.inside k.gives.0;
        reads = subst (λ (t : List ℕ). Reads (Some (word ++ t)) k.rest found.0) k.gives.1 k.reads;
      },
    )
bare_step cs word words given c false false true later apart e q r h =
    let found = later place.Double word words given tt h in
    let k = found.2 in (
      found.0,
      found.1,
      record {
        piece = double_quote ∷ (k.inside ++ double_quote ∷ []);
        text = k.text;
        rest = k.rest;
        parts = ap (λ x. x ∷ cs) (eq_from_test c double_quote r) ∙ ap (λ xs. double_quote ∷ xs) k.parts;
        is_piece = shell.double k.inside k.text k.gives;
        reads = k.reads;
      },
    )
bare_step cs word words given c false false false later apart e q r h =
    let found = later place.Bare (word ++ encode_utf8 c) words given tt h in (
      found.0,
      found.1,
      record {
        piece = c ∷ [];
        text = encode_utf8 c;
        rest = cs;
        parts = refl;
        is_piece = shell.bare c (not_true _ (or_false _ _ apart (or_false _ _ e (or_false _ _ q r))));
        reads = found.2;
      },
    )

begun_next : (cs : List ℕ) (more : List (List ℕ)) → Next [] cs more → Reads None cs more
begun_next cs more n = subst (λ (xs : List ℕ). Reads None xs more) (sym n.parts) (shell.begin n.piece n.text n.rest more n.is_piece n.reads)

further_next : (word cs : List ℕ) (more : List (List ℕ)) → Next word cs more → Reads (Some word) cs more
further_next word cs more n = subst (λ (xs : List ℕ). Reads (Some word) xs more) (sym n.parts)
    (shell.further word n.piece n.text n.rest more n.is_piece n.reads)

between_step : (cs word : List ℕ) (words given : List (List ℕ)) (c : ℕ) (b : Bool) → Rest cs → word ≡ [] → parts_words c ≡ b
    → words_of_cut (cut_from (if b then at place.Between word words else bare (at place.Between word words) c) cs) ≡ Some given
    → Found place.Between word words (c ∷ cs) given
between_step cs word words given c true later none e h =
    let found = later place.Between word words given none h in
    (found.0, found.1, shell.blank c cs found.0 e found.2)
between_step cs word words given c false later none e h =
    let found = bare_step cs word words given c _ _ _ later e refl refl refl h in
    (found.0, found.1, begun_next (c ∷ cs) found.0 (subst (λ (w : List ℕ). Next w (c ∷ cs) found.0) none found.2))

within_step : (cs word : List ℕ) (words given : List (List ℕ)) (c : ℕ) (b : Bool) → Rest cs → parts_words c ≡ b
    → words_of_cut (cut_from (if b then at place.Between [] (words ++ word ∷ []) else bare (at place.Bare word words) c) cs) ≡ Some given
    → Found place.Bare word words (c ∷ cs) given
within_step cs word words given c true later e h =
    let found = later place.Between [] (words ++ word ∷ []) given refl h in
    (word ∷ found.0, found.1 ∙ append_assoc words (word ∷ []) found.0, shell.part word c cs found.0 e found.2)
within_step cs word words given c false later e h =
    let found = bare_step cs word words given c _ _ _ later e refl refl refl h in
    (found.0, found.1, further_next word (c ∷ cs) found.0 found.2)

cut_reads : (cs : List ℕ) → Rest cs
cut_reads [] place.Between word words given b h = ([], sym (append-nil words ∙ same_some words given h), shell.end)
cut_reads [] place.Bare word words given b h = (word ∷ [], sym (same_some (words ++ word ∷ []) given h), shell.last word)
cut_reads [] place.Escaped word words given b h = no_some given h
cut_reads [] place.Single word words given b h = no_some given h
cut_reads [] place.Double word words given b h = no_some given h
cut_reads [] place.DoubleEscaped word words given b h = no_some given h
cut_reads (c ∷ cs) place.Between word words given b h = between_step cs word words given c (parts_words c) (cut_reads cs) b refl h
cut_reads (c ∷ cs) place.Bare word words given b h = within_step cs word words given c (parts_words c) (cut_reads cs) refl h
cut_reads (c ∷ cs) place.Escaped word words given b h =
    let found = cut_reads cs place.Bare (word ++ encode_utf8 c) words given tt h in
    (found.0, found.1, record { char = c; rest = cs; parts = refl; reads = found.2 })
cut_reads (c ∷ cs) place.Single word words given b h = single_step cs word words given c (c == quote) (cut_reads cs) refl h
cut_reads (c ∷ cs) place.Double word words given b h = double_step cs word words given c (c == double_quote) (c == backslash) (cut_reads cs)
    refl refl h
cut_reads (c ∷ cs) place.DoubleEscaped word words given b h = escaped_step cs word words given c (is_escapable c) (cut_reads cs) refl h

pub cut_written : (cs : List ℕ) (words : List (List ℕ)) → words_of_cut (cut_from (at place.Between [] []) cs) ≡ Some words → Reads None cs words
cut_written cs words h =
    let found = cut_reads cs place.Between [] [] words refl h in
    subst (λ (ws : List (List ℕ)). Reads None cs ws) (sym found.1) found.2

pub both_ways : {V E : Type 0} (f : V
    → List (List ℕ)) (r : Result (Option V) E) (o : Option (List (List ℕ))) (words : List (List ℕ)) (A : Type 0)
    → IfOk r (λ given. option_map f given ≡ o) → (o ≡ Some words → A) → (A → o ≡ Some words)
    → IfOk r (λ given. (option_map f given ≡ Some words) ↔ A)
both_ways f (Ok given) o words A h to from = (λ e. to (sym h ∙ e), λ a. h ∙ from a)
both_ways f (Err e) o words A h to from = tt
