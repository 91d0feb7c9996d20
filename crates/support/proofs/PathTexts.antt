-- Texts behind a beginning, and the parts of paths.
use Rattle.std.proofs.Common.{◌≡◌, ◌≢◌, ℕ, zero, suc, ◌==◌, ◌+◌, ◌<◌, ◌≤◌, Bool, true, false, cond, eqb, List, [], ◌∷◌, ◌++◌, map, reverse}
use Rattle.std.proofs.Common.{length, take, drop, get_or, Option, Some, None, MatchOption, option_copied, codes, Bor, refl, sym, ap, ◌∙◌}
use Rattle.std.proofs.Common.{append_assoc, arith, bytes_eq, ◌||◌, if◌then◌else◌, ⊎_elim}
use Rattle.std.specs.List.{starts_with, join_with_byte}
use Rattle.std.specs.Str.Pattern.{FindsTextPrefix, StripsPrefix}
use Rattle.std.proofs.lemmas.Bool.{cases_Bool}
use Rattle.std.proofs.lemmas.Bool.Decides.{Decides-eqb}
use Rattle.std.proofs.lemmas.List.{append_cancel_left, at_drop_more, map-append, take_more, reverse-append, reverse-reverse, length-reverse, length-map}
use Rattle.std.proofs.lemmas.List.{length-take}
use Rattle.std.proofs.lemmas.List.Prefix.{front_rest}
use Rattle.std.proofs.lemmas.Slice.Eq.{bytes_eq-Decides, starts_is}
use Rattle.support.specs.paths.Paths.{rest_after, and_then, follow_part, follow_parts, path_of_parts, without_last}

cond_yes : {A : Type 0} (b : Bool) (x y : A) → b ≡ true → cond b x y ≡ x
cond_yes true x y e = refl
cond_yes false x y e = cc

cond_no : {A : Type 0} (b : Bool) (x y : A) → (b ≡ true → ⊥) → cond b x y ≡ y
cond_no true x y never = absurd (never refl)
cond_no false x y never = refl

rest_after-is : (front rest text : List ℕ) → text ≡ front ++ rest → rest_after front text ≡ Some rest
rest_after-is front rest text e =
    cond_yes (starts_with eqb text front) (Some (drop (length front) text)) None ((starts_is Decides-eqb text front (starts_with eqb text front) refl).1 rest e) ∙ ap Some (front_rest text front rest e)

rest_after-none : (front text : List ℕ) → ((rest : List ℕ) → text ≢ front ++ rest) → rest_after front text ≡ None
rest_after-none front text none =
    cond_no (starts_with eqb text front) (Some (drop (length front) text)) None (λ e. none (drop (length front) text) ((starts_is Decides-eqb text front (starts_with eqb text front) refl).0 e))

-- what `strip_prefix` says
abbrev Strips : List ℕ → List ℕ → Option (Bor (List ℕ)) → Type 0
Strips front text r = MatchOption r (FindsTextPrefix front text None) (λ x. StripsPrefix (FindsTextPrefix front) text x.now)

-- the text does not begin with the root
pub no_root : (root text : List ℕ) (r : Option (Bor (List ℕ))) → r ≡ None → Strips root text None → option_copied r ≡ rest_after (root ++ codes "/") text
no_root root text r none lacks =
    ap option_copied none ∙ sym (rest_after-none (root ++ codes "/") text (λ rest is. lacks (codes "/" ++ rest) (is ∙ append_assoc root (codes "/") rest)))

-- it does, and a slash stands behind it or not
behind_root : (root text rest : List ℕ) (r : Option (Bor (List ℕ))) → text ≡ root ++ rest → Strips (codes "/") rest r → option_copied r ≡ rest_after (root ++ codes "/") text
behind_root root text rest None is lacks =
    sym (rest_after-none (root ++ codes "/") text (λ x e. lacks x (append_cancel_left root rest (codes "/" ++ x) (sym is ∙ e ∙ append_assoc root (codes "/") x))))
behind_root root text rest (Some x) is h =
    sym (rest_after-is (root ++ codes "/") x.now text (is ∙ ap (λ l. root ++ l) (h.1.1 ∙ ap (λ l. codes "/" ++ l) (sym h.2)) ∙ sym (append_assoc root (codes "/") x.now)))

pub past_root : (root text : List ℕ) (x : Bor (List ℕ)) (r : Option (Bor (List ℕ))) → Strips root text (Some x) → Strips (codes "/") x.now r → option_copied r ≡ rest_after (root ++ codes "/") text
past_root root text x r s t = behind_root root text x.now r (s.1.1 ∙ ap (λ l. root ++ l) (sym s.2)) t

-- a text that is no other
differs : (text other : List ℕ) → text ≢ other → bytes_eq text other ≡ false
differs text other h = ⊎_elim (λ e. absurd (h ((bytes_eq-Decides text other).0 e))) (λ e. e) (cases_Bool (bytes_eq text other))

-- a part that is neither empty nor dots is pushed
pub follow_plain : (old new : List (Bor (List ℕ))) (part : Bor (List ℕ)) → part.now ≢ [] → part.now ≢ codes "." → part.now ≢ codes ".." → new ≡ old ++ part ∷ []
    → follow_part (reverse (map (λ p. p.now) old)) part.now ≡ Some (reverse (map (λ p. p.now) new))
follow_plain old new part empty one two pushed =
    let now : Bor (List ℕ) → List ℕ = λ p. p.now in
    let folder = reverse (map now old) in
    let on = Some (part.now ∷ folder) in
    ap (λ b. if b || bytes_eq part.now (codes ".") then Some folder else (if bytes_eq part.now (codes "..") then without_last folder else on)) (differs _ _ empty)
    ∙ ap (λ b. if b then Some folder else (if bytes_eq part.now (codes "..") then without_last folder else on)) (differs _ _ one)
    ∙ ap (λ b. if b then without_last folder else on) (differs _ _ two)
    ∙ sym (ap (λ l. Some (reverse l)) (ap (map now) pushed ∙ map-append now old (part ∷ [])) ∙ ap Some (reverse-append (map now old) (part.now ∷ [])))

-- the part of this turn is followed
follow_one : (folder : List (List ℕ)) (all : List (List ℕ)) (n : ℕ) (part : List ℕ) (whole : Option (List (List ℕ))) (to : Option (List (List ℕ)))
    → (n < length all) × (part ≡ get_or all n part) → follow_parts folder (drop n all) ≡ whole → follow_part folder part ≡ to → and_then to (λ next. follow_parts next (drop (n + 1) all)) ≡ whole
follow_one folder all n part whole to at now h =
    sym (ap (λ o. and_then o (λ f. follow_parts f (drop (n + 1) all))) (ap (follow_part folder) (sym at.1) ∙ h)) ∙ sym (at_drop_more (follow_parts folder) all n part at.0) ∙ now

pub follow_out : (folder next all : List (List ℕ)) (n : ℕ) (part : List ℕ) (b : Bool) (whole : Option (List (List ℕ)))
    → (n < length all) × (part ≡ get_or all n part) → follow_parts folder (drop n all) ≡ whole → follow_part folder part ≡ cond b (Some next) None → b ≡ false → None ≡ whole
follow_out folder next all n part true whole at now h e = cc
follow_out folder next all n part false whole at now h e = follow_one folder all n part whole None at now h

pub follow_on : (folder next all : List (List ℕ)) (n m : ℕ) (part : List ℕ) (b : Bool) (whole : Option (List (List ℕ)))
    → (n < length all) × (part ≡ get_or all n part) → follow_parts folder (drop n all) ≡ whole → follow_part folder part ≡ cond b (Some next) None → b ≡ true → m ≡ n + 1
    → follow_parts next (drop m all) ≡ whole
follow_on folder next all n m part true whole at now h e more = ap (λ k. follow_parts next (drop k all)) more ∙ follow_one folder all n part whole (Some next) at now h
follow_on folder next all n m part false whole at now h e more = cc

join_push : (xs : List (List ℕ)) (x : List ℕ) → 0 < length xs → join_with_byte 47 (xs ++ x ∷ []) ≡ join_with_byte 47 xs ++ (47 ∷ x)
join_push [] x h = absurd (omega (arith, h))
join_push (y ∷ []) x h = refl
join_push (y ∷ z ∷ xs) x h = ap (λ l. y ++ (47 ∷ l)) (join_push (z ∷ xs) x (omega arith)) ∙ sym (append_assoc y (47 ∷ join_with_byte 47 (z ∷ xs)) (47 ∷ x))

-- the texts of the first parts
abbrev pub front_of : ℕ → List (Bor (List ℕ)) → List (List ℕ)
front_of i parts = map (λ part. part.now) (take i parts)

front_more : (parts : List (Bor (List ℕ))) (i : ℕ) (x : Bor (List ℕ)) → i < length parts → front_of (i + 1) parts ≡ front_of i parts ++ (get_or parts i x).now ∷ []
front_more parts i x h = ap (map (λ part. part.now)) (take_more parts i x h) ∙ map-append (λ part. part.now) (take i parts) (get_or parts i x ∷ [])

-- one part more, with a slash before it unless it is the first
pub join_more : (parts : List (Bor (List ℕ))) (i : ℕ) (x : Bor (List ℕ)) (old path new : List ℕ) → i < length parts → 0 < i
    → old ≡ join_with_byte 47 (front_of i parts) → path ≡ old ++ 47 ∷ [] → new ≡ path ++ (get_or parts i x).now → new ≡ join_with_byte 47 (front_of (i + 1) parts)
join_more parts i x old path new h more o p n =
    n ∙ ap (λ l. l ++ (get_or parts i x).now) (p ∙ ap (λ l. l ++ 47 ∷ []) o)
    ∙ append_assoc (join_with_byte 47 (front_of i parts)) (47 ∷ []) (get_or parts i x).now
    ∙ sym (join_push (front_of i parts) (get_or parts i x).now (omega (arith, length-map (take i parts) (λ (part : Bor (List ℕ)). part.now), length-take i parts)))
    ∙ sym (ap (join_with_byte 47) (front_more parts i x h))

pub join_first : (parts : List (Bor (List ℕ))) (i : ℕ) (x : Bor (List ℕ)) (old path new : List ℕ) → i < length parts → i ≤ 0
    → old ≡ join_with_byte 47 (front_of i parts) → path ≡ old → new ≡ path ++ (get_or parts i x).now → new ≡ join_with_byte 47 (front_of (i + 1) parts)
join_first parts zero x old path new h none o p n = n ∙ ap (λ l. l ++ (get_or parts 0 x).now) (p ∙ o) ∙ sym (ap (join_with_byte 47) (front_more parts 0 x h))
join_first parts (suc i) x old path new h none o p n = absurd (omega arith)

named_cons : (folder : List (List ℕ)) → 0 < length folder → path_of_parts (Some folder) ≡ Some (join_with_byte 47 (reverse folder))
named_cons [] h = absurd (omega (arith, h))
named_cons (part ∷ folder) h = refl

-- the path of a folder's parts
pub named_parts : (parts : List (List ℕ)) → 0 < length parts → path_of_parts (Some (reverse parts)) ≡ Some (join_with_byte 47 parts)
named_parts parts h = named_cons (reverse parts) (omega (arith, length-reverse parts)) ∙ ap (λ l. Some (join_with_byte 47 l)) (reverse-reverse parts)

some_of : (n : ℕ) → false ≡ (n == 0) → 0 < n
some_of zero h = cc
some_of (suc n) h = omega arith

-- the same, where the parts are counted
pub named_some : (parts : List (List ℕ)) (n : ℕ) → false ≡ (n == 0) → length parts ≡ n → path_of_parts (Some (reverse parts)) ≡ Some (join_with_byte 47 parts)
named_some parts n h l = named_parts parts (omega (arith, some_of n h))
