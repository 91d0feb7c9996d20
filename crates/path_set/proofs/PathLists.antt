-- Lists of paths.
use Rattle.std.proofs.Common.{◌≡◌, ℕ, ◌+◌, ◌<◌, Bool, true, false, List, [], ◌∷◌, ◌++◌, length, map, take, drop, get_or, string_bytes}
use Rattle.std.proofs.Common.{bytes_eq, String, refl, sym, ap, ◌∙◌, append_assoc, append-nil, add-one, drop-cons}
use Rattle.std.specs.Prelude.{not, ◌||◌, if◌then◌else◌, string_eq, option_map, Option, Some, None}
use Rattle.std.specs.List.{list_any}
use Rattle.std.specs.Global.{Global}
use Rattle.std.proofs.lemmas.List.{take_more, map-append}
use Rattle.std.proofs.lemmas.Bool.{not-true, not-false}
use Rattle.support.specs.Sets.{insert_key}
use Rattle.support.specs.Texts.{texts}
use Rattle.path_set.specs.Paths.{IsFront, Path, first_taken, holds}

pub list_any-map : {X Y : Type 0} (p : Y → Bool) (f : X → Y) (xs : List X) → list_any p (map f xs) ≡ list_any (λ x. p (f x)) xs
list_any-map p f [] = refl
list_any-map p f (x ∷ xs) = ap (λ b. p (f x) || b) (list_any-map p f xs)

pub holds-texts : (k : String Global) (ks : List (String Global)) → list_any (string_eq k) ks ≡ holds (string_bytes k) (texts ks)
holds-texts k ks = sym (list_any-map (bytes_eq (string_bytes k)) string_bytes ks)

-- ---- one path inserted

pub record Inserted (ks new : List (String Global)) (item : Path) : Type 0 where
  pub key : String Global
  pub bytes : string_bytes key ≡ item
  pub is : new ≡ ks ++ key ∷ []
  pub absent : holds item (texts ks) ≡ false

pub inserted : (ks new : List (String Global)) (k item : String Global) (added : Bool) → string_bytes k ≡ string_bytes item
    → added ≡ not (list_any (string_eq k) ks) → added ≡ true → new ≡ insert_key string_eq ks k → Inserted ks new (string_bytes item)
inserted ks new k item added same was so e =
    let absent = not-true (list_any (string_eq k) ks) (sym was ∙ so) in
    record {
      key = k;
      bytes = same;
      is = e ∙ ap (λ b. if b then ks else ks ++ k ∷ []) absent;
      absent = ap (λ p. holds p (texts ks)) (sym same) ∙ sym (holds-texts k ks) ∙ absent;
    }

texts_push : (ks new : List (String Global)) (item : Path) → Inserted ks new item → texts new ≡ texts ks ++ item ∷ []
texts_push ks new item one = ap texts one.is ∙ map-append string_bytes ks (one.key ∷ []) ∙ ap (λ p. texts ks ++ p ∷ []) one.bytes

drop_at : (xs : List (String Global)) (i : ℕ) (d : String Global) → i < length xs → drop i xs ≡ get_or xs i d ∷ drop (i + 1) xs
drop_at xs i d h = rw (add-one, drop-cons xs i d h) refl

fresh_at : (seen : List Path) (fresh : List (String Global)) (i : ℕ) (item : String Global) → i < length fresh → item ≡ get_or fresh i item
    → first_taken seen (texts (drop i fresh)) ≡ (if holds (string_bytes item) seen then Some (string_bytes item) else first_taken (seen ++ string_bytes item ∷ []) (texts (drop (i + 1) fresh)))
fresh_at seen fresh i item h at = ap (λ l. first_taken seen (texts l)) (drop_at fresh i item h ∙ ap (λ x. x ∷ drop (i + 1) fresh) (sym at))

pub tested_more : (ks new fresh : List (String Global)) (i : ℕ) (item : String Global) → i < length fresh → item ≡ get_or fresh i item → Inserted ks new (string_bytes item)
    → first_taken (texts ks) (texts (drop i fresh)) ≡ first_taken (texts new) (texts (drop (i + 1) fresh))
tested_more ks new fresh i item h at one =
    fresh_at (texts ks) fresh i item h at
    ∙ ap (λ b. if b then Some (string_bytes item) else first_taken (texts ks ++ string_bytes item ∷ []) (texts (drop (i + 1) fresh))) one.absent
    ∙ ap (λ l. first_taken l (texts (drop (i + 1) fresh))) (sym (texts_push ks new (string_bytes item) one))

pub tested_present : (ks fresh : List (String Global)) (i : ℕ) (item k : String Global) (added : Bool) → i < length fresh → item ≡ get_or fresh i item → string_bytes k ≡ string_bytes item
    → added ≡ not (list_any (string_eq k) ks) → added ≡ false → first_taken (texts ks) (texts (drop i fresh)) ≡ Some (string_bytes item)
tested_present ks fresh i item k added h at same was no_ =
    fresh_at (texts ks) fresh i item h at
    ∙ ap (λ b. if b then Some (string_bytes item) else first_taken (texts ks ++ string_bytes item ∷ []) (texts (drop (i + 1) fresh)))
    (ap (λ p. holds p (texts ks)) (sym same) ∙ sym (holds-texts k ks) ∙ not-false (list_any (string_eq k) ks) (sym was ∙ no_))

pub added_more : (old : List Path) (ks new fresh : List (String Global)) (i : ℕ) (item : String Global) → i < length fresh → item ≡ get_or fresh i item → Inserted ks new (string_bytes item)
    → texts ks ≡ old ++ texts (take i fresh) → texts new ≡ old ++ texts (take (i + 1) fresh)
added_more old ks new fresh i item h at one so_far =
    texts_push ks new (string_bytes item) one
    ∙ ap (λ l. l ++ string_bytes item ∷ []) so_far
    ∙ append_assoc old (texts (take i fresh)) (string_bytes item ∷ [])
    ∙ ap (λ x. old ++ (texts (take i fresh) ++ string_bytes x ∷ [])) at
    ∙ ap (λ l. old ++ l) (sym (ap texts (take_more fresh i item h) ∙ map-append string_bytes (take i fresh) (get_or fresh i item ∷ [])))

pub begins_more : (old ks new : List (String Global)) (item : Path) → Inserted ks new item → IsFront old ks → IsFront old new
begins_more old ks new item one b = record { more = b.more ++ one.key ∷ []; is = one.is ∙ ap (λ l. l ++ one.key ∷ []) b.is ∙ append_assoc old b.more (one.key ∷ []) }

-- ---- two lists, one behind the other

none_first : (b : Bool) (x : Path) (later : Option Path) → (if b then Some x else later) ≡ None → b ≡ false
none_first true x later e = absurd cc
none_first false x later e = refl

none_later : (b : Bool) (x : Path) (later : Option Path) → (if b then Some x else later) ≡ None → later ≡ None
none_later true x later e = absurd cc
none_later false x later e = e

first_step : (b : Bool) (x p : Path) (l m : Option Path) → (l ≡ Some p → m ≡ Some p) → (if b then Some x else l) ≡ Some p → (if b then Some x else m) ≡ Some p
first_step true x p l m f e = e
first_step false x p l m f e = f e

pub taken_first : (seen ps qs : List Path) (p : Path) → first_taken seen ps ≡ Some p → first_taken seen (ps ++ qs) ≡ Some p
taken_first seen [] qs p e = absurd cc
taken_first seen (x ∷ ps) qs p e =
    first_step (holds x seen) x p (first_taken (seen ++ x ∷ []) ps) (first_taken (seen ++ x ∷ []) (ps ++ qs)) (taken_first (seen ++ x ∷ []) ps qs p) e

pub taken_then : (seen ps qs : List Path) → first_taken seen ps ≡ None → first_taken seen (ps ++ qs) ≡ first_taken (seen ++ ps) qs
taken_then seen [] qs e = ap (λ s. first_taken s qs) (sym (append-nil seen))
taken_then seen (x ∷ ps) qs e =
    let a = none_first (holds x seen) x (first_taken (seen ++ x ∷ []) ps) e in
    let b = none_later (holds x seen) x (first_taken (seen ++ x ∷ []) ps) e in
    ap (λ c. if c then Some x else first_taken (seen ++ x ∷ []) (ps ++ qs)) a
    ∙ taken_then (seen ++ x ∷ []) ps qs b
    ∙ ap (λ s. first_taken s qs) (append_assoc seen (x ∷ []) ps)

-- ---- what the set tells, where it is known whether it tells a path

pub told_none : {X : Type 0} (f : X → Path) {taken : Option X} {o : Option Path} → option_map f taken ≡ o → taken ≡ None → None ≡ o
told_none f is none = sym (ap (option_map f) none) ∙ is

pub told_path : {X : Type 0} (f : X → Path) {taken : Option X} {x : X} {o : Option Path} → option_map f taken ≡ o → taken ≡ Some x → Some (f x) ≡ o
told_path f is some = sym (ap (option_map f) some) ∙ is
