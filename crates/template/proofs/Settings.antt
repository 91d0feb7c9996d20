-- How the ordered map of configuration data follows the entries that it is seen as.
use Rattle.std.proofs.Common.{◌≡◌, ℕ, suc, ◌<◌, ◌==◌, Bool, true, false, cond, List, [], ◌∷◌, ◌++◌, length, get_or, Option, Some, None}
use Rattle.std.proofs.Common.{is_some, String, string_bytes, Bor, refl, sym, ap, ◌∙◌, append_assoc, arith, ⊎_elim, eqb-true}
use Rattle.std.specs.Prelude.{encode_utf8}
use Rattle.std.specs.Option.{option_map, option_copied, option_or}
use Rattle.std.proofs.lemmas.Slice.Eq.{bytes_eq-Decides}
use Rattle.std.proofs.lemmas.Map.Lookups.{exact_bytes}
use Rattle.std.specs.List.{AllZip, AllByRecursion}
use Rattle.std.specs.List.Sorted.{IsStrictlySortedBy}
use Rattle.std.specs.Cmp.Lexicographic.{slice_cmp}
use Rattle.std.specs.Ordering.{nat_cmp, is_eq, match_ordering}
use Rattle.std.specs.declared.cmp.Ordering.{Ordering}
use Rattle.std.specs.declared.cmp.Ordering.TheVariants.{Less, Equal, Greater}
use Rattle.std.specs.Str.{bytes_eq}
use Rattle.std.specs.String.{string_cmp}
use Rattle.std.specs.BTreeMap.{insert_entry, is_at}
use Rattle.std.specs.Map.{lookup, keys_of}
use Rattle.std.specs.declared.alloc.Global.{Global}
use Rattle.std.proofs.lemmas.List.{get_or_append_left}
use Rattle.std.proofs.lemmas.Bool.{cases_Bool, false≢true}
use Rattle.std.proofs.lemmas.Str.{inside_one}
use Rattle.std.proofs.lemmas.Map.Text.{is_eq-slice_cmp}
use Rattle.template.specs.declared.config.ConfigValue.{ConfigValue}
use Rattle.template.specs.Config.{Content, Entries, escaped_quotes, entries_with_others, names, value_of, with_value}
use Rattle.template.specs.ConfigData.{content_of, entries_of}

-- looking up

found_head : (name : List ℕ) (key : String Global) (value : ConfigValue) (es : List (String Global × ConfigValue))
    → (r : Bool) → bytes_eq name (string_bytes key) ≡ r
    → option_map content_of (lookup (λ k. is_eq (slice_cmp nat_cmp name (string_bytes k))) es) ≡ lookup (λ k. bytes_eq name k) (entries_of es)
    → option_map content_of (cond r (Some value) (lookup (λ k. is_eq (slice_cmp nat_cmp name (string_bytes k))) es)) ≡ cond r (Some (content_of value)) (lookup (λ k. bytes_eq name k) (entries_of es))
found_head name key value es true e h = refl
found_head name key value es false e h = h

found_plain : (name : List ℕ) (es : List (String Global × ConfigValue))
    → option_map content_of (lookup (λ k. is_eq (slice_cmp nat_cmp name (string_bytes k))) es) ≡ lookup (λ k. bytes_eq name k) (entries_of es)
found_plain name [] = refl
found_plain name (e ∷ es) =
    ap (λ b. option_map content_of (cond b (Some e.1) (lookup (λ k. is_eq (slice_cmp nat_cmp name (string_bytes k))) es))) (is_eq-slice_cmp name (string_bytes e.0))
    ∙ found_head name e.0 e.1 es (bytes_eq name (string_bytes e.0)) refl (found_plain name es)

pub value_of-entries_of : (name : List ℕ) (es : List (String Global × ConfigValue))
    → option_map content_of (lookup (is_at (λ k. slice_cmp nat_cmp name (string_bytes k))) es) ≡ value_of (entries_of es) name
unfolding value_of
value_of-entries_of name es = found_plain name es

copied : (r : Option (Bor ConfigValue)) → option_map (λ value. content_of value.now) r ≡ option_map content_of (option_copied r)
copied None = refl
copied (Some value) = refl

pub get_is : (name : List ℕ) (es : List (String Global × ConfigValue)) (entries : Entries) (r : Option (Bor ConfigValue)) → entries_of es ≡ entries
    → option_copied r ≡ lookup (is_at (λ k. slice_cmp nat_cmp name (string_bytes k))) es → option_map (λ value. content_of value.now) r ≡ value_of entries name
get_is name es entries r v e = copied r ∙ ap (option_map content_of) e ∙ value_of-entries_of name es ∙ ap (λ n. value_of n name) v

is_some-map : (o : Option ConfigValue) → is_some (option_map content_of o) ≡ is_some o
is_some-map None = refl
is_some-map (Some value) = refl

pub has_is : (name : List ℕ) (es : List (String Global × ConfigValue)) (entries : Entries) (r : Bool) → entries_of es ≡ entries
    → r ≡ is_some (lookup (is_at (λ k. slice_cmp nat_cmp name (string_bytes k))) es) → r ≡ is_some (value_of entries name)
has_is name es entries r v e =
    e ∙ sym (is_some-map (lookup (is_at (λ k. slice_cmp nat_cmp name (string_bytes k))) es)) ∙ ap is_some (value_of-entries_of name es) ∙ ap (λ n. is_some (value_of n name)) v

-- setting

insert_at : (o : Ordering) (key : String Global) (value : ConfigValue) (e : String Global × ConfigValue) (es later : List (String Global × ConfigValue)) (rest : Entries)
    → entries_of later ≡ rest
    → entries_of (match_ordering o ((key, value) ∷ e ∷ es) ((e.0, value) ∷ es) (e ∷ later))
    ≡ match_ordering o ((string_bytes key, content_of value) ∷ (string_bytes e.0, content_of e.1) ∷ entries_of es) ((string_bytes e.0, content_of value) ∷ entries_of es) ((string_bytes e.0, content_of e.1) ∷ rest)
insert_at Less key value e es later rest h = refl
insert_at Equal key value e es later rest h = refl
insert_at Greater key value e es later rest h = ap (λ r. (string_bytes e.0, content_of e.1) ∷ r) h

insert_plain : (key : String Global) (value : ConfigValue) (es : List (String Global × ConfigValue))
    → entries_of (insert_entry string_cmp es key value) ≡ insert_entry (slice_cmp nat_cmp) (entries_of es) (string_bytes key) (content_of value)
insert_plain key value [] = refl
insert_plain key value (e ∷ es) = insert_at (string_cmp key e.0) key value e es (insert_entry string_cmp es key value) (insert_entry (slice_cmp nat_cmp) (entries_of es) (string_bytes key) (content_of value)) (insert_plain key value es)

pub entries_of_insert : (key : String Global) (value : ConfigValue) (es : List (String Global × ConfigValue))
    → entries_of (insert_entry string_cmp es key value) ≡ with_value (entries_of es) (string_bytes key) (content_of value)
unfolding with_value
entries_of_insert key value es = insert_plain key value es

-- copies

pub entries_of-clone : {C : String Global → String Global → Type 0} {D : ConfigValue → ConfigValue → Type 0}
    → ((k l : String Global) → C k l → string_bytes l ≡ string_bytes k) → ((v w : ConfigValue) → D v w → content_of w ≡ content_of v)
    → (es fs : List (String Global × ConfigValue)) → AllZip (λ p q. C p.0 q.0 × D p.1 q.1) es fs → entries_of fs ≡ entries_of es
entries_of-clone f g [] [] h = refl
entries_of-clone f g [] (y ∷ fs) h = absurd h
entries_of-clone f g (x ∷ es) [] h = absurd h
entries_of-clone f g (x ∷ es) (y ∷ fs) h =
    ap (λ k. (k, content_of y.1) ∷ entries_of fs) (f x.0 y.0 h.0.0) ∙ ap (λ v. (string_bytes x.0, v) ∷ entries_of fs) (g x.1 y.1 h.0.1)
    ∙ ap (λ r. (string_bytes x.0, content_of x.1) ∷ r) (entries_of-clone f g es fs h.1)

-- the names ascend

below_plain : (k : String Global) (es : List (String Global × ConfigValue)) → AllByRecursion (λ y. string_cmp k y ≡ Less) (keys_of es)
    → AllByRecursion (λ y. slice_cmp nat_cmp (string_bytes k) y ≡ Less) (names (entries_of es))
below_plain k [] h = tt
below_plain k (e ∷ es) h = (h.0, below_plain k es h.1)

pub names_ascend : (es : List (String Global × ConfigValue)) → IsStrictlySortedBy string_cmp (keys_of es) → IsStrictlySortedBy (slice_cmp nat_cmp) (names (entries_of es))
unfolding IsStrictlySortedBy
names_ascend [] h = tt
names_ascend (e ∷ es) h = (below_plain e.0 es h.0, names_ascend es h.1)

-- merging

pub merged-none : (entries : Entries) → entries_with_others entries [] ≡ entries
unfolding entries_with_others
merged-none entries = refl

merged-next : (entries : Entries) (name : List ℕ) (content : Content) (others : Entries) → entries_with_others entries ((name, content) ∷ others) ≡ entries_with_others (with_value entries name content) others
unfolding entries_with_others
merged-next entries name content others = refl

pub merged-more : (all all' s later : List (String Global × ConfigValue)) (name key : String Global) (value held : ConfigValue)
    → s ≡ (name, value) ∷ later → string_bytes key ≡ string_bytes name → content_of held ≡ content_of value
    → entries_of all' ≡ with_value (entries_of all) (string_bytes key) (content_of held)
    → entries_with_others (entries_of all') (entries_of later) ≡ entries_with_others (entries_of all) (entries_of s)
merged-more all all' s later name key value held at k v e =
    ap (λ a. entries_with_others a (entries_of later)) e
    ∙ ap (λ n. entries_with_others (with_value (entries_of all) n (content_of held)) (entries_of later)) k
    ∙ ap (λ n. entries_with_others (with_value (entries_of all) (string_bytes name) n) (entries_of later)) v
    ∙ sym (merged-next (entries_of all) (string_bytes name) (content_of value) (entries_of later))
    ∙ ap (λ r. entries_with_others (entries_of all) (entries_of r)) (sym at)

-- quotes

escaped-other : (b : ℕ) (text : List ℕ) → (b == 34) ≡ false → escaped_quotes (b ∷ text) ≡ b ∷ escaped_quotes text
unfolding escaped_quotes
escaped-other b text e = rw e refl

-- bytes without quote are their own
escaped-plain : (bytes rest : List ℕ) → ((k : ℕ) → k < length bytes → get_or bytes k 0 ≡ 34 → ⊥) → escaped_quotes (bytes ++ rest) ≡ bytes ++ escaped_quotes rest
escaped-plain [] rest h = refl
escaped-plain (b ∷ bytes) rest h =
    ⊎_elim
    (λ e. absurd (h 0 (omega arith) (eqb-true b 34 e)))
    (λ e. escaped-other b (bytes ++ rest) e ∙ ap (λ r. b ∷ r) (escaped-plain bytes rest (λ k lt is. h (suc k) (omega arith) is)))
    (cases_Bool (b == 34))

-- a character and what stands behind it
escaped-char : (c : ℕ) (rest : List ℕ) → (c ≡ 34 → ⊥) → escaped_quotes (encode_utf8 c ++ rest) ≡ encode_utf8 c ++ escaped_quotes rest
escaped-char c rest other = escaped-plain (encode_utf8 c) rest (λ k lt is. other (plain_byte c rest k lt is)) where
  plain_byte : (c : ℕ) (rest : List ℕ) (k : ℕ) → k < length (encode_utf8 c) → get_or (encode_utf8 c) k 0 ≡ 34 → c ≡ 34
  plain_byte c rest k lt is =
      let here : get_or (encode_utf8 c ++ rest) k 0 ≡ 34 = get_or_append_left (encode_utf8 c) rest 0 k lt ∙ is in
      inside_one c rest (encode_utf8 c ++ rest) k refl lt (omega arith) ∙ here

-- one character more of a text in quotes
pub quoting_other : (made made' s later whole : List ℕ) (c : ℕ) → made ++ escaped_quotes s ≡ whole → s ≡ encode_utf8 c ++ later → (c ≡ 34 → ⊥) → made' ≡ made ++ encode_utf8 c
    → made' ++ escaped_quotes later ≡ whole
quoting_other made made' s later whole c h at other e =
    ap (λ m. m ++ escaped_quotes later) e ∙ append_assoc made (encode_utf8 c) (escaped_quotes later)
    ∙ ap (λ r. made ++ r) (sym (ap escaped_quotes at ∙ escaped-char c later other)) ∙ h

-- what a name stands for after a change

cond_twice : (b : Bool) (x y z : Option Content) → cond b x z ≡ cond b x (cond b y z)
cond_twice true x y z = refl
cond_twice false x y z = refl

apart : (p q : Bool) (x y z : Option Content) → (p ≡ true → q ≡ true → ⊥) → cond p x (cond q y z) ≡ cond q y (cond p x z)
apart true true x y z h = absurd (h refl refl)
apart true false x y z h = refl
apart false true x y z h = refl
apart false false x y z h = refl

both_names : (q name key : List ℕ) → slice_cmp nat_cmp name key ≡ Greater → bytes_eq q key ≡ true → bytes_eq q name ≡ true → ⊥
both_names q name key o k n =
    let here : q ≡ name = (bytes_eq-Decides q name).0 n in
    false≢true (ap is_eq (sym o) ∙ is_eq-slice_cmp name key ∙ ap (λ m. bytes_eq m key) (sym here) ∙ k)

found_at : (q name : List ℕ) (content : Content) (entry : List ℕ × Content) (entries later : Entries) (o : Ordering) → slice_cmp nat_cmp name entry.0 ≡ o
    → lookup (λ key. bytes_eq q key) later ≡ cond (bytes_eq q name) (Some content) (lookup (λ key. bytes_eq q key) entries)
    → lookup (λ key. bytes_eq q key) (match_ordering o ((name, content) ∷ entry ∷ entries) ((entry.0, content) ∷ entries) (entry ∷ later))
    ≡ cond (bytes_eq q name) (Some content) (cond (bytes_eq q entry.0) (Some entry.1) (lookup (λ key. bytes_eq q key) entries))
found_at q name content entry entries later Less o h = refl
found_at q name content entry entries later Equal o h =
    let same : name ≡ entry.0 = exact_bytes name entry.0 o in
    cond_twice (bytes_eq q entry.0) (Some content) (Some entry.1) (lookup (λ key. bytes_eq q key) entries)
    ∙ ap (λ n. cond (bytes_eq q n) (Some content) (cond (bytes_eq q entry.0) (Some entry.1) (lookup (λ key. bytes_eq q key) entries))) (sym same)
found_at q name content entry entries later Greater o h =
    ap (λ r. cond (bytes_eq q entry.0) (Some entry.1) r) h
    ∙ apart (bytes_eq q entry.0) (bytes_eq q name) (Some entry.1) (Some content) (lookup (λ key. bytes_eq q key) entries) (both_names q name entry.0 o)

found_after : (q name : List ℕ) (content : Content) (entries : Entries)
    → lookup (λ key. bytes_eq q key) (insert_entry (slice_cmp nat_cmp) entries name content) ≡ cond (bytes_eq q name) (Some content) (lookup (λ key. bytes_eq q key) entries)
found_after q name content [] = refl
found_after q name content (entry ∷ entries) =
    found_at q name content entry entries (insert_entry (slice_cmp nat_cmp) entries name content) (slice_cmp nat_cmp name entry.0) refl (found_after q name content entries)

pub value_of-with_value : (entries : Entries) (name : List ℕ) (content : Content) (q : List ℕ)
    → value_of (with_value entries name content) q ≡ cond (bytes_eq q name) (Some content) (value_of entries q)
unfolding value_of with_value
value_of-with_value entries name content q = found_after q name content entries

pub value_of-cons : (name : List ℕ) (content : Content) (entries : Entries) (q : List ℕ) → value_of ((name, content) ∷ entries) q ≡ cond (bytes_eq q name) (Some content) (value_of entries q)
unfolding value_of
value_of-cons name content entries q = refl

pub value_of-nil : (q : List ℕ) → value_of [] q ≡ None
unfolding value_of
value_of-nil q = refl

-- a name below all of these stands for nothing in them
pub none_below : (q : List ℕ) (entries : Entries) → AllByRecursion (λ y. slice_cmp nat_cmp q y ≡ Less) (names entries) → value_of entries q ≡ None
none_below q [] h = value_of-nil q
none_below q (entry ∷ entries) h =
    value_of-cons entry.0 entry.1 entries q
    ∙ ap (λ b. cond b (Some entry.1) (value_of entries q)) (sym (is_eq-slice_cmp q entry.0) ∙ ap is_eq h.0)
    ∙ none_below q entries h.1

either_first : (b : Bool) (x : Content) (o p : Option Content) → (b ≡ true → o ≡ None) → option_or o (cond b (Some x) p) ≡ option_or (cond b (Some x) o) p
either_first true x o p h = ap (λ r. option_or r (Some x)) (h refl)
either_first false x o p h = refl

pub value_of-merged : (entries others : Entries) → IsStrictlySortedBy (slice_cmp nat_cmp) (names others) → (q : List ℕ) → value_of (entries_with_others entries others) q ≡ option_or (value_of others q) (value_of entries q)
unfolding IsStrictlySortedBy
value_of-merged entries [] h q = ap (λ r. value_of r q) (merged-none entries) ∙ ap (λ o. option_or o (value_of entries q)) (sym (value_of-nil q))
value_of-merged entries (other ∷ others) h q =
    ap (λ r. value_of r q) (merged-next entries other.0 other.1 others)
    ∙ value_of-merged (with_value entries other.0 other.1) others h.1 q
    ∙ ap (λ r. option_or (value_of others q) r) (value_of-with_value entries other.0 other.1 q)
    ∙ either_first (bytes_eq q other.0) other.1 (value_of others q) (value_of entries q) (λ e. ap (value_of others) ((bytes_eq-Decides q other.0).0 e) ∙ none_below other.0 others h.0)
    ∙ ap (λ o. option_or o (value_of entries q)) (sym (value_of-cons other.0 other.1 others q))
