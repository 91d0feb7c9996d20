-- How changes are taken back.
use Rattle.std.proofs.Common.{◌≡◌, ℕ, Bool, true, false, Result, Ok, Err, IsErr, is_err, OnOk, OnErr, cond, List, [], ◌∷◌, ◌++◌, length}
use Rattle.std.proofs.Common.{arith, Option, Some, None, String, string_bytes, refl, sym, ap, ◌∙◌, subst}
use Rattle.std.specs.declared.alloc.Global.{Global}
use Rattle.std.specs.declared.alloc.AllocError.{AllocError}
use Rattle.std.specs.List.Sorted.{IsStrictlySortedBy}
use Rattle.std.specs.List.{AllByRecursion}
use Rattle.std.specs.Cmp.Lexicographic.{slice_cmp, nat_list_cmp_total}
use Rattle.std.specs.Ordering.{nat_cmp, is_eq, match_ordering}
use Rattle.std.specs.declared.cmp.Ordering.{Ordering}
use Rattle.std.specs.declared.cmp.Ordering.TheVariants.{Less, Equal, Greater}
use Rattle.std.specs.BTreeMap.{insert_entry, is_at}
use Rattle.std.specs.Map.{remove_entry}
use Rattle.std.proofs.lemmas.List.{map-append}
use Rattle.std.proofs.lemmas.Bool.{false≢true}
use Rattle.std.proofs.lemmas.Map.Text.{is_eq-slice_cmp}
use Rattle.std.proofs.lemmas.Slice.Eq.{bytes_eq-Decides}
use Rattle.template.specs.declared.config.ConfigValue.{ConfigValue}
use Rattle.template.specs.Config.{Content, Entries, names, value_of, with_value}
use Rattle.template.specs.ConfigData.{content_of, entries_of}
use Rattle.template.specs.Undo.{IsSet, AreSet, changes_of}
use Rattle.template.proofs.Settings.{none_below, value_of-cons, value_of-nil, value_of-with_value}

-- ---- one change

abbrev cmp : List ℕ → List ℕ → Ordering
cmp a b = slice_cmp nat_cmp a b

same_order : (name : List ℕ) → cmp name name ≡ Equal
same_order name = by (cmp name name) refl where
  by : (o : Ordering) → cmp name name ≡ o → o ≡ Equal
  by Equal e = refl
  by Less e = absurd (let h : true ≡ false = sym ((bytes_eq-Decides name name).1 refl) ∙ sym (is_eq-slice_cmp name name) ∙ ap is_eq e in cc)
  by Greater e = absurd (let h : true ≡ false = sym ((bytes_eq-Decides name name).1 refl) ∙ sym (is_eq-slice_cmp name name) ∙ ap is_eq e in cc)

all_below : (name next : List ℕ) (later : List (List ℕ)) → cmp name next ≡ Less → AllByRecursion (λ y. cmp next y ≡ Less) later → AllByRecursion (λ y. cmp name y ≡ Less) later
all_below name next [] h a = tt
all_below name next (y ∷ later) h a = (nat_list_cmp_total.trans name next y h a.0, all_below name next later h a.1)

-- a name below the first stands for nothing
none_before : (name : List ℕ) (e : List ℕ × Content) (es : Entries) → cmp name e.0 ≡ Less → IsStrictlySortedBy (slice_cmp nat_cmp) (names (e ∷ es)) → value_of (e ∷ es) name ≡ None
unfolding IsStrictlySortedBy
none_before name e es h s = none_below name (e ∷ es) (h, all_below name e.0 (names es) h s.0)

put_first : (e : List ℕ × Content) (es : Entries) (name : List ℕ) (content : Content) (o : Ordering) → cmp name e.0 ≡ o
    → with_value (e ∷ es) name content ≡ match_ordering o ((name, content) ∷ e ∷ es) ((e.0, content) ∷ es) (e ∷ with_value es name content)
unfolding with_value
put_first e es name content o h = ap (λ r. match_ordering r ((name, content) ∷ e ∷ es) ((e.0, content) ∷ es) (e ∷ insert_entry (slice_cmp nat_cmp) es name content)) h

put_none : (name : List ℕ) (content : Content) → with_value [] name content ≡ (name, content) ∷ []
unfolding with_value
put_none name content = refl

tail_sorted : (e : List ℕ × Content) (es : Entries) → IsStrictlySortedBy (slice_cmp nat_cmp) (names (e ∷ es)) → IsStrictlySortedBy (slice_cmp nat_cmp) (names es)
unfolding IsStrictlySortedBy
tail_sorted e es s = s.1

-- what a name stood for is put back
pub back_some : (old : Entries) (name : List ℕ) (before content : Content) → IsStrictlySortedBy (slice_cmp nat_cmp) (names old) → value_of old name ≡ Some before
    → with_value (with_value old name content) name before ≡ old
back_some [] name before content s v = absurd (let h : None ≡ Some before = sym (value_of-nil name) ∙ v in cc)
back_some (e ∷ es) name before content s v = by (cmp name e.0) refl (λ h. back_some es name before content (tail_sorted e es s) h) where
  by : (o : Ordering) → cmp name e.0 ≡ o → (value_of es name ≡ Some before → with_value (with_value es name content) name before ≡ es) → with_value (with_value (e ∷ es) name content) name before ≡ e ∷ es
  by Less h more = absurd (let n : None ≡ Some before = sym (none_before name e es h s) ∙ v in cc)
  by Equal h more =
      let here : Some e.1 ≡ Some before = sym (value_of-cons e.0 e.1 es name ∙ ap (λ b. cond b (Some e.1) (value_of es name)) (sym (is_eq-slice_cmp name e.0) ∙ ap is_eq h)) ∙ v in
      let same : e.1 ≡ before = cc in
      ap (λ m. with_value m name before) (put_first e es name content Equal h) ∙ put_first (e.0, content) es name before Equal h ∙ ap (λ c. (e.0, c) ∷ es) (sym same)
  by Greater h more =
      let later : value_of es name ≡ Some before = sym (value_of-cons e.0 e.1 es name ∙ ap (λ b. cond b (Some e.1) (value_of es name)) (sym (is_eq-slice_cmp name e.0) ∙ ap is_eq h)) ∙ v in
      ap (λ m. with_value m name before) (put_first e es name content Greater h) ∙ put_first e (with_value es name content) name before Greater h
      ∙ ap (λ r. e ∷ r) (more later)

-- a name that stood for nothing goes
pub back_none : (old : Entries) (name : List ℕ) (content : Content) → value_of old name ≡ None → remove_entry (is_at (λ k. cmp name k)) (with_value old name content) ≡ old
back_none [] name content v =
    ap (remove_entry (is_at (λ k. cmp name k))) (put_none name content) ∙ ap (λ b. cond b [] ((name, content) ∷ [])) (ap is_eq (same_order name))
back_none (e ∷ es) name content v = by (cmp name e.0) refl (λ h. back_none es name content h) where
  by : (o : Ordering) → cmp name e.0 ≡ o → (value_of es name ≡ None → remove_entry (is_at (λ k. cmp name k)) (with_value es name content) ≡ es) → remove_entry (is_at (λ k. cmp name k)) (with_value (e ∷ es) name content) ≡ e ∷ es
  by Less h more =
      ap (remove_entry (is_at (λ k. cmp name k))) (put_first e es name content Less h)
      ∙ ap (λ b. cond b (e ∷ es) ((name, content) ∷ remove_entry (is_at (λ k. cmp name k)) (e ∷ es))) (ap is_eq (same_order name))
  by Equal h more = absurd (let n : Some e.1 ≡ None = sym (value_of-cons e.0 e.1 es name ∙ ap (λ b. cond b (Some e.1) (value_of es name)) (sym (is_eq-slice_cmp name e.0) ∙ ap is_eq h)) ∙ v in cc)
  by Greater h more =
      let later : value_of es name ≡ None = sym (value_of-cons e.0 e.1 es name ∙ ap (λ b. cond b (Some e.1) (value_of es name)) (sym (is_eq-slice_cmp name e.0) ∙ ap is_eq h)) ∙ v in
      ap (remove_entry (is_at (λ k. cmp name k))) (put_first e es name content Greater h)
      ∙ ap (λ b. cond b (with_value es name content) (e ∷ remove_entry (is_at (λ k. cmp name k)) (with_value es name content))) (ap is_eq h)
      ∙ ap (λ r. e ∷ r) (more later)

-- the map's own entries lose what they are seen to lose
removed_plain : (name : List ℕ) (e : String Global × ConfigValue) (es : List (String Global × ConfigValue)) (b : Bool) (rest : Entries)
    → entries_of (remove_entry (is_at (λ k. cmp name (string_bytes k))) es) ≡ rest
    → entries_of (cond b es (e ∷ remove_entry (is_at (λ k. cmp name (string_bytes k))) es)) ≡ cond b (entries_of es) ((string_bytes e.0, content_of e.1) ∷ rest)
removed_plain name e es true rest h = refl
removed_plain name e es false rest h = ap (λ r. (string_bytes e.0, content_of e.1) ∷ r) h

pub entries_of-removed : (name : List ℕ) (es : List (String Global × ConfigValue))
    → entries_of (remove_entry (is_at (λ k. cmp name (string_bytes k))) es) ≡ remove_entry (is_at (λ k. cmp name k)) (entries_of es)
entries_of-removed name [] = refl
entries_of-removed name (e ∷ es) = removed_plain name e es (is_eq (cmp name (string_bytes e.0))) (remove_entry (is_at (λ k. cmp name k)) (entries_of es)) (entries_of-removed name es)

-- a name that was set is there
pub is_there : {name : List ℕ} {before : Option Content} {old new : Entries} → IsSet name before old new → value_of new name ≡ None → ⊥
is_there {name} {before} {old} {new} s v =
    let h : Some s.content ≡ None
    = sym (ap (λ n. value_of n name) s.is ∙ value_of-with_value old name s.content name ∙ ap (λ b. cond b (Some s.content) (value_of old name)) ((bytes_eq-Decides name name).1 refl)) ∙ v in
    cc

-- ---- changes in turn

pub set_more : (changes : List (List ℕ × Option Content)) (name : List ℕ) (before : Option Content) (old mid new : Entries)
    → AreSet changes old mid → IsSet name before mid new → AreSet (changes ++ (name, before) ∷ []) old new
set_more [] name before old mid new e s = (new, (subst (λ m. IsSet name before m new) e s, refl))
set_more (change ∷ changes) name before old mid new e s = (e.0, (e.1.0, set_more changes name before e.0 mid new e.1.1 s))

-- the last change, and those before it
pub record Last (changes : List (List ℕ × Option Content)) (name : List ℕ) (before : Option Content) (old new : Entries) : Type 0 where
  pub mid : Entries
  pub earlier : AreSet changes old mid
  pub last : IsSet name before mid new

pub set_last : (changes : List (List ℕ × Option Content)) (name : List ℕ) (before : Option Content) (old new : Entries)
    → AreSet (changes ++ (name, before) ∷ []) old new → Last changes name before old new
set_last [] name before old new e = record { mid = old; earlier = refl; last = subst (λ n. IsSet name before old n) (sym e.1.1) e.1.0 }
set_last (change ∷ changes) name before old new e =
    let l = set_last changes name before e.0 new e.1.1 in
    record { mid = l.mid; earlier = (e.0, (e.1.0, l.earlier)); last = l.last }

pub changes_of-more : (changes more : List (String Global × Option ConfigValue)) → changes_of (changes ++ more) ≡ changes_of changes ++ changes_of more
changes_of-more changes more = map-append _ changes more

-- a value that was put back
pub restored : (name : List ℕ) (value : ConfigValue) (r : Result (Option ConfigValue) AllocError) {old mid new : Entries}
    → OnOk r (new ≡ with_value mid name (content_of value)) → OnErr r (value_of mid name ≡ None) → IsSet name (Some (content_of value)) old mid → new ≡ old
restored name value (Ok x) {old} {mid} {new} e n s = e ∙ ap (λ m. with_value m name (content_of value)) s.is ∙ back_some old name (content_of value) s.content s.ascending s.was
restored name value (Err x) {old} {mid} {new} e n s = absurd (is_there s n)

-- nothing is left to take back
pub none_left : (changes : List (String Global × Option ConfigValue)) {old now : Entries} → length changes ≡ 0 → AreSet (changes_of changes) old now → now ≡ old
none_left [] e set = set
none_left (change ∷ changes) e set = absurd (omega arith)

-- ---- answers

pub on_err : {X E P : Type 0} (r : Result X E) → IsErr r → P → OnErr r P
on_err (Ok x) e p = absurd (false≢true e)
on_err (Err x) e p = p

pub of_ok : {X E P : Type 0} (r : Result X E) → is_err r ≡ false → OnOk r P → P
of_ok (Ok x) e p = p
of_ok (Err x) e p = absurd (false≢true (sym e))
