-- How deep a value nests, and that it has no float.
use Rattle.std.proofs.Common.{◌≡◌, ℕ, suc, ◌≤◌, Bool, false, List, [], ◌∷◌, map, Ordering, refl, arith}
use Rattle.std.specs.Prelude.{ℤ, pos, negsuc, ◌||◌, fold}
use Rattle.std.specs.Ordering.{match_ordering, nat_cmp}
use Rattle.std.specs.declared.cmp.Ordering.TheVariants.{Less, Equal, Greater}
use Rattle.std.specs.Cmp.Lexicographic.{slice_cmp}
use Rattle.std.proofs.Math.Nat.{max-le}
use Rattle.build.specs.edge.Texts.{Text}
use Rattle.serde_json.specs.Data.{Data, boolean, number, string, object, Members, no_members, member, put, depth, items_depth}
use Rattle.serde_json.specs.Data.{members_depth}
use Rattle.serde_json.specs.Find.{of_integer, is_float}
use Rattle.serde_json.specs.View.{items_of}
use Rattle.serde_json.specs.Written.{has_float, items_have_float, members_have_float}
use Rattle.introspection.specs.Document.{list, strings, with_field, fields}

-- no float, and so many levels at most
pub record IsPlain (levels : ℕ) (d : Data) : Type 0 where
  pub floats : has_float d ≡ false
  pub nests : depth d ≤ levels

-- each value of the members is such
pub data ArePlain (levels : ℕ) : Members → Type 0 where
  none : ArePlain levels no_members
  one : (k : Text) {d : Data} {ms : Members} → IsPlain levels d → ArePlain levels ms → ArePlain levels (member k d ms)

-- each value of these keys is such
pub data HasPlain (levels : ℕ) : List (Text × Data) → Type 0 where
  nothing : HasPlain levels []
  next : (k : Text) {d : Data} {fs : List (Text × Data)} → IsPlain levels d → HasPlain levels fs → HasPlain levels ((k, d) ∷ fs)

neither : (a b : Bool) → a ≡ false → b ≡ false → (a || b) ≡ false
neither a b h k = rw (h, k) refl

-- ---- one value

pub plain_string : {n : ℕ} (s : Text) → IsPlain n (string s)
plain_string s = record { floats = refl; nests = omega arith }

pub plain_boolean : {n : ℕ} (b : Bool) → IsPlain n (boolean b)
plain_boolean b = record { floats = refl; nests = omega arith }

not_float : (z : ℤ) → is_float (of_integer z) ≡ false
not_float (pos n) = refl
not_float (negsuc n) = refl

pub plain_integer : {n : ℕ} (z : ℤ) → IsPlain n (number (of_integer z))
plain_integer z = record { floats = not_float z; nests = omega arith }

-- ---- lists

items_floats : {X : Type 0} {n : ℕ} (f : X → Data) (xs : List X) → ((x : X) → IsPlain n (f x)) → items_have_float (items_of (map f xs)) ≡ false
items_floats f [] h = refl
items_floats f (x ∷ xs) h = neither _ _ (h x).floats (items_floats f xs h)

items_nest : {X : Type 0} {n : ℕ} (f : X → Data) (xs : List X) → ((x : X) → IsPlain n (f x)) → items_depth (items_of (map f xs)) ≤ n
items_nest f [] h = omega arith
items_nest f (x ∷ xs) h = max-le (h x).nests (items_nest f xs h)

pub plain_list : {X : Type 0} {n : ℕ} (f : X → Data) (xs : List X) → ((x : X) → IsPlain n (f x)) → IsPlain (suc n) (list (map f xs))
plain_list f xs h = record { floats = items_floats f xs h; nests = let le = items_nest f xs h in omega (arith, le) }

pub plain_strings : {n : ℕ} (ts : List Text) → IsPlain (suc n) (strings ts)
plain_strings ts = plain_list string ts plain_string

-- ---- objects

members_floats : {n : ℕ} {ms : Members} → ArePlain n ms → members_have_float ms ≡ false
members_floats none = refl
members_floats (one k h hs) = neither _ _ h.floats (members_floats hs)

members_nest : {n : ℕ} {ms : Members} → ArePlain n ms → members_depth ms ≤ n
members_nest none = omega arith
members_nest (one k h hs) = max-le h.nests (members_nest hs)

pub plain_object : {n : ℕ} {ms : Members} → ArePlain n ms → IsPlain (suc n) (object ms)
plain_object hs = record { floats = members_floats hs; nests = let le = members_nest hs in omega (arith, le) }

either : {n : ℕ} (o : Ordering) {a b c : Members} → ArePlain n a → ArePlain n b → ArePlain n c → ArePlain n (match_ordering o a b c)
either Less ha hb hc = ha
either Equal ha hb hc = hb
either Greater ha hb hc = hc

pub plain_put : {n : ℕ} (k : Text) {d : Data} {ms : Members} → IsPlain n d → ArePlain n ms → ArePlain n (put k d ms)
plain_put k h none = one k h none
plain_put k h (one l g hs) = either (slice_cmp nat_cmp k l) (one k h (one l g hs)) (one l h hs) (one l g (plain_put k h hs))

plain_fold : {n : ℕ} {ms : Members} {fs : List (Text × Data)} → ArePlain n ms → HasPlain n fs → ArePlain n (fold with_field ms fs)
plain_fold hs nothing = hs
plain_fold {ms = ms} hs (next k {d = d} h rest) = plain_fold {ms = put k d ms} (plain_put k h hs) rest

pub plain_fields : {n : ℕ} {fs : List (Text × Data)} → HasPlain n fs → IsPlain (suc n) (fields fs)
plain_fields h = plain_object (plain_fold none h)
