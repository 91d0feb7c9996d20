-- Lines of questions.
use Rattle.std.proofs.Common.{◌≡◌, ◌∙◌, ◌<◌, ◌+◌, arith}
use Rattle.std.proofs.Common.{◌++◌, ◌∷◌, [], ℕ, suc, Bool, true, false, List, Some, None, codes, map, take}
use Rattle.std.proofs.Common.{get_or, length, bytes_eq, refl, sym, ap}
use Rattle.std.specs.Option.{option_map, option_and_then}
use Rattle.std.specs.Prelude.{Option, slice_get}
use Rattle.std.proofs.lemmas.List.{map-append, take_more}
use Rattle.std.proofs.lemmas.Option.{get_or_from_slice_get, slice_get-get_or, slice_get_within}
use Rattle.std.proofs.lemmas.Slice.Eq.{bytes_eq-Decides}
use Rattle.serde_json.specs.Data.{Data, null, number, unsigned}
use Rattle.build.specs.edge.Texts.{Text}
use Rattle.machine_file.specs.Files.{Section as SectionSaid}
use Rattle.machine_file.specs.Lookups.{entries_at, entry_at}
use Rattle.machine_file.specs.Questions.{Aside, gives_options, options_at}
use Rattle.machine_file.specs.Values as written
use Rattle.introspection.specs.Questions.{Line, Reply, Section, Value, aside_member, entry_member, in_order, head_of, line_of, option_line}
use Rattle.introspection.specs.Questions.{shown_beside, shown_key, shown_reply, shown_value}
use Rattle.introspection.proofs.Shape.{ArePlain, IsPlain, none, one, plain_boolean, plain_integer, plain_object, plain_string, plain_strings}

-- ---- the value of a line has no float

plain_value : {n : ℕ} (v : written.Value) → IsPlain (suc n) (shown_value v)
plain_value (written.Text t) = plain_string t
plain_value (written.Integer n) = plain_integer n
plain_value (written.Boolean b) = plain_boolean b
plain_value (written.Texts ts) = plain_strings ts

plain_null : {n : ℕ} → IsPlain n null
plain_null = record { floats = refl; nests = omega arith }

plain_members : {X : Type 0} {n : ℕ} (show : X → Text × Data) (xs : List X) → ((x : X) → IsPlain n (show x).1) → ArePlain n (in_order (map show xs))
plain_members show [] h = none
plain_members show (x ∷ xs) h = one (show x).0 (h x) (plain_members show xs h)

plain_key : {n : ℕ} (key : Option Text) → IsPlain n (shown_key key)
plain_key None = plain_null
plain_key (Some key) = plain_string key

plain_reply : (reply : Reply) → IsPlain 2 (shown_reply reply)
plain_reply (Value None) = plain_null
plain_reply (Value (Some v)) = plain_value v
plain_reply (Section None) = plain_null
plain_reply (Section (Some entries)) = plain_object (plain_members entry_member entries (λ e. plain_value e.value))

pub plain_beside : (asides : List Aside) → IsPlain 2 (shown_beside asides)
plain_beside asides = plain_object (plain_members aside_member asides (λ a. plain_strings a.texts))

plain_number : {n : ℕ} (place : ℕ) → IsPlain n (number (unsigned place))
plain_number place = record { floats = refl; nests = omega arith }

pub plain_line : (l : Line) (file : Text) (place : ℕ) → IsPlain 3 (line_of l file place)
unfolding line_of
plain_line l file place =
    plain_object
    (one (codes "section") (plain_string l.section)
    (one (codes "key") (plain_key l.key)
    (one (codes "answer") (plain_reply l.reply)
    (one (codes "file") (plain_string file)
    (one (codes "line") (plain_number place)
    (one (codes "beside") (plain_beside l.asides) none))))))

pub plain_head : (l : Line) → IsPlain 3 (head_of l)
unfolding head_of
plain_head l =
    plain_object
    (one (codes "section") (plain_string l.section)
    (one (codes "key") (plain_key l.key)
    (one (codes "answer") (plain_reply l.reply) none)))

-- ---- lists

-- one more of these
pub map_got : {A B : Type 0} (f : A → B) (xs : List A) (i : ℕ) (x : A) → Some x ≡ slice_get xs i
    → map f (take (i + 1) xs) ≡ map f (take i xs) ++ f x ∷ []
map_got f xs i x e =
    ap (map f) (take_more xs i x (slice_get_within xs i x (sym e)))
    ∙ map-append f (take i xs) (get_or xs i x ∷ [])
    ∙ ap (λ y. map f (take i xs) ++ f y ∷ []) (get_or_from_slice_get xs i x x (sym e))

-- there is a thing at each place below the length
pub is_there : {A : Type 0} {B : Type 0} (xs : List A) (i : ℕ) → None ≡ slice_get xs i → i < length xs → B
is_there [] i e lt = absurd (omega (arith, lt))
is_there (x ∷ xs) i e lt =
    let h : None ≡ Some (get_or (x ∷ xs) i x) = e ∙ slice_get-get_or (x ∷ xs) i x lt in
    cc

-- ---- options: the sections that give options values have what all sections have there

pub options_kept : (ss : List SectionSaid) (name : List ℕ) → gives_options name ≡ true
    → entries_at (options_at ss) name ≡ entries_at ss name
options_kept [] name gives = refl
options_kept (s ∷ ss) name gives = go (gives_options s.name) (bytes_eq name s.name) refl refl (options_kept ss name gives)
  where
    go : (t u : Bool) → gives_options s.name ≡ t → bytes_eq name s.name ≡ u → entries_at (options_at ss) name ≡ entries_at ss name
        → entries_at (options_at (s ∷ ss)) name ≡ entries_at (s ∷ ss) name
    go true true a b rest = rw (a, b) refl
    go true false a b rest = rw (a, b) rest
    go false true a b rest =
        let bad : false ≡ true = sym a ∙ ap gives_options (sym ((bytes_eq-Decides name s.name).0 b)) ∙ gives in
        cc
    go false false a b rest = rw (a, b) rest

pub options_said : (ss : List SectionSaid) (asides : List Aside) (section : Text) (names : List Text) → gives_options section ≡ true
    → map (option_line (options_at ss) asides section) names ≡ map (option_line ss asides section) names
options_said ss asides section names gives = ap (λ es. map (λ name. record {
  section = section;
  key = Some name;
  reply = Value (option_map (λ e. e.value) (option_and_then (λ entries. entry_at entries name) es));
  asides = asides;
}) names) (options_kept ss section gives)
