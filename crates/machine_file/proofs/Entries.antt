-- The entries of a map, as plain data.
use Rattle.std.proofs.Common.{◌≡◌, ℕ, Bool, true, false, List, [], ◌∷◌, ◌++◌, Option, Some, None, Result, Ok, String}
use Rattle.std.proofs.Common.{string_bytes, refl, sym, ap, ◌∙◌, is_some, cond}
use Rattle.std.specs.Prelude.{◌||◌, ◌&&◌, not, if◌then◌else◌, codes}
use Rattle.std.specs.declared.alloc.Global.{Global}
use Rattle.std.specs.Map.{lookup}
use Rattle.std.specs.Str.{bytes_eq}
use Rattle.std.proofs.lemmas.List.{map-append}
use Rattle.machine_file.specs.Files.{has_key, has_name, cut_pair, takes, with_value, with_parts, with_pair, lacks_version}
use Rattle.machine_file.specs.Misfits.{refused_misfit, NoSign, NoValue, misfit_of}
use Rattle.machine_file.specs.Sections.{knows}
use Rattle.machine_file.specs.Values.{Value, value_of}
use Rattle.machine_file.specs.declared.section.SectionKind.{SectionKind}
use Rattle.machine_file.specs.declared.section.SectionKind.TheVariants as Kinds
use Rattle.machine_file.specs.Files as file
use Rattle.machine_file.specs.View.{entry_in, entries_in, sections_in}
use Rattle.machine_file.specs.declared.machine.Entry.{Entry}
use Rattle.machine_file.specs.declared.machine.Section.{Section}

or_some : {X : Type 0} (b : Bool) (x : X) (o : Option X) (r : Bool) → is_some o ≡ r → is_some (cond b (Some x) o) ≡ (b || r)
or_some true x o r e = refl
or_some false x o r e = e

pub has_key_lookup : (key : List ℕ) (es : List (String Global × Entry))
    → is_some (lookup (λ k. bytes_eq key (string_bytes k)) es) ≡ has_key key (entries_in es)
has_key_lookup key [] = refl
has_key_lookup key (e ∷ es) = or_some (bytes_eq key (string_bytes e.0)) e.1 _ _ (has_key_lookup key es)

pub has_name_lookup : (name : List ℕ) (ss : List (String Global × Section))
    → is_some (lookup (λ k. bytes_eq name (string_bytes k)) ss) ≡ has_name name (sections_in ss)
has_name_lookup name [] = refl
has_name_lookup name (s ∷ ss) = or_some (bytes_eq name (string_bytes s.0)) s.1 _ _ (has_name_lookup name ss)

pub entries_in-append : (es : List (String Global × Entry)) (e : String Global × Entry)
    → entries_in (es ++ e ∷ []) ≡ entries_in es ++ entry_in e ∷ []
entries_in-append es e = map-append entry_in es (e ∷ [])

pub none_from : {X : Type 0} (o : Option X) → is_some o ≡ false → o ≡ None
none_from None e = refl
none_from (Some x) e = absurd cc

-- ---- one line of a section

abbrev pub Added : Type 0
Added = Result (List file.Entry) (List ℕ)

pub pair_none : (section : List ℕ) (kind : SectionKind) (entries : List file.Entry) (line : ℕ) (text : List ℕ) → None ≡ cut_pair kind text
    → refused_misfit (NoSign section) ≡ with_pair section kind entries line text
unfolding with_pair
pair_none section kind entries line text e = ap (with_parts section kind entries line) e

pub pair_no_value : (section : List ℕ) (kind : SectionKind) (entries : List file.Entry) (line : ℕ) (text key value : List ℕ)
    → Some (key, value) ≡ cut_pair kind text
    → None ≡ value_of value → refused_misfit (NoValue section key) ≡ with_pair section kind entries line text
unfolding with_pair
pair_no_value section kind entries line text key value e v =
    ap (with_value section kind entries line key) v ∙ ap (with_parts section kind entries line) e

abbrev added : SectionKind → List file.Entry → ℕ → List ℕ → List ℕ → Value → Bool → Added
added kind entries line section key v b =
    if b then Ok (entries ++ record { key = key; value = v; line = line } ∷ []) else refused_misfit (misfit_of section kind key v)

with_taken : (section : List ℕ) (kind : SectionKind) (entries : List file.Entry) (line : ℕ) (text key value : List ℕ) (v : Value) (b : Bool)
    → Some (key, value) ≡ cut_pair kind text
    → Some v ≡ value_of value → b ≡ takes kind entries key v
    → added kind entries line section key v b ≡ with_pair section kind entries line text
unfolding with_pair
with_taken section kind entries line text key value v b e s t =
    ap (added kind entries line section key v) t
    ∙ ap (with_value section kind entries line key) s ∙ ap (with_parts section kind entries line) e

pub pair_not_taken : (section : List ℕ) (kind : SectionKind) (entries : List file.Entry) (line : ℕ) (text key value : List ℕ) (v : Value)
    → Some (key, value) ≡ cut_pair kind text
    → Some v ≡ value_of value → false ≡ takes kind entries key v
    → refused_misfit (misfit_of section kind key v) ≡ with_pair section kind entries line text
pair_not_taken section kind entries line text key value v e s t = with_taken section kind entries line text key value v false e s t

pub pair_taken : (section : List ℕ) (kind : SectionKind) (entries : List file.Entry) (line : ℕ) (text key value : List ℕ) (v : Value)
    → Some (key, value) ≡ cut_pair kind text
    → Some v ≡ value_of value → true ≡ takes kind entries key v
    → Ok (entries ++ record { key = key; value = v; line = line } ∷ []) ≡ with_pair section kind entries line text
pair_taken section kind entries line text key value v e s t = with_taken section kind entries line text key value v true e s t

-- a key that a section takes is new
pub taken_new : (kind : SectionKind) (entries : List file.Entry) (key : List ℕ) (v : Value) → takes kind entries key v ≡ true
    → has_key key entries ≡ false
taken_new kind entries key v t = second (knows kind key v) (has_key key entries) t
  where
    second : (a b : Bool) → (a && not b) ≡ true → b ≡ false
    second true true e = sym e
    second true false e = refl
    second false b e = absurd cc

pub lacking : (kind : SectionKind) (entries : List file.Entry) → lacks_version kind entries ≡ true
    → has_key (codes "version") entries ≡ false
lacking Kinds.Dependency entries e = opposite (has_key (codes "version") entries) e
  where
    opposite : (b : Bool) → not b ≡ true → b ≡ false
    opposite true e = sym e
    opposite false e = refl
lacking Kinds.Binaries entries e = absurd cc
lacking Kinds.Options entries e = absurd cc
lacking Kinds.HostMachine entries e = absurd cc
lacking Kinds.Compiler entries e = absurd cc
lacking Kinds.Checks entries e = absurd cc
lacking Kinds.Properties entries e = absurd cc
