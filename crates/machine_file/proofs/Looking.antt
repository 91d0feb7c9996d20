-- What look-ups find.
use Rattle.std.proofs.Common.{◌≡◌, ℕ, Bool, true, false, List, [], ◌∷◌, Option, Some, None, String, string_bytes, refl, ap, ◌∙◌, cond}
use Rattle.std.specs.Option.{option_map, option_and_then, option_copied}
use Rattle.std.specs.declared.alloc.Global.{Global}
use Rattle.std.specs.Map.{lookup}
use Rattle.std.specs.Str.{bytes_eq}
use denote.Ref.{Bor}
use Rattle.machine_file.specs.declared.machine.Entry.{Entry}
use Rattle.machine_file.specs.declared.machine.Section.{Section}
use Rattle.machine_file.specs.Files as file
use Rattle.machine_file.specs.Lookups.{entries_at, entry_at, value_at}
use Rattle.machine_file.specs.Values.{Value}
use Rattle.machine_file.specs.View.{value_in, entries_in, sections_in}

copied : (r : Option (Bor Section)) → option_map (λ s. entries_in s.now.entries.entries) r
    ≡ option_map (λ s. entries_in s.entries.entries) (option_copied r)
copied None = refl
copied (Some x) = refl

section_step : (b : Bool) (s : Section) (o : Option Section) (r : Option (List file.Entry))
    → option_map (λ t. entries_in t.entries.entries) o ≡ r
    → option_map (λ t. entries_in t.entries.entries) (cond b (Some s) o) ≡ cond b (Some (entries_in s.entries.entries)) r
section_step true s o r e = refl
section_step false s o r e = e

entries_found : (name : List ℕ) (ss : List (String Global × Section))
    → option_map (λ s. entries_in s.entries.entries) (lookup (λ k. bytes_eq name (string_bytes k)) ss) ≡ entries_at (sections_in ss) name
entries_found name [] = refl
entries_found name (s ∷ ss) = section_step (bytes_eq name (string_bytes s.0)) s.1 _ _ (entries_found name ss)

pub section_found : (name : List ℕ) (ss : List (String Global × Section)) (r : Option (Bor Section))
    → option_copied r ≡ lookup (λ k. bytes_eq name (string_bytes k)) ss
    → option_map (λ s. entries_in s.now.entries.entries) r ≡ entries_at (sections_in ss) name
section_found name ss r e = copied r ∙ ap (option_map (λ (s : Section). entries_in s.entries.entries)) e ∙ entries_found name ss

entry_step : (b : Bool) (e : Entry) (f : file.Entry) (o : Option Entry) (r : Option file.Entry) → value_in e.value ≡ f.value
    → option_map (λ x. value_in x.value) o ≡ option_map (λ x. x.value) r
    → option_map (λ x. value_in x.value) (cond b (Some e) o) ≡ option_map (λ x. x.value) (cond b (Some f) r)
entry_step true e f o r s h = ap (λ (v : Value). Some v) s
entry_step false e f o r s h = h

pub value_found : (key : List ℕ) (es : List (String Global × Entry))
    → option_map (λ x. value_in x.value) (lookup (λ k. bytes_eq key (string_bytes k)) es)
    ≡ option_map (λ x. x.value) (entry_at (entries_in es) key)
value_found key [] = refl
value_found key (e ∷ es) = entry_step (bytes_eq key (string_bytes e.0)) e.1 _ _ _ refl (value_found key es)

pub got : (sections : List file.Section) (section key : List ℕ) (es : List file.Entry) → Some es ≡ entries_at sections section
    → option_map (λ x. x.value) (entry_at es key) ≡ value_at sections section key
got sections section key es e =
    ap (λ (w : Option (List file.Entry)). option_map (λ (x : file.Entry). x.value)
    (option_and_then (λ (entries : List file.Entry). entry_at entries key) w)) e
