-- Defines what a machine file says, as a relation by the form of each line.
use Rattle.std.specs.Prelude.{◌≡◌, ℕ, suc, true, false, List, [], ◌∷◌, ◌++◌, Some}
use Rattle.machine_file.specs.declared.section.SectionKind.{SectionKind}
use Rattle.machine_file.specs.Files.{Section, Open, Said, nothing_said, sections_said, has_key, has_name, cut_pair}
use Rattle.machine_file.specs.Lines.{Nothing, Header, Pair, form_of}
use Rattle.machine_file.specs.Sections.{kind_of, knows}
use Rattle.machine_file.specs.Values.{Value, value_of}

-- Begins a section of this name on this line, and ends the one before it.
abbrev pub with_begun : Said → ℕ → List ℕ → SectionKind → Said
with_begun s line name kind = record {
  ended = sections_said s;
  open_section = Some (record { name = name; kind = kind; line = line; entries = [] });
}

-- Adds a value at a key of the open section on this line.
abbrev pub with_given : Said → ℕ → Open → List ℕ → Value → Said
with_given s line o key v =
    record s { open_section = Some (record o { entries = o.entries ++ record { key = key; value = v; line = line } ∷ [] }) }

-- Relates what the first n lines have said to what is said after these further lines. An empty line or a comment says nothing. A section
-- has a known name that no earlier section has. A key is in a section that knows it and its value, and no earlier line in that section has
-- the same key.
pub data Says : Said → ℕ → List (List ℕ) → Said → Type 0 where
  end : (s : Said) (n : ℕ) → Says s n [] s
  nothing : (s t : Said) (n : ℕ) (l : List ℕ) (ls : List (List ℕ)) → form_of l ≡ Nothing → Says s (suc n) ls t → Says s n (l ∷ ls) t
  section : (s t : Said) (n : ℕ) (l : List ℕ) (ls : List (List ℕ)) (name : List ℕ) (kind : SectionKind)
      → form_of l ≡ Header name → kind_of name ≡ Some kind → has_name name (sections_said s) ≡ false
      → Says (with_begun s (suc n) name kind) (suc n) ls t → Says s n (l ∷ ls) t
  pair : (s t : Said) (n : ℕ) (l : List ℕ) (ls : List (List ℕ)) (text : List ℕ) (o : Open) (key value : List ℕ) (v : Value)
      → form_of l ≡ Pair text → s.open_section ≡ Some o → cut_pair o.kind text ≡ Some (key, value) → value_of value ≡ Some v
      → knows o.kind key v ≡ true → has_key key o.entries ≡ false
      → Says (with_given s (suc n) o key v) (suc n) ls t → Says s n (l ∷ ls) t

-- The lines are a machine file with these sections.
pub record AreSections (ls : List (List ℕ)) (sections : List Section) : Type 0 where
  pub said : Said
  pub reads : Says nothing_said 0 ls said
  pub all : sections ≡ sections_said said
