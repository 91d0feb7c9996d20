-- Defines what the lines of a machine file say.
use Rattle.std.specs.Prelude.{ℕ, suc, Bool, false, not, ◌&&◌, List, [], ◌∷◌, ◌++◌, Option, Some, None, Result, Ok, Err, codes}
use Rattle.std.specs.Prelude.{if◌then◌else◌, bytes_eq}
use Rattle.std.specs.List.{list_any}
use Rattle.std.specs.Option.{option_map, option_to_list}
use Rattle.std.specs.Result.{result_map_both}
use Rattle.syntax.specs.lexer.Bytes.{equals}
use Rattle.machine_file.specs.declared.text.Blanks.TheVariants as blanks
use Rattle.machine_file.specs.Fault.{MachineFaultData, bad_line}
use Rattle.machine_file.specs.Texts.{Parts, trimmed_text, cut_first, cut_last}
use Rattle.machine_file.specs.Lines.{Form, Nothing, Header, Pair, form_of}
use Rattle.machine_file.specs.Values.{Value, Text, value_of}
use Rattle.machine_file.specs.Sections.{kind_of, knows, cuts_last}
use Rattle.machine_file.specs.Misfits.{refused_misfit, NoSection, SectionTwice, Outside, NoSign, NoValue, misfit_of}
use Rattle.machine_file.specs.declared.section.SectionKind.{SectionKind}
use Rattle.machine_file.specs.declared.section.SectionKind.TheVariants as Kinds

-- A key, its value, and the line that gives it.
pub record Entry : Type 0 where
  pub key : List ℕ
  pub value : Value
  pub line : ℕ

-- A section: its name and its entries, in the order of their lines.
pub record Section : Type 0 where
  pub name : List ℕ
  pub entries : List Entry

-- A section that further lines may add to, and its line.
pub record Open : Type 0 where
  pub name : List ℕ
  pub kind : SectionKind
  pub line : ℕ
  pub entries : List Entry

-- The meaning of the lines so far: the sections that have ended, and the one to which the next line belongs.
pub record Said : Type 0 where
  pub ended : List Section
  pub open_section : Option Open

-- Returns what no lines say.
abbrev pub nothing_said : Said
nothing_said = record { ended = []; open_section = None }

-- Returns whether one of the entries has this key.
abbrev pub has_key : List ℕ → List Entry → Bool
has_key key entries = list_any (λ e. bytes_eq key e.key) entries

-- Returns whether one of the sections has this name.
abbrev pub has_name : List ℕ → List Section → Bool
has_name name sections = list_any (λ s. bytes_eq name s.name) sections

-- Returns whether the section is a dependency without a version.
abbrev pub lacks_version : SectionKind → List Entry → Bool
lacks_version Kinds.Dependency entries = not (has_key (codes "version") entries)
lacks_version _ entries = false

-- Returns the version `unknown`, at the line of the section, for a dependency without a version.
abbrev pub default_entries : SectionKind → ℕ → List Entry → List Entry
default_entries kind line entries =
    if lacks_version kind entries then record { key = codes "version"; value = Text (codes "unknown"); line = line } ∷ [] else []

-- Returns a section at its end.
abbrev pub closed_section : Open → Section
closed_section o = record { name = o.name; entries = o.entries ++ default_entries o.kind o.line o.entries }

-- Returns all sections, at the end of the lines.
abbrev pub sections_said : Said → List Section
sections_said s = s.ended ++ option_to_list (option_map closed_section s.open_section)

-- Begins a section on this line. Its name has to be known and new.
abbrev pub with_section : Said → ℕ → List ℕ → Option SectionKind → Result Said (List ℕ)
with_section s line name None = refused_misfit (NoSection name)
with_section s line name (Some kind) =
    if has_name name (sections_said s) then refused_misfit (SectionTwice name)
    else Ok (record {
      ended = sections_said s;
      open_section = Some (record { name = name; kind = kind; line = line; entries = [] });
    })

-- Returns a key and its value, without blanks at their ends. The kind of section decides at which `=` they are cut.
abbrev pub cut_pair : SectionKind → List ℕ → Option Parts
cut_pair kind text =
    option_map (λ parts. (trimmed_text blanks.All parts.0, trimmed_text blanks.All parts.1))
    (if cuts_last kind then cut_last equals text else cut_first equals text)

-- Returns whether a section of this kind with these entries takes this value at this key: it knows the key and the value, and the key is
-- new.
abbrev pub takes : SectionKind → List Entry → List ℕ → Value → Bool
takes kind entries key v = knows kind key v && not (has_key key entries)

-- Appends a value to the entries of a section of this name and kind.
abbrev pub with_value : List ℕ → SectionKind → List Entry → ℕ → List ℕ → Option Value → Result (List Entry) (List ℕ)
with_value section kind entries line key None = refused_misfit (NoValue section key)
with_value section kind entries line key (Some v) =
    if takes kind entries key v then Ok (entries ++ record { key = key; value = v; line = line } ∷ [])
    else refused_misfit (misfit_of section kind key v)

-- Appends a key and a value to the entries, or refuses a line without `=`.
abbrev pub with_parts : List ℕ → SectionKind → List Entry → ℕ → Option Parts → Result (List Entry) (List ℕ)
with_parts section kind entries line None = refused_misfit (NoSign section)
with_parts section kind entries line (Some parts) = with_value section kind entries line parts.0 (value_of parts.1)

-- Appends the key and value of a line to the entries of a section of this name and kind.
unfoldable pub with_pair : List ℕ → SectionKind → List Entry → ℕ → List ℕ → Result (List Entry) (List ℕ)
with_pair section kind entries line text = with_parts section kind entries line (cut_pair kind text)

-- Replaces the entries of the open section.
abbrev pub with_entries : Said → Open → List Entry → Said
with_entries s o entries = record s { open_section = Some (record o { entries = entries }) }

-- Reads a key and its value on this line. A section has to be open.
abbrev pub in_section : Said → ℕ → List ℕ → Option Open → Result Said (List ℕ)
in_section s line text None = refused_misfit Outside
in_section s line text (Some o) = result_map_both (with_entries s o) (λ detail. detail) (with_pair o.name o.kind o.entries line text)

-- Reads one more line of this form.
abbrev pub after_form : Said → ℕ → Form → Result Said (List ℕ)
after_form s line Nothing = Ok s
after_form s line (Header name) = with_section s line name (kind_of name)
after_form s line (Pair text) = in_section s line text s.open_section

-- Reads one more line, which has this number and no blanks at its ends, or returns why it is not allowed there.
unfoldable pub after : Said → ℕ → List ℕ → Result Said (List ℕ)
after s line text = after_form s line (form_of text)

-- Continues with the rest of the lines, or returns the first line that is not allowed where it is.
abbrev pub continue_with : (Said → Result Said MachineFaultData) → ℕ → Result Said (List ℕ) → Result Said MachineFaultData
continue_with rest line (Err detail) = Err (bad_line line detail)
continue_with rest line (Ok s) = rest s

-- Reads these lines, which follow line number n.
unfoldable pub said_from : List (List ℕ) → ℕ → Said → Result Said MachineFaultData
said_from [] n s = Ok s
said_from (l ∷ ls) n s = continue_with (said_from ls (suc n)) (suc n) (after s (suc n) l)

-- Returns the sections of a machine file with these lines, or the first line up to which they begin no machine file.
unfoldable pub machine_of : List (List ℕ) → Result (List Section) MachineFaultData
machine_of ls = result_map_both sections_said (λ fault. fault) (said_from ls 0 nothing_said)
