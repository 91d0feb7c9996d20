-- What a template or a header writes opens and closes no output.
use Rattle.std.proofs.Common.{◌≡◌, ℕ, Bool, true, false, List, [], ◌∷◌, ◌++◌, Option, Some, None, is_some, refl, ap, ◌∙◌}
use Prim.Native.Char.{code}
use Rattle.std.specs.Prelude.{◌+◌, ◌/◌, codes, drop, replicate, flat_map, decimal, if◌then◌else◌}
use Rattle.ports.specs.Outputs.{Step, name_after, puts, logs}
use Rattle.ports.proofs.OpenNames.{name_after-puts, name_after-logs}
use Rattle.ports.proofs.Sending.{name_after-append}
use Rattle.template.specs.Config.{Content, Flag, Number, Bytes, Entries, printed_content, value_of}
use Rattle.template.specs.Header.{entry_lines, header_steps}
use Rattle.template.specs.Line.{Reading, Plain, Defines, Malformed, TooLong, body_length, definition, definition_or_comment, in_place}
use Rattle.template.specs.Line.{line_fault, line_steps, no_value, reading_of_line, replaced_line, steps_of, value_or_warning, warning}
use Rattle.template.specs.Line.{Piece, Text, Backslashes, Sign, Name, line_pieces, piece_steps}
use Rattle.template.specs.Template.{lines_of, steps_from, template_steps}

-- whichever output is open before these steps is open after them
pub record Stays (steps : List Step) : Type 0 where
  pub is : (name : Option (List ℕ)) → name_after name steps ≡ name

nothing : Stays []
unfolding name_after
nothing = record { is = λ name. refl }

written : (bytes : List ℕ) → Stays (puts bytes)
written bytes = record { is = λ name. name_after-puts name bytes }

logged : (bytes : List ℕ) → Stays (logs bytes)
logged bytes = record { is = λ name. name_after-logs name bytes }

joined : {a b : List Step} → Stays a → Stays b → Stays (a ++ b)
joined {a = a} {b = b} p q = record { is = λ name. name_after-append name a b ∙ ap (λ n. name_after n b) (p.is name) ∙ q.is name }

either : (c : Bool) {a b : List Step} → Stays a → Stays b → Stays (if c then a else b)
either true p q = p
either false p q = q

-- ---- a line

no_value-stays : (name : List ℕ) → Stays (no_value name)
unfolding no_value
no_value-stays name = joined (logged (codes ": no value for ")) (joined (logged name) (logged (codes "\n")))

warning-stays : (path : List ℕ) (number : ℕ) (name : List ℕ) → Stays (warning path number name)
unfolding warning
warning-stays path number name =
    joined (logged (codes "WARNING: ")) (joined (logged path) (joined (logged (codes ":")) (joined (logged (decimal number)) (no_value-stays name))))

value-stays : (content : Option Content) {steps : List Step} → Stays steps → Stays (value_or_warning content steps)
unfolding value_or_warning
value-stays (Some content) p = written (printed_content content)
value-stays None p = p

in_place-stays : (entries : Entries) (path : List ℕ) (number : ℕ) (name : List ℕ) → Stays (in_place entries path number name)
unfolding in_place
in_place-stays entries path number name = value-stays (value_of entries name) (warning-stays path number name)

piece-stays : (entries : Entries) (path : List ℕ) (number : ℕ) (piece : Piece) → Stays (piece_steps entries path number piece)
unfolding piece_steps
piece-stays entries path number (Text bytes) = written bytes
piece-stays entries path number (Backslashes count) = written (replicate (count / 2) (code "\\"))
piece-stays entries path number Sign = written (codes "@")
piece-stays entries path number (Name name) = in_place-stays entries path number name

pieces-stay : (entries : Entries) (path : List ℕ) (number : ℕ) (pieces : List Piece) → Stays (flat_map (piece_steps entries path number) pieces)
pieces-stay entries path number [] = nothing
pieces-stay entries path number (piece ∷ pieces) = joined (piece-stays entries path number piece) (pieces-stay entries path number pieces)

replaced-stays : (entries : Entries) (path : List ℕ) (number : ℕ) (line : List ℕ) → Stays (replaced_line entries path number line)
unfolding replaced_line
replaced-stays entries path number line = pieces-stay entries path number (line_pieces line)

definition-stays : (name : List ℕ) (content : Content) → Stays (definition name content)
unfolding definition
definition-stays name (Flag true) = joined (written (codes "#define ")) (written name)
definition-stays name (Flag false) = joined (written (codes "#undef ")) (written name)
definition-stays name (Number z) = joined (written (codes "#define ")) (joined (written name) (joined (written (codes " ")) (written (printed_content (Number z)))))
definition-stays name (Bytes text) = joined (written (codes "#define ")) (joined (written name) (joined (written (codes " ")) (written (printed_content (Bytes text)))))

definition_or_comment-stays : (name : List ℕ) (content : Option Content) → Stays (definition_or_comment name content)
unfolding definition_or_comment
definition_or_comment-stays name None = joined (written (codes "/* undef ")) (joined (written name) (written (codes " */")))
definition_or_comment-stays name (Some content) = definition-stays name content

read-stays : (entries : Entries) (path : List ℕ) (number : ℕ) (bytes : List ℕ) (r : Reading) → Stays (steps_of entries path number bytes r)
unfolding steps_of
read-stays entries path number bytes Plain = replaced-stays entries path number bytes
read-stays entries path number bytes (Defines name) = joined (definition_or_comment-stays name (value_of entries name)) (written (drop (body_length bytes) bytes))
read-stays entries path number bytes Malformed = nothing
read-stays entries path number bytes TooLong = nothing

line-stays : (entries : Entries) (path : List ℕ) (number : ℕ) (bytes : List ℕ) → Stays (line_steps entries path number bytes)
unfolding line_steps
line-stays entries path number bytes = read-stays entries path number bytes (reading_of_line bytes)

-- ---- a template, and a header without one

lines-stay : (entries : Entries) (path : List ℕ) (number : ℕ) (lines : List (List ℕ)) → Stays (steps_from entries path number lines)
unfolding steps_from
lines-stay entries path number [] = nothing
lines-stay entries path number (line ∷ lines) =
    joined (line-stays entries path number line) (either (is_some (line_fault line)) nothing (lines-stay entries path (number + 1) lines))

pub template_stays : (entries : Entries) (path bytes : List ℕ) → Stays (template_steps entries path bytes)
template_stays entries path bytes = lines-stay entries path 1 (lines_of bytes)

entry_lines-stay : (entries : Entries) → Stays (entry_lines entries)
unfolding entry_lines
entry_lines-stay [] = nothing
entry_lines-stay (entry ∷ entries) = joined (definition-stays entry.0 entry.1) (joined (written (codes "\n")) (entry_lines-stay entries))

pub header_stays : (entries : Entries) → Stays (header_steps entries)
header_stays entries = joined (written (codes "/* Generated. Do not edit. */\n#pragma once\n\n")) (entry_lines-stay entries)
