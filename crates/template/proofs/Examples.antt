-- Templates that a person worked out, which the definitions have to give.
use Rattle.std.proofs.Common.{◌≡◌, ℕ, pos, true, false, List, [], ◌∷◌, ◌++◌, map, Some, None, codes, refl}
use Rattle.std.specs.Fmt.{digits}
use Rattle.ports.specs.Outputs.{Step, puts, logs}
use Rattle.template.specs.Config.{Entries, Flag, Number, Bytes, printed_content, value_of}
use Rattle.template.specs.Header.{entry_lines, header_steps}
use Rattle.template.specs.Line.{BadDefine, body_length, defined_in, definition, definition_or_comment, words_with_first, in_place, is_placeholder_name, line_fault}
use Rattle.template.specs.Line.{line_steps, no_value, reading_of_line, reading_of, refusal, replaced_line, steps_of, value_or_warning}
use Rattle.template.specs.Line.{warning, words_after, begins_name, ending_backslashes, line_pieces, piece_steps, pieces_of, text_pieces}
use Rattle.template.specs.Template.{fault_from, first_fault, lines_of, onto, steps_from, template_fault, template_steps}

-- what is set
abbrev entries : Entries
entries = (codes "N", Number (pos 3)) ∷ (codes "OFF", Flag false) ∷ (codes "ON", Flag true) ∷ (codes "T", Bytes (codes "a b")) ∷ []

abbrev written : List ℕ → List Step
written bytes = template_steps entries (codes "c.in") bytes

-- `#mesondefine` by what the name stands for; blanks go, and the line's end stays
defined : map written (codes " #mesondefine  ON\r\n" ∷ codes "#mesondefine OFF\n" ∷ codes "#mesondefine N\n" ∷ codes "#mesondefine T" ∷ codes "#mesondefine U\n" ∷ [])
    ≡ puts (codes "#define ON\r\n") ∷ puts (codes "#undef OFF\n") ∷ puts (codes "#define N 3\n") ∷ puts (codes "#define T a b") ∷ puts (codes "/* undef U */\n") ∷ []
unfolding steps_from lines_of onto line_steps steps_of line_fault refusal reading_of_line reading_of words_after body_length words_with_first defined_in is_placeholder_name definition definition_or_comment value_of printed_content digits puts logs
defined = refl

-- Values between `@`, as they are printed. What is no name stays, and its last `@` may begin one.
values : map written (codes "x@T@y @N@@ON@ @OFF@\n" ∷ codes "me@a b@N@ @@" ∷ [])
    ≡ puts (codes "xa by 3true false\n") ∷ puts (codes "me@a b3 @@") ∷ []
unfolding steps_from lines_of onto line_steps steps_of line_fault refusal reading_of_line reading_of words_after body_length words_with_first replaced_line line_pieces pieces_of text_pieces ending_backslashes begins_name is_placeholder_name piece_steps in_place value_or_warning value_of printed_content digits puts logs
values = refl

-- one that is not set gives nothing, and a line of the log at its place
without_value : written (codes "a\n<@U@>\n") ≡ puts (codes "a\n<") ++ (logs (codes "WARNING: c.in:2: no value for U\n") ++ puts (codes ">\n"))
unfolding steps_from lines_of onto line_steps steps_of line_fault refusal reading_of_line reading_of words_after body_length words_with_first replaced_line line_pieces pieces_of text_pieces ending_backslashes begins_name is_placeholder_name piece_steps in_place value_or_warning warning no_value value_of digits puts logs
without_value = refl

-- of two backslashes before `@` one stays, and one alone goes and the `@` begins no name; elsewhere they stay
backslashes : map written (codes "\\@N@" ∷ codes "\\\\@N@" ∷ codes "\\\\\\@N@" ∷ codes "\\n\\\\ @N@\\" ∷ [])
    ≡ puts (codes "@N@") ∷ puts (codes "\\3") ∷ puts (codes "\\@N@") ∷ puts (codes "\\n\\\\ 3\\") ∷ []
unfolding steps_from lines_of onto line_steps steps_of line_fault refusal reading_of_line reading_of words_after body_length words_with_first replaced_line line_pieces pieces_of text_pieces ending_backslashes begins_name is_placeholder_name piece_steps in_place value_or_warning value_of printed_content digits puts logs
backslashes = refl

-- A line is refused that has no name, two, or what is none, or whose word goes on. Another first word begins no such line.
refused : map template_fault (codes "a\n#mesondefine\n" ∷ codes "#mesondefine N ON\n" ∷ codes "#mesondefine N+\n" ∷ codes "#mesondefined N\n" ∷ codes "x #mesondefine\n# mesondefine\n" ∷ [])
    ≡ Some (2, BadDefine) ∷ Some (1, BadDefine) ∷ Some (1, BadDefine) ∷ Some (1, BadDefine) ∷ None ∷ []
unfolding fault_from lines_of onto first_fault line_fault refusal reading_of_line reading_of words_after body_length words_with_first defined_in is_placeholder_name
refused = refl

-- what stands before it was written, and it and the lines behind it are not
written_before : written (codes "@N@\n#mesondefine\n@N@\n") ≡ puts (codes "3\n")
unfolding steps_from lines_of onto line_steps steps_of line_fault refusal reading_of_line reading_of words_after body_length words_with_first defined_in is_placeholder_name replaced_line line_pieces pieces_of text_pieces ending_backslashes begins_name piece_steps in_place value_or_warning value_of printed_content digits puts logs
written_before = refl

-- without a template: the head, and each key's line
header : header_steps entries ≡ puts (codes "/* Generated. Do not edit. */\n#pragma once\n\n#define N 3\n#undef OFF\n#define ON\n#define T a b\n")
unfolding entry_lines definition printed_content digits puts logs
header = refl
