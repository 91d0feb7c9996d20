-- Defines what `meson questions` prints: what a run asks of the machine file, as lines, and how the run ends.
use Rattle.std.specs.Prelude.{ℕ, Bool, ◌&&◌, List, [], ◌∷◌, ◌++◌, map, codes, Option, Some, None, if◌then◌else◌}
use Rattle.std.specs.List.{flat_map, list_any}
use Rattle.std.specs.Str.{bytes_eq}
use Rattle.ports.specs.Outputs.{logs}
use Rattle.support.specs.Faults.{FaultData}
use Rattle.machine_file.specs.Files.{Section}
use Rattle.machine_file.specs.Questions.{answer_to}
use Rattle.backend.specs.Concluding.{Whole, faulted_with, told_before}
use Rattle.backend.specs.declared.run_end.Status.TheVariants as statuses
use Rattle.introspection.specs.Questions.{Line, beside_text, head_text, line_text, lines_of}
use Rattle.world.specs.Deed.{Files}
use Rattle.world.specs.Run.{Outcome, Done, Faulted, outcome_of}
use Rattle.world.specs.Settings.{SettingsData}
use Rattle.world.specs.World.{Asked}
use Rattle.interp.specs.Evaluation.{MachineSaid, evaluated_files, sections_of}
use Rattle.meson.specs.Laws.{asked_by}

-- What a line has apart from its place: the text of its section, key and answer, and the text of what else the call stated.
abbrev pub Label : Type 0
Label = List ℕ × List ℕ

-- Returns whether two labels are the same.
abbrev pub same_label : Label → Label → Bool
same_label l m = bytes_eq l.0 m.0 && bytes_eq l.1 m.1

-- Returns whether a label is one of these.
abbrev pub is_told : Label → List Label → Bool
is_told l told = list_any (same_label l) told

-- Returns the label of a line, and its text with the place of the call that asked.
abbrev pub line_texts : Asked → Line → Label × List ℕ
line_texts a l = ((head_text l, beside_text l.asides), line_text l a.file a.line)

-- Returns the lines of a question that was asked, with the answer of these sections.
abbrev pub lines_asked : List Section → Asked → List (Label × List ℕ)
lines_asked sections a = map (line_texts a) (lines_of a.question (answer_to sections a.question.topic))

-- Keeps the first of the lines that differ only in their places, each with a newline. `told` holds the labels that occurred before.
abbrev pub first_told : List Label → List (Label × List ℕ) → List ℕ
first_told told [] = []
first_told told (l ∷ ls) =
    if is_told l.0 told then first_told told ls else l.1 ++ (codes "\n" ++ first_told (told ++ l.0 ∷ []) ls)

-- Returns the lines of all questions, in the order in which they are asked, each once.
abbrev pub questions_text : List Section → List Asked → List ℕ
questions_text sections asked = first_told [] (flat_map (lines_asked sections) asked)

-- Returns the fault in which a run ends.
abbrev pub fault_of : {A : Type 0} → Outcome A → Option FaultData
fault_of (Done x) = None
fault_of (Faulted f) = Some f

-- Returns the steps of a run's fault, if it has one, and the status.
abbrev pub ending_with : Option FaultData → Whole
ending_with None = record { steps = []; status = statuses.Done }
ending_with (Some f) = faulted_with f

-- Returns lines for the log, followed by that end.
abbrev pub lines_then : List ℕ → Option FaultData → Whole
lines_then text fault = told_before (logs text) (ending_with fault)

-- Returns what `meson questions` prints for these files, settings and reading of a machine file: the lines of all questions, in the log,
-- then the line of the run's fault. Nothing else is written.
abbrev pub questions_of : Files → SettingsData → MachineSaid → Whole
questions_of files s said =
    lines_then (questions_text (sections_of said) (asked_by files s said)) (fault_of (outcome_of (evaluated_files files s said)))
