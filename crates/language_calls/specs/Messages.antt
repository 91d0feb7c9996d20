-- Defines `message`, `warning`, `error` and `assert`: what the user is shown.
use Rattle.std.specs.Prelude.{ℕ, true, List, [], ◌∷◌, ◌++◌, Option, None, codes}
use Rattle.std.specs.List.{list_all}
use Rattle.values.specs.Data.{Data}
use Rattle.support.specs.declared.faults.refusal.Refusal.TheVariants as refusals
use Rattle.values.specs.printing.Pieces.{whole}
use Rattle.values.specs.printing.Printed.{is_printable, text_of_value}
use Rattle.arguments.specs.Arguments.{ArgumentsData}
use Rattle.arguments.specs.Given.{flag_at, text_or}
use Rattle.language_calls.specs.Saying.{behind_spaces}
use Rattle.world.specs.Deed.{Deed, give, refuse, ◌>>=◌, say, need}

-- Returns printed values with a space between each two. The result may be longer than a text can be.
abbrev pub line_of : List Data → List ℕ
line_of [] = []
line_of (d ∷ ds) = whole (text_of_value d ∷ behind_spaces ds)

-- Refuses the call if a value cannot be printed (E9).
unfoldable pub need_printable : List Data → Deed (Unit {0})
need_printable ds = need (list_all is_printable ds) refusals.Arguments (codes "arguments: one can't be printed")

-- Writes a line that begins with `start` to the log.
unfoldable pub logged_line : List ℕ → ArgumentsData → Deed (Option Data)
logged_line start a = do
  _ ← need_printable a.positional
  _ ← say (start ++ (line_of a.positional ++ codes "\n"))
  give None

-- Writes a line with `Message: ` and the printed values to the log (`message`).
unfoldable pub message : ArgumentsData → Deed (Option Data)
message a = logged_line (codes "Message: ") a

-- Writes a line with `WARNING: ` and the printed values to the log (`warning`).
unfoldable pub warning : ArgumentsData → Deed (Option Data)
warning a = logged_line (codes "WARNING: ") a

-- Defines `error(values..)`, which ends the run with E18 and the printed values.
unfoldable pub error : ArgumentsData → Deed (Option Data)
error a = do
  _ ← need_printable a.positional
  refuse refusals.Message (line_of a.positional)

-- Defines `assert(condition, text)`, which ends the run with E18 if the condition is false.
unfoldable pub assert : ArgumentsData → Deed (Option Data)
assert a = do
  _ ← need (flag_at 0 true a) refusals.Message (text_or 1 (codes "assert") a)
  give None
