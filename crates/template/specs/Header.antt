-- Defines what a header without a template writes.
use Rattle.std.specs.Prelude.{List, [], ◌∷◌, ◌++◌, codes}
use Rattle.ports.specs.Outputs.{Step, puts}
use Rattle.template.specs.Config.{Entries}
use Rattle.template.specs.Line.{definition}

-- Returns the line of each entry.
unfoldable pub entry_lines : Entries → List Step
entry_lines [] = []
entry_lines (entry ∷ entries) = definition entry.0 entry.1 ++ (puts (codes "\n") ++ entry_lines entries)

-- Returns the head, and a line for each entry.
abbrev pub header_steps : Entries → List Step
header_steps entries = puts (codes "/* Generated. Do not edit. */\n#pragma once\n\n") ++ entry_lines entries
