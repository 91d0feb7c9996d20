-- Defines the output with the introspection document.
use Rattle.std.specs.Prelude.{List, ◌++◌, codes}
use Rattle.ports.specs.Outputs.{Step, opening_steps, closing_steps, puts}
use Rattle.build.specs.project.World.{WorldData}
use Rattle.introspection.specs.Document.{document_text}

-- Returns the steps of the whole document.
abbrev pub document_steps : WorldData → List Step
document_steps w = opening_steps (codes "meson-info/introspect.json") ++ (puts (document_text w) ++ closing_steps)
