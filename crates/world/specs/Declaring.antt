-- Defines deeds that declare something about the project.
use Rattle.std.specs.Prelude.{◌≡◌, ℕ, List, Result, Ok, Err, refl}
use Rattle.build.specs.edge.Texts.{Text}
use Rattle.build.specs.project.Adding.{after_answer, after_target, arguments_answer, target_answer, with_arguments, with_dependency}
use Rattle.build.specs.project.Adding.{with_install, with_link_arguments, with_target, with_test}
use Rattle.build.specs.project.World.{WorldData, AnswerData, InstallData, TestData}
use Rattle.build.specs.project.Refused.{RefusedData}
use Rattle.build.specs.Data.{TargetData}
use Rattle.world.specs.World.{KeepsPaths, facts_after_declaration, paths_in}
use Rattle.world.specs.Deed.{Deed, give, refuse, read, change, ◌>>=◌}

-- Returns the result of the project, or its refusal with its detail.
unfoldable pub project_answer : {A : Type 0} → Result A RefusedData → Deed A
project_answer (Ok a) = give a
project_answer (Err refused) = refuse refused.why refused.detail

-- Proves that a declaration keeps the noted paths, if its change does so whenever the project does not refuse it.
abbrev pub after_answer-keeps : {A : Type 0} (answer : Result A RefusedData) (after before : WorldData)
    → paths_in after ≡ paths_in before → paths_in (after_answer answer after before) ≡ paths_in before
after_answer-keeps (Ok a) after before same = same
after_answer-keeps (Err refused) after before same = refl

-- Changes the project by `after`, and returns the result of `answer`, or its refusal, for the project before the change.
unfoldable pub project_declaration : {A : Type 0} → (answer : WorldData → Result A RefusedData) → (after : WorldData → WorldData)
    → KeepsPaths after → Deed A
project_declaration answer after keeps = do
  facts ← read
  _ ← change (facts_after_declaration after) (λ facts. keeps facts.project)
  project_answer (answer facts.project)

-- Adds a target, and returns its number.
unfoldable pub add_target : TargetData → Deed ℕ
add_target t =
    project_declaration (λ p. target_answer p t) (λ p. after_target p t)
    (λ p. after_answer-keeps (target_answer p t) (with_target p t) p refl)

-- Returns the project after arguments for all compile commands are added, or unchanged if it refuses them.
abbrev pub after_arguments : List Text → WorldData → WorldData
after_arguments words p = after_answer (arguments_answer p words) (with_arguments p words) p

-- Adds arguments to all compile commands.
unfoldable pub add_arguments : List Text → Deed (Unit {0})
add_arguments words =
    project_declaration (λ p. arguments_answer p words) (after_arguments words)
    (λ p. after_answer-keeps (arguments_answer p words) (with_arguments p words) p refl)

-- Returns the project after arguments for all link commands are added, or unchanged if it refuses them.
abbrev pub after_link_arguments : List Text → WorldData → WorldData
after_link_arguments words p = after_answer (arguments_answer p words) (with_link_arguments p words) p

-- Adds arguments to all link commands.
unfoldable pub add_link_arguments : List Text → Deed (Unit {0})
add_link_arguments words =
    project_declaration (λ p. arguments_answer p words) (after_link_arguments words)
    (λ p. after_answer-keeps (arguments_answer p words) (with_link_arguments p words) p refl)

-- ---- what the project only records

-- Records the result of a call of `dependency`.
unfoldable pub add_dependency : AnswerData → Deed (Unit {0})
add_dependency answer = change (facts_after_declaration (λ p. with_dependency p answer)) (λ facts. refl)

-- Records a file to be installed.
unfoldable pub add_install : InstallData → Deed (Unit {0})
add_install install = change (facts_after_declaration (λ p. with_install p install)) (λ facts. refl)

-- Records a test.
unfoldable pub add_test : TestData → Deed (Unit {0})
add_test test = change (facts_after_declaration (λ p. with_test p test)) (λ facts. refl)
