-- Defines the methods of the C compiler. They change nothing: the machine file answers all of them.
use Rattle.std.specs.Prelude.{ℕ, Bool, List, [], ◌∷◌, Option, Some, None, is_some, codes, if◌then◌else◌}
use Rattle.arguments.specs.Arguments.{ArgumentsData}
use Rattle.values.specs.Flat.{flat_all}
use Rattle.arguments.specs.Given.{text_or_none}
use Rattle.arguments.specs.Leaves.{leaves_from}
use Rattle.values.specs.Data.{Data, integer, list, Items, no_items, item, items_append}
use Rattle.values.specs.Limits.{within}
use Rattle.support.specs.declared.faults.refusal.Refusal.TheVariants as refusals
use Rattle.machine_file.specs.Questions.{Answer, check_topic, question_about}
use Rattle.resources.specs.Beside.{call_question}
use Rattle.world.specs.Deed.{Deed, give, refuse, consult, ◌>>=◌, answer_or_refusal}
use Rattle.world.specs.Fit.{fit}
use Rattle.methods.specs.CompilerChecks.{check, find_library}
use Rattle.values.specs.language_names.ObjectMethods.{compiler_method_named}
use Rattle.methods.specs.CompilerRows.{row_of}
use Rattle.methods.specs.Keys.{text_of_key}
use Rattle.methods.specs.CompilerSaid.{argument_topic, is_true, integer_answer}
use Rattle.values.specs.declared.language_names.object_methods.CompilerMethod.{CompilerMethod}
use Rattle.values.specs.declared.language_names.object_methods.CompilerMethod.TheVariants as methods

-- Defines `get_id()`: the compiler, which is `gcc` by default.
abbrev pub get_id : Deed (Option Data)
get_id = text_of_key (codes "compiler") (codes "id") (codes "gcc")

-- Defines `version()`: the version of the compiler, which is `unknown` by default.
abbrev pub version : Deed (Option Data)
version = text_of_key (codes "compiler") (codes "version") (codes "unknown")

-- Returns the integer that the machine file has for `sizeof` or `alignment` with these arguments, and -1 if it has none.
unfoldable pub number : (method : List ℕ) → ArgumentsData → Deed (Option Data)
number method a = do
  answer ← consult (call_question (check_topic method (flat_all a.positional)) a)
  give (Some (integer (integer_answer answer)))

-- Returns the argument itself if the compiler supports it, and nothing otherwise.
abbrev pub argument_if_supported : Data → Answer → Items
argument_if_supported d answer = if is_true answer then item d no_items else no_items

-- Returns the arguments already taken, followed by those that the compiler supports, in order, with repetitions.
unfoldable pub supported_arguments : (taken : Items) → List Data → Deed Items
supported_arguments taken [] = give taken
supported_arguments taken (d ∷ ds) = do
  answer ← consult (question_about (argument_topic (text_or_none (Some d))))
  supported_arguments (items_append taken (argument_if_supported d answer)) ds

-- Returns the list of the arguments that the compiler supports, in their order (`get_supported_arguments`).
unfoldable pub get_supported_arguments : ArgumentsData → Deed (Option Data)
get_supported_arguments a = do
  taken ← supported_arguments no_items (leaves_from 0 a)
  d ← answer_or_refusal (within (list taken))
  give (Some d)

-- Runs a method with arguments that its row has accepted.
abbrev pub does : CompilerMethod → (name : List ℕ) → ArgumentsData → Deed (Option Data)
does methods.Check name a = check name a
does methods.CheckInside name a = check name a
does methods.FindLibrary name a = find_library a
does methods.Id name a = get_id
does methods.Number name a = number name a
does methods.SupportedArguments name a = get_supported_arguments a
does methods.Version name a = version

-- Holds if the compiler has a supported method with this name.
abbrev pub has_method : List ℕ → Bool
has_method name = is_some (compiler_method_named name)

-- Checks the arguments of a method by its row, and then runs it.
unfoldable pub compiler_method_call : CompilerMethod → (name : List ℕ) → ArgumentsData → Deed (Option Data)
compiler_method_call method name a = do
  _ ← fit (row_of method) a
  does method name a

-- Runs a method, and refuses an unknown one with E8.
abbrev pub called_by : Option CompilerMethod → (name : List ℕ) → ArgumentsData → Deed (Option Data)
called_by None name a = refuse refusals.UnknownFunction []
called_by (Some method) name a = compiler_method_call method name a

-- Runs the method with a name, and refuses an unknown name with E8.
unfoldable pub compiler_method : (name : List ℕ) → ArgumentsData → Deed (Option Data)
compiler_method name a = called_by (compiler_method_named name) name a
