-- Defines how the text of an edge is put, one piece after another.
use Rattle.std.specs.Prelude.{ℕ, List, [], ◌∷◌, ◌++◌, Option, Some, None, String, codes, flat_map, map, option_map, string_bytes}
use Rattle.std.specs.declared.alloc.Global.{Global}
use denote.Ref.{Bor}
use Rattle.ports.specs.Outputs.{Step, puts}
use Rattle.build.specs.declared.edge.parts.LentEdge.{LentEdge}
use Rattle.build.specs.declared.edge.parts.OwnParts.{OwnParts}
use Rattle.build.specs.declared.edge.parts.SharedParts.{SharedParts}
use Rattle.build.specs.edge.Texts.{texts}
use Rattle.ninja.specs.Escapes.{path_text, value_rest_text, value_text}
use Rattle.ninja.specs.Places.{byte_text}
use Rattle.ninja.specs.Words.{first_word_text, word_text, words_text}
use Rattle.ninja.specs.Writing.{rule_text}
use Rattle.ninja.specs.declared.escapes.EscapeMode.TheVariants.{InQuotes}

-- ---- words

-- Returns the steps that write a word in single quotes. A quote in the word is escaped for the shell, and a `$` for Ninja.
abbrev pub quoted_steps : List ℕ → List Step
quoted_steps word = puts (codes "'") ++ (puts (flat_map (byte_text InQuotes) word) ++ puts (codes "'"))

-- Returns the steps that write a space and a word of a command, in quotes if the word needs them.
abbrev pub later_word_steps : List ℕ → List Step
later_word_steps word = puts (codes " ") ++ puts (value_rest_text (word_text word))

-- Returns the steps that write the words of a command after the first, each after a space.
abbrev pub later_words_steps : List (String Global) → List Step
later_words_steps words = flat_map (λ w. later_word_steps (string_bytes w)) words

-- Returns the steps that write ` > ` and the file that receives a command's output, and none if there is no such file.
abbrev pub redirect_steps : Option (List ℕ) → List Step
redirect_steps None = []
redirect_steps (Some name) = puts (codes " > ") ++ puts (value_rest_text (word_text name))

-- Returns the steps that write `> ` and the file that receives the output of a command without words, and none if there is no file.
abbrev pub lone_redirect_steps : Option (List ℕ) → List Step
lone_redirect_steps None = []
lone_redirect_steps (Some name) = puts (codes "> ") ++ puts (value_rest_text (word_text name))

-- Returns the steps that write a command: its first word, its later words, and the file that receives its output, if there is one.
abbrev pub words_steps : List ℕ → List (String Global) → Option (List ℕ) → List Step
words_steps first later redirect = puts (value_rest_text (first_word_text first)) ++ (later_words_steps later ++ redirect_steps redirect)

-- ---- the line of an edge

-- Returns the steps that write a space and a path, with a `$` before each dollar sign, space and colon of the path.
abbrev pub spaced_path_steps : List ℕ → List Step
spaced_path_steps path = puts (codes " ") ++ puts (path_text path)

-- Returns the steps that write paths, each after a space.
abbrev pub paths_steps : List (String Global) → List Step
paths_steps paths = flat_map (λ p. spaced_path_steps (string_bytes p)) paths

-- Returns the steps that write a sign and the paths after it, each after a space. Returns none if there are no paths.
abbrev pub signed_paths_steps : List ℕ → List (String Global) → List Step
signed_paths_steps sign [] = []
signed_paths_steps sign (p ∷ ps) = puts sign ++ paths_steps (p ∷ ps)

-- Returns the steps that write the `build` line of an edge, without its newline (Ninja manual, "Ninja file reference").
abbrev pub build_steps : LentEdge → List Step
build_steps e =
    puts (codes "build")
    ++ (paths_steps e.outputs.now
    ++ (puts (codes ": ")
    ++ (puts (rule_text e.rule)
    ++ (paths_steps e.inputs.now
    ++ (signed_paths_steps (codes " |") e.implicit.now ++ signed_paths_steps (codes " ||") e.order_only.now)))))

-- ---- its bindings

-- Returns the steps that write the `DEPFILE` line, if there is a depfile, and the empty line that ends the block.
abbrev pub end_steps : Option (List ℕ) → List Step
end_steps None = puts (codes "\n")
end_steps (Some path) = puts (codes " DEPFILE = ") ++ (puts (value_text path) ++ puts (codes "\n\n"))

-- Returns the steps that write the rest of an edge's block: the newline of the `build` line, the variables, and an empty line.
abbrev pub bindings_steps : LentEdge → List Step
bindings_steps e =
    puts (codes "\n COMMAND = ")
    ++ (puts (value_text (words_text (texts e.words.now) (option_map (λ t. t.now) e.redirect)))
    ++ (puts (codes "\n DESC = ")
    ++ (puts (value_text e.description.now)
    ++ (puts (codes "\n") ++ end_steps (option_map (λ t. t.now) e.depfile)))))

-- ---- edges that share parts

-- Returns the steps that write the `build` line of an edge that shares parts with others: its output, its rule and its input.
abbrev pub own_build_steps : SharedParts → OwnParts → List Step
own_build_steps shared own =
    puts (codes "build")
    ++ (spaced_path_steps own.output.now
    ++ (puts (codes ": ") ++ (puts (rule_text shared.rule) ++ spaced_path_steps own.input.now)))

-- Returns the steps that write the text that edges share: the order-only paths, and the first words of the command.
abbrev pub shared_steps : SharedParts → List Step
shared_steps shared =
    signed_paths_steps (codes " ||") shared.order_only.now
    ++ (puts (codes "\n COMMAND = ") ++ puts (value_text (words_text (texts shared.words.now) None)))

-- Returns the steps that write the last words of a command, each after a space.
abbrev pub last_words_steps : List (Bor (List ℕ)) → List Step
last_words_steps words = flat_map (λ w. later_word_steps w.now) words

-- Returns the steps that write the rest of an edge after the shared text: its last words, description and depfile, and an empty line.
abbrev pub own_bindings_steps : OwnParts → List Step
own_bindings_steps own =
    last_words_steps own.words.now
    ++ (puts (codes "\n DESC = ")
    ++ (puts (value_text own.description.now)
    ++ (puts (codes "\n DEPFILE = ") ++ (puts (value_text own.depfile.now) ++ puts (codes "\n\n")))))
