-- Defines the text of edges in parts.
use Rattle.std.specs.Prelude.{ℕ, List, ◌++◌, Option, Some, None, codes}
use Rattle.build.specs.edge.Data.{EdgeData}
use Rattle.build.specs.edge.Parts.{OwnData}
use Rattle.build.specs.declared.edge.rule.EdgeRule.{EdgeRule}
use Rattle.ninja.specs.Escapes.{value_rest_text, value_text}
use Rattle.ninja.specs.Words.{later_words_text, words_text}
use Rattle.ninja.specs.Writing.{rule_text, signed_paths_text, spaced_path_text}

-- Returns the line of the depfile, if there is one, and the end.
abbrev pub end_text : Option (List ℕ) → List ℕ
end_text None = codes "\n"
end_text (Some path) = codes " DEPFILE = " ++ (value_text path ++ codes "\n\n")

-- Returns the lines after the first one.
abbrev pub bindings_text : EdgeData → List ℕ
bindings_text e =
    codes "\n COMMAND = "
    ++ (value_text (words_text e.words e.redirect)
    ++ (codes "\n DESC = " ++ (value_text e.description ++ (codes "\n" ++ end_text e.depfile))))

-- ---- edges that share parts

-- Returns the text that edges share: their order-only paths, and the first words of the command.
abbrev pub shared_text : (order_only words : List (List ℕ)) → List ℕ
shared_text order_only words =
    signed_paths_text (codes " ||") order_only ++ (codes "\n COMMAND = " ++ value_text (words_text words None))

-- Returns the text of an edge before the shared text: its output, its rule and its input.
abbrev pub own_build_text : EdgeRule → OwnData → List ℕ
own_build_text rule own =
    codes "build" ++ (spaced_path_text own.output ++ (codes ": " ++ (rule_text rule ++ spaced_path_text own.input)))

-- Returns the text of an edge after the shared text: its last words, its description and its depfile, and an empty line.
abbrev pub own_bindings_text : OwnData → List ℕ
own_bindings_text own =
    value_rest_text (later_words_text own.words)
    ++ (codes "\n DESC = " ++ (value_text own.description ++ (codes "\n DEPFILE = " ++ (value_text own.depfile ++ codes "\n\n"))))
