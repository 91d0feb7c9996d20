-- Runs that a person worked out, which the definitions have to give.
use Rattle.std.proofs.Common.{◌≡◌, false, [], ◌∷◌, Some, None, codes, refl}
use Rattle.std.specs.Str.{chars, is_utf8}
use lib.Utf8.{encode}
use Rattle.syntax.specs.lexer.Lexing.{format_at, lex, lexed_tokens, number_at, string_at, symbol_at, token_at, word_at}
use Rattle.syntax.specs.ExpressionTree.{LiteralTree, ListTree, NameTree, NoExpression, MoreExpressions}
use Rattle.syntax.specs.Parsed.{parsed_file}
use Rattle.syntax.specs.Tree.{AssignTree, BreakTree, ForeachTree, ValueTree, Statements, NoStatement, MoreStatements}
use Rattle.syntax.specs.declared.tree.Literal.TheVariants as literals
use Rattle.support.specs.declared.faults.refusal.Refusal.TheVariants as refusals
use Rattle.values.specs.Data.{boolean}
use Rattle.world.specs.DefinitionFiles.{refuse_line, statements_of_bytes, spelled_by, tree_or_fault}
use Rattle.world.specs.Deed.{Files, need}
use Rattle.world.specs.Plan.{◌>>=◌, carry, give}
use Rattle.world.specs.Run.{Run, Faulted, marks_of, outcome_of, world_after}
use Rattle.world.specs.Settings.{SettingsData}
use Rattle.world.specs.Start.{first_world}
use Rattle.world.specs.Trace.{ends_of}
use Rattle.world.specs.World.{World, world_in_folder}
use Rattle.interp.specs.Bounds.{bounds}
use Rattle.interp.specs.Folders.{folder}
use Rattle.expressions.specs.Folders.{go_to}
use Rattle.interp.specs.Statements.{do_all}
use Rattle.interp.specs.declared.flow.Flow.{Flow}
use Rattle.interp.specs.declared.flow.Flow.TheVariants.{Next}

abbrev settings : SettingsData
settings = record { words = []; depth = 1; source_root = codes "/s"; build_root = codes "/s/build" }

abbrev begun : World
begun = first_world settings []

-- ---- a loop

-- foreach x : [true, false], and this in each round
abbrev loop : Statements → Statements
loop body =
    MoreStatements (ForeachTree 1 (codes "x") None
    (ListTree (MoreExpressions (LiteralTree literals.True (codes "true") 1) (MoreExpressions (LiteralTree literals.False (codes "false") 1) NoExpression)) 1) 1 body) NoStatement

abbrev run : Statements → Run Flow
run statements = carry [] (do_all (λ _. give Next) false statements) begun

-- y = x
abbrev assigns : Statements
assigns = MoreStatements (AssignTree (codes "y") 2 (NameTree (codes "x") 2)) NoStatement

last_item : (world_after (run (loop assigns))).facts.variables (codes "y") ≡ Some (boolean false)
last_item = refl

-- the statement, the list and its two items, two rounds, and in each the assignment and its name
rules_ended : ends_of (marks_of (run (loop assigns))) ≡ 10
rules_ended = refl

-- one round, and in it the statement that ends the loop
rules_broken : ends_of (marks_of (run (loop (MoreStatements (BreakTree 2) NoStatement)))) ≡ 6
rules_broken = refl

-- ---- folders

-- there is no file
absent : outcome_of (carry [] (folder (bounds false 1) (codes "sub")) begun)
    ≡ Faulted (record { file = codes "meson.build"; line = 1; refusal = refusals.FileMissing; detail = codes "sub/meson.build" })
unfolding need
absent = refl

-- it was entered before
again : outcome_of (carry [] (folder (bounds false 1) (codes "sub")) (world_in_folder begun (codes "sub")))
    ≡ Faulted (record { file = codes "meson.build"; line = 1; refusal = refusals.Subdir; detail = codes "folder 'sub': was entered before" })
unfolding need
again = refl

-- no folder leads out of the tree
above : outcome_of (carry [] (folder (bounds false 1) (codes "..")) begun)
    ≡ Faulted (record { file = codes "meson.build"; line = 1; refusal = refusals.Subdir; detail = codes "folder '..': is none below the present one" })
above = refl

-- its file is cut into tokens up to the sign that is none, in the second line; what is refused there is refused in that file
abbrev file_inside : Files
file_inside = (codes "sub/meson.build", codes "\n$\n") ∷ []

inside : outcome_of (carry file_inside (folder (bounds false 1) (codes "sub")) begun)
    ≡ Faulted (record { file = codes "sub/meson.build"; line = 2; refusal = refusals.Token; detail = [] })
unfolding need statements_of_bytes spelled_by tree_or_fault refuse_line is_utf8 chars encode parsed_file lexed_tokens lex token_at word_at number_at string_at format_at symbol_at
inside = refl

-- a name that no variable has, in the second line of a folder's file
unknown : outcome_of (carry [] (go_to (codes "sub") >>= λ _. do_all (folder (bounds false 1)) false (MoreStatements (ValueTree (NameTree (codes "y") 2) 2) NoStatement)) begun)
    ≡ Faulted (record { file = codes "sub/meson.build"; line = 2; refusal = refusals.UndefinedName; detail = codes "y" })
unknown = refl
