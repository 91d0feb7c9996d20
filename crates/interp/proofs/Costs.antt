-- No evaluation in which long loops are refused ends more rules than its tree costs.
use Rattle.std.proofs.Common.{◌≡◌, ℕ, zero, suc, ◌+◌, ◌*◌, ◌≤◌, Bool, true, false, List, [], ◌∷◌, ◌++◌, Option, Some, None, is_some, Result}
use Rattle.std.proofs.Common.{Ok, Err, refl, ap, ◌∙◌, arith}
use Rattle.std.specs.Prelude.{if◌then◌else◌, nat_le, nat_lt, not, ◌||◌, ◌&&◌, length, bytes_eq}
use Rattle.std.specs.List.{list_any}
use Rattle.std.specs.Str.{is_utf8}
use Rattle.std.proofs.lemmas.Bool.Decides.{nat_tests}
use Rattle.std.proofs.Math.Nat.{suc-mul, mul-le-mul_right}
use Rattle.syntax.specs.declared.lexer.fault.SyntaxFault.{SyntaxFault}
use Rattle.syntax.specs.declared.tree.Literal.{Literal}
use Rattle.syntax.specs.declared.tree.Literal.TheVariants as literals
use Rattle.syntax.specs.ExpressionTree.{ExpressionTree, NameTree, LiteralTree, ListTree, DictionaryTree, FunctionTree, PostfixTree}
use Rattle.syntax.specs.ExpressionTree.{PrefixTree, ChainTree, TernaryTree, ExpressionTrees, NoExpression, MoreExpressions, EntryTrees}
use Rattle.syntax.specs.ExpressionTree.{NoEntry, MoreEntries, ArgumentTrees, NoArgument, MoreArguments, LinkTree, MethodTree, IndexTree}
use Rattle.syntax.specs.ExpressionTree.{LinkTrees, NoLink, MoreLinks, OperandTrees, NoOperand, MoreOperands}
use Rattle.syntax.specs.Parsed.{parsed_file}
use Rattle.syntax.specs.Tree.{StatementTree, AssignTree, AppendTree, ValueTree, BreakTree, ContinueTree, IfTree, ForeachTree, Statements}
use Rattle.syntax.specs.Tree.{NoStatement, MoreStatements, Branches, NoBranch, MoreBranches, FileTree}
use Rattle.values.specs.declared.object.Object.{Object}
use Rattle.values.specs.declared.refusal.OperationRefusal.{OperationRefusal as OperationRefusal}
use Rattle.values.specs.Data.{Data, boolean, integer, text, list, dictionary, object, Items, no_items, item, items_append, boolean_in}
use Rattle.values.specs.Data.{object_in, is_disabler}
use Rattle.values.specs.Limits.{within}
use Rattle.arguments.specs.Refused.{RefusedData}
use Rattle.arguments.specs.Rules.{breach_message}
use Rattle.arguments.specs.declared.rule.Rule.TheVariants as call_rules
use Rattle.support.specs.declared.faults.refusal.Refusal.{Refusal}
use Rattle.support.specs.declared.faults.refusal.Refusal.TheVariants as refusals
use Rattle.operations.specs.declared.operators.operator.Binary.TheVariants.{Add}
use Rattle.operations.specs.operators.Operations.{binary_answer}
use Rattle.operations.specs.operators.Logic.{left_answer, right_answer}
use Rattle.operations.specs.operators.Index.{index_answer}
use Rattle.operations.specs.operators.Literal.{literal_answer}
use Rattle.operations.specs.declared.operators.literal.LiteralRefusal.{LiteralRefusal}
use Rattle.operations.specs.declared.operators.literal.LiteralRefusal.TheVariants as literal_refusals
use Rattle.operations.specs.methods.Methods.{answer as method_answer, has_name}
use Rattle.methods.specs.Methods.{has_method as has_object_method}
use Rattle.values.specs.texts.Segments.{Segment, text as between, place}
use Rattle.arguments.specs.Arguments.{ArgumentsData, no_arguments, with_argument}
use Rattle.arguments.specs.Disablers.{gives_disabler}
use Rattle.language_calls.specs.Turning.{is_turned_off}
use Rattle.values.specs.language_names.Functions.{function_named}
use Rattle.values.specs.language_names.Names.{is_left_out, is_predefined}
use Rattle.support.specs.paths.Paths.{folder_below}
use Rattle.values.specs.declared.language_names.functions.Function.{Function}
use Rattle.ports.specs.Tree.{file_at}
use Rattle.world.specs.World.{World, Facts, world_after_look, world_in_folder, with_facts, with_place}
use Rattle.world.specs.Run.{Run, ran, follow, after, Done, Faulted, marks_of}
use Rattle.world.specs.Deed.{Files, Deed, read, refuse as refuse_deed, then as andthen, perform, need}
use Rattle.world.specs.Plan.{Plan, deed, ruled, next as next_plan, carry, answer_at_line, refuse, give}
use Rattle.world.specs.Costs.{definition_file, is_opened, unopened_cost, cost_of_run}
use Rattle.world.specs.Start.{first_world}
use Rattle.world.specs.Trace.{ends_of}
use Rattle.world.proofs.Costs.{Takes, more as more_in, free as free_in, none as none_in, chain as chain_in, rules as rules_in, opens, paid}
use Rattle.world.proofs.Costs.{paid-after, spent-after, spent-paid, deed-costs}
use Rattle.expressions.specs.declared.meaning.InfixOperator.{InfixOperator}
use Rattle.expressions.specs.declared.meaning.InfixOperator.TheVariants.{Combines, Connects}
use Rattle.interp.specs.Cost.{value_cost, values_cost, entries_cost, arguments_cost, links_cost, link_cost, chain_cost, statement_cost}
use Rattle.interp.specs.Cost.{branches_cost, statements_cost, parsed_cost, file_cost, tree_cost}
use Rattle.expressions.specs.Forms.{known_value, variable, variable_by, printed_plain, part_text, filled_format_string, number, literal_value, meaning_of}
use Rattle.expressions.specs.Forms.{unless_decided, operator_value, disabled_ternary, ternary_value, needed_value, known_function, refused_name, function_at}
use Rattle.expressions.specs.Forms.{may_come_first, allowed_call, function_inside, known_method, may_be_asked_first, value_method, check_at_line}
use Rattle.expressions.specs.Forms.{answered_with, paired_by}
use Rattle.expressions.specs.Details.{key_twice, method_detail}
use Rattle.interp.specs.Expressions.{called_by, plan_of_call, entered_inside, inside_by, known_object_method, method_at_by, method_at}
use Rattle.interp.specs.Expressions.{object_method_called, method_by, method_called_by, method_of, value_of, values_of, entries_of}
use Rattle.interp.specs.Expressions.{arguments_of, links_of, link_of, chain_of}
use Rattle.interp.specs.declared.flow.Flow.{Flow}
use Rattle.interp.specs.declared.flow.Flow.TheVariants.{Next, Continued, Broken, Finished}
use Rattle.expressions.specs.declared.conditions.Choice.{Choice}
use Rattle.expressions.specs.declared.conditions.Choice.TheVariants.{Body, Others, Skip}
use Rattle.expressions.specs.Conditions.{choice_of, choice_without}
use Rattle.interp.specs.Statements.{by_choice, on_next, after_round, rounds_of, rounds_within, rounds_if, expression_statement, does, branches_of, do_all}
use Rattle.interp.specs.declared.statement_calls.Action.{Action}
use Rattle.interp.specs.declared.statement_calls.Action.TheVariants.{Call, Enter, Leave}
use Rattle.interp.specs.StatementCalls.{call_by_action, subdir_done_unless, named_call}
use Rattle.interp.specs.Subdir.{AfterCallData, Ends, Enters, action_of, on_call_end, subdir_unless}
use Rattle.expressions.specs.Assignments.{configuration_in, own_by, own, assignment_of_sum, plus_assignment, plus_assignment_of, assigned_by, variable_assignment, assignment_of_round}
use Rattle.expressions.specs.Rounds.{Round, loop_rounds, item_rounds, entry_rounds}
use Rattle.expressions.specs.Folders.{opened_by, statements_of_folder, fresh_by, fresh, go_back}
use Rattle.interp.specs.Folders.{folder_by}
use Rattle.world.specs.DefinitionFiles.{most_bytes, refuse_line, tree_or_fault, spelled_by, statements_of_bytes}
use Rattle.interp.specs.Evaluation.{begun_by, is_project, begins, begins_all, root, MachineSaid, sections_of, plan_of_definitions, evaluated_few}
use Rattle.interp.specs.Evaluation.{evaluation}
use Rattle.interp.specs.Laws.{StepsWithinCost}
use Rattle.interp.proofs.Paths.{not_opened, is_definition}
use Rattle.world.specs.Details.{refuse_about}

module _ (files : Files) where
  more : {A : Type 0} {p : Plan A} {c d : ℕ} → c ≤ d → Takes file_cost files c p → Takes file_cost files d p
  more h t = more_in file_cost files h t

  free : {A : Type 0} {c : ℕ} (d : Deed A) → Takes file_cost files c (deed d)
  free d = free_in file_cost files d

  none : {A : Type 0} (d : Deed A) → Takes file_cost files 0 (deed d)
  none d = none_in file_cost files d

  chain : {A B : Type 0} {p : Plan A} {others : A → Plan B} {c d : ℕ} → Takes file_cost files c p → ((a : A) → Takes file_cost files d (others a)) → Takes file_cost files (c + d) (next_plan p others)
  chain t u = chain_in file_cost files t u

  rules : {A : Type 0} {p : Plan A} {c : ℕ} → Takes file_cost files c p → Takes file_cost files (1 + c) (ruled p)
  rules t = rules_in file_cost files t

  -- what costs nothing before what costs so much
  first : {A B : Type 0} {p : Plan A} {others : A → Plan B} {d : ℕ} → Takes file_cost files 0 p → ((a : A) → Takes file_cost files d (others a)) → Takes file_cost files d (next_plan p others)
  first t u = more (omega arith) (chain t u)

  -- and behind it
  last : {A B : Type 0} {p : Plan A} {others : A → Plan B} {c : ℕ} → Takes file_cost files c p → ((a : A) → Takes file_cost files 0 (others a)) → Takes file_cost files c (next_plan p others)
  last t u = more (omega arith) (chain t u)

  -- ---- expressions

  refuse-cost : {A : Type 0} {c : ℕ} (line : ℕ) (r : Refusal) (detail : List ℕ) → Takes file_cost files c (refuse {A = A} line r detail)
  refuse-cost line r detail = more (omega arith) (chain (none _) (λ u. none _))

  answered-cost : {A : Type 0} (line : ℕ) (r : Result A OperationRefusal) → Takes file_cost files 0 (answer_at_line line r)
  answered-cost line (Ok a) = free _
  answered-cost line (Err refusal) = refuse-cost line _ []

  answered_with-cost : {A : Type 0} (line : ℕ) (detail : OperationRefusal → List ℕ) (r : Result A OperationRefusal) → Takes file_cost files 0 (answered_with line detail r)
  answered_with-cost line detail (Ok a) = free _
  answered_with-cost line detail (Err refusal) = refuse-cost line _ (detail refusal)

  paired_by-cost : (line : ℕ) (r : Result Data LiteralRefusal) → Takes file_cost files 0 (paired_by line r)
  paired_by-cost line (Ok d) = free _
  paired_by-cost line (Err (literal_refusals.Twice key)) = refuse-cost line refusals.Duplicate (key_twice key)
  paired_by-cost line (Err (literal_refusals.Refused refusal)) = refuse-cost line _ []

  known-cost : (line : ℕ) (name : List ℕ) (o : Option Data) → Takes file_cost files 0 (known_value line name o)
  known-cost line name (Some d) = free _
  known-cost line name None = refuse-cost line refusals.UndefinedName name

  variable_by-cost : (b : Bool) (line : ℕ) (name : List ℕ) → Takes file_cost files 0 (variable_by b line name)
  variable_by-cost true line name = free _
  variable_by-cost false line name = first (none read) (λ facts. known-cost line name (facts.variables name))

  variable-cost : (line : ℕ) (name : List ℕ) → Takes file_cost files 0 (variable line name)
  variable-cost line name = variable_by-cost (is_predefined name) line name

  printed_plain-cost : (line : ℕ) (b : Bool) (d : Data) → Takes file_cost files 0 (printed_plain line b d)
  printed_plain-cost line true d = answered-cost line _
  printed_plain-cost line false d = refuse-cost line refusals.Type []

  part_text-cost : (line : ℕ) (s : Segment) → Takes file_cost files 0 (part_text line s)
  part_text-cost line (between t) = free _
  part_text-cost line (place name) = first (variable-cost line name) (λ d. printed_plain-cost line _ d)

  filled-cost : (line : ℕ) (made : List ℕ) (ss : List Segment) → Takes file_cost files 0 (filled_format_string line made ss)
  filled-cost line made [] = answered-cost line _
  filled-cost line made (s ∷ ss) = first (part_text-cost line s) (λ t. filled-cost line (made ++ t) ss)

  literal-cost : (line : ℕ) (literal : Literal) (t : List ℕ) → Takes file_cost files 0 (literal_value line literal t)
  literal-cost line literals.True t = free _
  literal-cost line literals.False t = free _
  literal-cost line literals.Number t = answered-cost line _
  literal-cost line literals.String t = answered-cost line _
  literal-cost line literals.RawString t = answered-cost line _
  literal-cost line literals.FormatString t = filled-cost line [] _
  literal-cost line literals.RawFormatString t = filled-cost line [] _

  unless_decided-cost : {right : Plan Data} {c : ℕ} (line : ℕ) (o : Option Data) → Takes file_cost files c right → Takes file_cost files c (unless_decided line o right)
  unless_decided-cost line (Some d) p = free _
  unless_decided-cost line None p = last p (λ e. answered-cost line (right_answer e))

  combined-cost : {right : Plan Data} {c : ℕ} (line : ℕ) (m : InfixOperator) (d : Data) → Takes file_cost files c right → Takes file_cost files c (operator_value line m d right)
  combined-cost line (Combines operator) d p = last p (λ e. answered-cost line (binary_answer operator d e))
  combined-cost line (Connects connective) d p = first (answered-cost line (left_answer connective d)) (λ whole. unless_decided-cost line whole p)

  unchosen-cost : (line : ℕ) (b : Bool) → Takes file_cost files 0 (disabled_ternary line b)
  unchosen-cost line true = free _
  unchosen-cost line false = refuse-cost line refusals.Type []

  chosen-cost : {one other : Plan Data} {c d : ℕ} (line : ℕ) (o : Option Bool) (disabled : Bool) → Takes file_cost files c one → Takes file_cost files d other → Takes file_cost files (c + d) (ternary_value line o disabled one other)
  chosen-cost line (Some true) disabled p q = more (omega arith) p
  chosen-cost line (Some false) disabled p q = more (omega arith) q
  chosen-cost line None disabled p q = more (omega arith) (unchosen-cost line disabled)

  needed-cost : (line : ℕ) (o : Option Data) → Takes file_cost files 0 (needed_value line o)
  needed-cost line (Some d) = free _
  needed-cost line None = refuse-cost line refusals.Type []

  refused_name-cost : {A : Type 0} (line : ℕ) (name : List ℕ) (b : Bool) → Takes file_cost files 0 (refused_name {A = A} line name b)
  refused_name-cost line name true = refuse-cost line refusals.LeftOut name
  refused_name-cost line name false = refuse-cost line refusals.UnknownFunction name

  known_function-cost : (line : ℕ) (name : List ℕ) (o : Option Function) → Takes file_cost files 0 (known_function line name o)
  known_function-cost line name (Some f) = free _
  known_function-cost line name None = refused_name-cost line name (is_left_out name)

  function_at-cost : (line : ℕ) (name : List ℕ) → Takes file_cost files 0 (function_at line name)
  function_at-cost line name = known_function-cost line name (function_named name)

  allowed-cost : (line : ℕ) (b : Bool) → Takes file_cost files 0 (allowed_call line b)
  allowed-cost line true = free _
  allowed-cost line false = refuse-cost line refusals.ProjectCall []

  function_inside-cost : (line : ℕ) (name : List ℕ) → Takes file_cost files 0 (function_inside line name)
  function_inside-cost line name = first (function_at-cost line name) (λ f. first (none read) (λ facts. first (allowed-cost line (facts.is_begun || may_come_first f)) (λ u. none _)))

  called_by-cost : (b : Bool) (line : ℕ) (f : Function) (a : ArgumentsData) → Takes file_cost files 0 (called_by b line f a)
  called_by-cost true line f a = free _
  called_by-cost false line f a = first (none _) (λ u. none _)

  called-cost : (line : ℕ) (f : Function) (a : ArgumentsData) → Takes file_cost files 0 (plan_of_call line f a)
  called-cost line f a = called_by-cost (is_turned_off f a) line f a

  fitted-cost : (line : ℕ) (r : Result (Unit {0}) RefusedData) → Takes file_cost files 0 (check_at_line line r)
  fitted-cost line (Ok u) = free _
  fitted-cost line (Err refused) = refuse-cost line refused.refusal refused.detail

  value_method-cost : (line : ℕ) (d : Data) (name : List ℕ) (a : ArgumentsData) → Takes file_cost files 0 (value_method line d name a)
  value_method-cost line d name a = first (fitted-cost line _) (λ v. first (answered_with-cost line (method_detail d name a.positional) (method_answer d name a.positional)) (λ e. none _))

  object_method-cost : (line : ℕ) (o : Object) (name : List ℕ) (a : ArgumentsData) → Takes file_cost files 0 (object_method_called line o name a)
  object_method-cost line o name a = first (none _) (λ u. none _)

  method_by-cost : (b : Bool) (o : Option Object) (line : ℕ) (d : Data) (name : List ℕ) (a : ArgumentsData) → Takes file_cost files 0 (method_by b o line d name a)
  method_by-cost true o line d name a = free _
  method_by-cost false (Some o) line d name a = object_method-cost line o name a
  method_by-cost false None line d name a = value_method-cost line d name a

  called_method-cost : (b : Bool) (line : ℕ) (d : Data) (name : List ℕ) (a : ArgumentsData) → Takes file_cost files 0 (method_called_by b line d name a)
  called_method-cost true line d name a = free _
  called_method-cost false line d name a = method_by-cost (gives_disabler a) (object_in d) line d name a

  known_method-cost : (b : Bool) (line : ℕ) (name : List ℕ) → Takes file_cost files 0 (known_method b line name)
  known_method-cost true line name = free _
  known_method-cost false line name = refuse-cost line refusals.UnknownFunction name

  object_method_at-cost : (b : Bool) (line : ℕ) (o : Object) (name : List ℕ) → Takes file_cost files 0 (known_object_method b line o name)
  object_method_at-cost true line o name = first (none read) (λ facts. allowed-cost line (facts.is_begun || may_be_asked_first o))
  object_method_at-cost false line o name = refused_name-cost line name _

  method_at_by-cost : (b : Bool) (o : Option Object) (line : ℕ) (d : Data) (name : List ℕ) → Takes file_cost files 0 (method_at_by b o line d name)
  method_at_by-cost true o line d name = free _
  method_at_by-cost false (Some o) line d name = object_method_at-cost (has_object_method o name) line o name
  method_at_by-cost false None line d name = known_method-cost (has_name d name) line name

  method_at-cost : (line : ℕ) (d : Data) (name : List ℕ) → Takes file_cost files 0 (method_at line d name)
  method_at-cost line d name = method_at_by-cost (is_disabler d) (object_in d) line d name

  method_of-cost : {evaluated : Plan ArgumentsData} {c : ℕ} (line : ℕ) (d : Data) (name : List ℕ) → Takes file_cost files c evaluated → Takes file_cost files c (method_of line d name evaluated)
  method_of-cost line d name p = first (method_at-cost line d name) (λ u. last p (λ a. called_method-cost (is_disabler d) line d name a))

  -- ---- statements

  assigned_by-cost : (b : Bool) (line : ℕ) (name : List ℕ) (d : Data) → Takes file_cost files 0 (assigned_by b line name d)
  assigned_by-cost true line name d = refuse-cost line refusals.Arguments (breach_message call_rules.IsSettable name)
  assigned_by-cost false line name d = none _

  assigned-cost : (line : ℕ) (name : List ℕ) (d : Data) → Takes file_cost files 0 (variable_assignment line name d)
  assigned-cost line name d = assigned_by-cost (is_predefined name) line name d

  own_by-cost : (o : Option ℕ) (d : Data) → Takes file_cost files 0 (own_by o d)
  own_by-cost (Some number) d = first (none _) (λ copy. none _)
  own_by-cost None d = free _

  own-cost : (d : Data) → Takes file_cost files 0 (own d)
  own-cost d = own_by-cost (configuration_in d) d

  choice_without-cost : (line : ℕ) (b : Bool) → Takes file_cost files 0 (choice_without line b)
  choice_without-cost line true = free _
  choice_without-cost line false = refuse-cost line refusals.Type []

  choice-cost : (line : ℕ) (o : Option Bool) (disabled : Bool) → Takes file_cost files 0 (choice_of line o disabled)
  choice-cost line (Some true) disabled = free _
  choice-cost line (Some false) disabled = free _
  choice-cost line None disabled = choice_without-cost line disabled

  by_choice-cost : {body others : Plan Flow} {c d : ℕ} (choice : Choice) → Takes file_cost files c body → Takes file_cost files d others → Takes file_cost files (c + d) (by_choice choice body others)
  by_choice-cost Body p q = more (omega arith) p
  by_choice-cost Others p q = more (omega arith) q
  by_choice-cost Skip p q = free _

  bound-cost : (line : ℕ) (name : List ℕ) (second : Option (List ℕ)) (r : Round) → Takes file_cost files 0 (assignment_of_round line name second r)
  bound-cost line name (Some second) (d, Some e) = first (assigned-cost line name d) (λ u. assigned-cost line second e)
  bound-cost line name (Some second) (d, None) = assigned-cost line name d
  bound-cost line name None (d, e) = assigned-cost line name d

  on_next-cost : {others : Plan Flow} {c : ℕ} (flow : Flow) → Takes file_cost files c others → Takes file_cost files c (on_next flow others)
  on_next-cost Next p = p
  on_next-cost Continued p = free _
  on_next-cost Broken p = free _
  on_next-cost Finished p = free _

  after_round-cost : {others : Plan Flow} {c : ℕ} (flow : Flow) → Takes file_cost files c others → Takes file_cost files c (after_round flow others)
  after_round-cost Next p = p
  after_round-cost Continued p = p
  after_round-cost Broken p = free _
  after_round-cost Finished p = free _

  rounds-cost : (round : Round → Plan Flow) (c : ℕ) → ((r : Round) → Takes file_cost files c (round r)) → (rs : List Round) → Takes file_cost files (length rs * (c + 1)) (rounds_of round rs)
  rounds-cost round c p [] = free _
  rounds-cost round c p (r ∷ rs) = more (omega (arith, suc-mul (length rs) (c + 1))) (chain (rules (p r)) (λ flow. after_round-cost flow (rounds-cost round c p rs)))

  rounds_few-cost : (line : ℕ) (round : Round → Plan Flow) (c : ℕ) → ((r : Round) → Takes file_cost files c (round r)) → (rs : List Round) (b : Bool) → nat_le (length rs) 65536 ≡ b
      → Takes file_cost files (65536 * (c + 1)) (rounds_if b line (rounds_of round rs))
  rounds_few-cost line round c p rs true few = let fit : length rs ≤ 65536 = grind (arith, nat_tests, few) in more (mul-le-mul_right (c + 1) fit) (rounds-cost round c p rs)
  rounds_few-cost line round c p rs false few = refuse-cost line refusals.Limit []

  rounds_within-cost : (line : ℕ) (round : Round → Plan Flow) (c : ℕ) → ((r : Round) → Takes file_cost files c (round r)) → (second : Option (List ℕ)) (d : Data)
      → Takes file_cost files (65536 * (c + 1)) (rounds_within true line round (loop_rounds second d))
  rounds_within-cost line round c p None (list ds) = rounds_few-cost line round c p (item_rounds ds) (nat_le (length (item_rounds ds)) 65536) refl
  rounds_within-cost line round c p (Some second) (dictionary es) = rounds_few-cost line round c p (entry_rounds es) (nat_le (length (entry_rounds es)) 65536) refl
  rounds_within-cost line round c p None (boolean b) = refuse-cost line refusals.Type []
  rounds_within-cost line round c p None (integer z) = refuse-cost line refusals.Type []
  rounds_within-cost line round c p None (text t) = refuse-cost line refusals.Type []
  rounds_within-cost line round c p None (dictionary es) = refuse-cost line refusals.Type []
  rounds_within-cost line round c p None (object o) = refuse-cost line refusals.Type []
  rounds_within-cost line round c p (Some second) (boolean b) = refuse-cost line refusals.Type []
  rounds_within-cost line round c p (Some second) (integer z) = refuse-cost line refusals.Type []
  rounds_within-cost line round c p (Some second) (text t) = refuse-cost line refusals.Type []
  rounds_within-cost line round c p (Some second) (list ds) = refuse-cost line refusals.Type []
  rounds_within-cost line round c p (Some second) (object o) = refuse-cost line refusals.Type []

  subdir_done_unless-cost : (b : Bool) (line : ℕ) (a : ArgumentsData) → Takes file_cost files 0 (subdir_done_unless b line a)
  subdir_done_unless-cost true line a = free _
  subdir_done_unless-cost false line a = first (fitted-cost line _) (λ v. none _)

  subdir-cost : (b : Bool) (line : ℕ) (a : ArgumentsData) → Takes file_cost files 0 (subdir_unless b line a)
  subdir-cost true line a = free _
  subdir-cost false line a = first (fitted-cost line _) (λ u. first (none _) (λ v. none _))

  module _ (into : List ℕ → Plan Flow) (into-cost : (t : List ℕ) → Takes file_cost files 0 (into t)) where
    on_call_end-cost : (way : AfterCallData) → Takes file_cost files 0 (on_call_end into way)
    on_call_end-cost (Ends flow) = free _
    on_call_end-cost (Enters t) = into-cost t

    call_by_action-cost : (action : Action) (line : ℕ) (f : Function) (a : ArgumentsData) → Takes file_cost files 0 (call_by_action into action line f a)
    call_by_action-cost Enter line f a = first (subdir-cost (gives_disabler a) line a) (λ way. on_call_end-cost way)
    call_by_action-cost Leave line f a = subdir_done_unless-cost (gives_disabler a) line a
    call_by_action-cost Call line f a = first (called-cost line f a) (λ d. none _)

    entered_inside-cost : (b : Bool) (line : ℕ) (a : ArgumentsData) → Takes file_cost files 0 (entered_inside into b line a)
    entered_inside-cost true line a = free _
    entered_inside-cost false line a = first (subdir-cost (gives_disabler a) line a) (λ way. first (on_call_end-cost way) (λ flow. refuse-cost line refusals.Type []))

    inside-cost : (action : Action) (line : ℕ) (f : Function) (a : ArgumentsData) → Takes file_cost files 0 (inside_by into action line f a)
    inside-cost Enter line f a = entered_inside-cost (gives_disabler a) line a
    inside-cost Leave line f a = first (called-cost line f a) (λ d. needed-cost line d)
    inside-cost Call line f a = first (called-cost line f a) (λ d. needed-cost line d)

    mutual
      value-cost : (e : ExpressionTree) → Takes file_cost files (value_cost e) (ruled (value_of into e))
      value-cost (NameTree name line) = rules (variable-cost line name)
      value-cost (LiteralTree literal t line) = rules (literal-cost line literal t)
      value-cost (ListTree es line) = rules (last (values-cost no_items es) (λ ds. answered-cost line (within (list ds))))
      value-cost (DictionaryTree es line) = rules (last (entries-cost [] es) (λ ps. paired_by-cost line (literal_answer ps)))
      value-cost (FunctionTree name es line) = rules (first (function_inside-cost line name) (λ f. last (arguments-cost no_arguments es) (λ a. inside-cost (action_of f) line f a)))
      value-cost (PostfixTree e ls line) = rules (last (chain (value-cost e) (λ d. links-cost line (Some d) ls)) (λ o. needed-cost line o))
      value-cost (PrefixTree prefix value line) = rules (last (value-cost value) (λ d. answered-cost line _))
      value-cost (ChainTree e others line) = rules (chain (value-cost e) (λ d. chain-cost line d others))
      value-cost (TernaryTree test one other line) = rules (chain (value-cost test) (λ d. chosen-cost line (boolean_in d) (is_disabler d) (value-cost one) (value-cost other)))

      values-cost : (ds : Items) (es : ExpressionTrees) → Takes file_cost files (values_cost es) (values_of into ds es)
      values-cost ds NoExpression = free _
      values-cost ds (MoreExpressions e es) = chain (value-cost e) (λ d. values-cost (items_append ds (item d no_items)) es)

      entries-cost : (ps : List (Data × Data)) (es : EntryTrees) → Takes file_cost files (entries_cost es) (entries_of into ps es)
      entries-cost ps NoEntry = free _
      entries-cost ps (MoreEntries key value es) = chain (value-cost key) (λ k. chain (value-cost value) (λ d. entries-cost (ps ++ (k, d) ∷ []) es))

      arguments-cost : (a : ArgumentsData) (es : ArgumentTrees) → Takes file_cost files (arguments_cost es) (arguments_of into a es)
      arguments-cost a NoArgument = free _
      arguments-cost a (MoreArguments name e es) = chain (value-cost e) (λ d. arguments-cost (with_argument a name d) es)

      links-cost : (line : ℕ) (o : Option Data) (ls : LinkTrees) → Takes file_cost files (links_cost ls) (links_of into line o ls)
      links-cost line o NoLink = free _
      links-cost line o (MoreLinks l ls) = first (needed-cost line o) (λ d. chain (link-cost line d l) (λ e. links-cost line e ls))

      link-cost : (line : ℕ) (d : Data) (l : LinkTree) → Takes file_cost files (link_cost l) (link_of into line d l)
      link-cost line d (MethodTree name es) = method_of-cost line d name (arguments-cost no_arguments es)
      link-cost line d (IndexTree index) = last (value-cost index) (λ i. first (answered-cost line (index_answer d i)) (λ part. none _))

      chain-cost : (line : ℕ) (d : Data) (es : OperandTrees) → Takes file_cost files (chain_cost es) (chain_of into line d es)
      chain-cost line d NoOperand = free _
      chain-cost line d (MoreOperands operator e es) = chain (combined-cost line (meaning_of operator) d (value-cost e)) (λ x. chain-cost line x es)

    named_call-cost : (line : ℕ) (name : List ℕ) (es : ArgumentTrees) → Takes file_cost files (arguments_cost es) (named_call into line name es)
    named_call-cost line name es = first (function_at-cost line name) (λ f. last (arguments-cost no_arguments es) (λ a. call_by_action-cost (action_of f) line f a))

    added-cost : (line : ℕ) (name : List ℕ) (d e : Data) → Takes file_cost files 0 (assignment_of_sum line name d e)
    added-cost line name d e = first (answered-cost line (binary_answer Add d e)) (λ sum. assigned-cost line name sum)

    summed-cost : (line : ℕ) (name : List ℕ) (e : Data) → Takes file_cost files 0 (plus_assignment_of line name e)
    summed-cost line name e = first (variable-cost line name) (λ d. added-cost line name d e)

    appended-cost : (line : ℕ) (name : List ℕ) (value : ExpressionTree) → Takes file_cost files (value_cost value) (plus_assignment line name (ruled (value_of into value)))
    appended-cost line name value = first (variable-cost line name) (λ o. last (value-cost value) (λ e. summed-cost line name e))

    eval_statement-cost : {p : Plan Data} {c : ℕ} → Takes file_cost files c p
        → Takes file_cost files (1 + c) (next_plan (ruled (next_plan p (λ d. give (Some d)))) (λ o. give Next))
    eval_statement-cost p = last (rules (last p (λ d. none _))) (λ o. none _)

    expression_statement-cost : (e : ExpressionTree) → Takes file_cost files (value_cost e) (expression_statement into e)
    expression_statement-cost (FunctionTree name es line) = rules (named_call-cost line name es)
    expression_statement-cost (NameTree name line) = eval_statement-cost (variable-cost line name)
    expression_statement-cost (LiteralTree literal t line) = eval_statement-cost (literal-cost line literal t)
    expression_statement-cost (ListTree es line) = eval_statement-cost (last (values-cost no_items es) (λ ds. answered-cost line (within (list ds))))
    expression_statement-cost (DictionaryTree es line) = eval_statement-cost (last (entries-cost [] es) (λ ps. paired_by-cost line (literal_answer ps)))
    expression_statement-cost (PostfixTree e ls line) = last (rules (chain (value-cost e) (λ d. links-cost line (Some d) ls))) (λ o. none _)
    expression_statement-cost (PrefixTree prefix value line) = eval_statement-cost (last (value-cost value) (λ d. answered-cost line _))
    expression_statement-cost (ChainTree e others line) = eval_statement-cost (chain (value-cost e) (λ d. chain-cost line d others))
    expression_statement-cost (TernaryTree test one other line) = eval_statement-cost (chain (value-cost test) (λ d. chosen-cost line (boolean_in d) (is_disabler d) (value-cost one) (value-cost other)))

    mutual
      does-cost : (s : StatementTree) → Takes file_cost files (statement_cost s) (ruled (does into true s))
      does-cost (AssignTree name line value) = rules (last (value-cost value) (λ d. first (own-cost d) (λ e. first (assigned-cost line name e) (λ u. none _))))
      does-cost (AppendTree name line value) = rules (last (appended-cost line name value) (λ u. none _))
      does-cost (ValueTree e line) = rules (expression_statement-cost e)
      does-cost (BreakTree line) = rules (none _)
      does-cost (ContinueTree line) = rules (none _)
      does-cost (IfTree line branches otherwise) = rules (branches-cost branches otherwise (all-cost otherwise))
      does-cost (ForeachTree line name second items items_line body) =
          rules (chain (value-cost items) (rounds_within-cost line (λ r. next_plan (assignment_of_round line name second r) (λ u. do_all into true body)) (statements_cost body) (λ r. first (bound-cost line name second r) (λ u. all-cost body)) second))

      branches-cost : (bs : Branches) (otherwise : Statements) → Takes file_cost files (statements_cost otherwise) (do_all into true otherwise) → Takes file_cost files (branches_cost bs + statements_cost otherwise) (branches_of into true bs (do_all into true otherwise))
      branches-cost NoBranch otherwise p = more (omega arith) p
      branches-cost (MoreBranches test line body bs) otherwise p = more (omega arith) (chain (value-cost test) (λ d. first (choice-cost line (boolean_in d) (is_disabler d)) (λ choice. by_choice-cost choice (all-cost body) (branches-cost bs otherwise p))))

      all-cost : (ss : Statements) → Takes file_cost files (statements_cost ss) (do_all into true ss)
      all-cost NoStatement = free _
      all-cost (MoreStatements s ss) = chain (does-cost s) (λ flow. on_next-cost flow (all-cost ss))

  -- ---- folders

  -- what opening a file is worth: its rule, and those of its statements
  abbrev worth : Statements → ℕ
  worth body = 1 + statements_cost body

  tree-paid : (r : Result FileTree SyntaxFault) (w : World) → paid worth (perform files (tree_or_fault r) w) ≤ parsed_cost r
  unfolding tree_or_fault refuse_line
  tree-paid (Ok tree) w = omega arith
  tree-paid (Err fault) w = omega arith

  by-paid : (b : Bool) (bytes : List ℕ) (w : World) → paid worth (perform files (spelled_by b bytes) w) ≤ (if b then parsed_cost (parsed_file bytes) else 0)
  unfolding spelled_by refuse_line
  by-paid true bytes w = tree-paid (parsed_file bytes) w
  by-paid false bytes w = omega arith

  needed-paid : (c : Bool) (bytes : List ℕ) (w : World) → paid worth (perform files (andthen (need c refusals.Limit []) (λ u. spelled_by (is_utf8 bytes) bytes)) w) ≤ (if is_utf8 bytes then parsed_cost (parsed_file bytes) else 0)
  unfolding need
  needed-paid true bytes w = omega (arith, paid-after worth [] (perform files (spelled_by (is_utf8 bytes) bytes) w), by-paid (is_utf8 bytes) bytes w)
  needed-paid false bytes w = omega arith

  spelled-paid : (folder bytes : List ℕ) (w : World) → paid worth (perform files (statements_of_bytes bytes) w) ≤ file_cost (definition_file folder, bytes)
  unfolding statements_of_bytes
  spelled-paid folder bytes w =
      let e : file_cost (definition_file folder, bytes) ≡ (if is_utf8 bytes then parsed_cost (parsed_file bytes) else 0) = ap (λ b. if b && is_utf8 bytes then parsed_cost (parsed_file bytes) else 0) (is_definition folder) in
      omega (arith, e, needed-paid (nat_le (length bytes) most_bytes) bytes w)

  -- a folder that was not entered pays for what its file does
  opened_by-paid : (folder : List ℕ) (o : Option (List ℕ)) (w : World) → is_opened w.entered (definition_file folder) ≡ false → file_at files (definition_file folder) ≡ o
      → cost_of_run file_cost files (carry files (opened_by folder o) w) + paid worth (carry files (opened_by folder o) w) ≤ unopened_cost file_cost files w.entered
  opened_by-paid folder None w new is = omega arith
  opened_by-paid folder (Some bytes) w new is =
      let w' : World = with_facts (world_in_folder w folder) (with_place (definition_file folder) folder 1 w.facts) in
      let r : Run Statements = perform files (statements_of_bytes bytes) w' in
      omega (
        arith,
        spent-after file_cost files [] (after [] r),
        spent-after file_cost files [] r,
        paid-after worth [] (after [] r),
        paid-after worth [] r,
        (deed-costs file_cost files (statements_of_bytes bytes)).within w',
        spelled-paid folder bytes w',
        opens file_cost files w.entered folder bytes new is,
      )

  opened-paid : (folder : List ℕ) (w : World) → is_opened w.entered (definition_file folder) ≡ false
      → cost_of_run file_cost files (carry files (statements_of_folder folder) w) + paid worth (carry files (statements_of_folder folder) w) ≤ unopened_cost file_cost files w.entered
  opened-paid folder w new =
      let w' : World = world_after_look w (definition_file folder) (is_some (file_at files (definition_file folder))) in
      let r : Run Statements = carry files (opened_by folder (file_at files (definition_file folder))) w' in
      omega (arith, spent-after file_cost files [] r, paid-after worth [] r, opened_by-paid folder (file_at files (definition_file folder)) w' new refl)

  -- and then what its statements do
  body-paid : {A : Type 0} (folder : List ℕ) (others : Statements → Plan A) → ((body : Statements) → Takes file_cost files (worth body) (others body)) → (w : World) → is_opened w.entered (definition_file folder) ≡ false
      → cost_of_run file_cost files (carry files (next_plan (statements_of_folder folder) others) w) ≤ unopened_cost file_cost files w.entered
  body-paid folder others p w new =
      omega (arith, opened-paid folder w new, spent-paid file_cost files worth (carry files (statements_of_folder folder) w) (λ body. carry files (others body)) (λ body. (p body).costs))

  abbrev fresh_as : List ℕ → List ℕ → Bool → Bool → Plan (List ℕ)
  fresh_as t path b c = next_plan (deed (need (not b) refusals.Subdir (breach_message call_rules.IsNew t))) (λ u. next_plan (deed (need c refusals.Limit [])) (λ v. give path))

  fresh_as-paid : (others : List ℕ → Plan Flow) (t path : List ℕ) (b c : Bool) (w : World) → (b ≡ false → cost_of_run file_cost files (carry files (others path) w) ≤ unopened_cost file_cost files w.entered)
      → cost_of_run file_cost files (carry files (next_plan (fresh_as t path b c) others) w) ≤ unopened_cost file_cost files w.entered
  unfolding need
  fresh_as-paid others t path true c w p = omega arith
  fresh_as-paid others t path false true w p = omega (arith, spent-after file_cost files [] (carry files (others path) w), p refl)
  fresh_as-paid others t path false false w p = omega arith

  fresh_by-paid : (others : List ℕ → Plan Flow) (t : List ℕ) (o : Option (List ℕ)) (w : World)
      → ((path : List ℕ) → is_opened w.entered (definition_file path) ≡ false → cost_of_run file_cost files (carry files (others path) w) ≤ unopened_cost file_cost files w.entered)
      → cost_of_run file_cost files (carry files (next_plan (fresh_by t o w.entered) others) w) ≤ unopened_cost file_cost files w.entered
  fresh_by-paid others t None w p = omega arith
  fresh_by-paid others t (Some path) w p =
      fresh_as-paid others t path (list_any (bytes_eq path) w.entered) (nat_lt (length w.entered) 4096) w (λ h. p path (not_opened w.entered path ∙ h))

  fresh-paid : (others : List ℕ → Plan Flow) (t : List ℕ) (w : World)
      → ((path : List ℕ) → is_opened w.entered (definition_file path) ≡ false → cost_of_run file_cost files (carry files (others path) w) ≤ unopened_cost file_cost files w.entered)
      → cost_of_run file_cost files (carry files (next_plan (fresh t) others) w) ≤ unopened_cost file_cost files w.entered
  fresh-paid others t w p =
      let q = fresh_by-paid others t (folder_below w.facts.folder t) w p in
      omega (arith, q, fresh-as others (carry files (fresh_by t (folder_below w.facts.folder t) w.entered) w))
    where
      fresh-as : (others : List ℕ → Plan Flow) (r : Run (List ℕ)) → cost_of_run file_cost files (follow (after [] (after [] r)) (λ a. carry files (others a))) ≡ cost_of_run file_cost files (follow r (λ a. carry files (others a)))
      fresh-as others (ran (Done path) v ms) = refl
      fresh-as others (ran (Faulted f) v ms) = refl

  back-cost : {c : ℕ} (plan : Plan Flow) (outer : Facts) → Takes file_cost files c plan → Takes file_cost files (1 + c) (next_plan (ruled plan) (λ u. next_plan (go_back outer) (λ v. give Next)))
  back-cost plan outer p = last (rules p) (λ u. first (none _) (λ v. none _))

  folder-cost : (left : ℕ) (t : List ℕ) → Takes file_cost files 0 (folder_by true left t)
  folder-cost zero t = record { costs = record { within = λ w. omega (arith, fresh-paid (λ path. deed (refuse_deed refusals.Limit [])) t w (λ path h. omega arith)) } }
  folder-cost (suc left) t =
      let others : Facts → Statements → Plan Flow = λ outer body. next_plan (ruled (do_all (folder_by true left) true body)) (λ u. next_plan (go_back outer) (λ v. give Next)) in
      record {
        costs = record {
          within = λ w. omega (
            arith,
            fresh-paid (λ path. next_plan (deed read) (λ outer. next_plan (statements_of_folder path) (others outer))) t w
                (λ path h. omega (
                  arith,
                  spent-after file_cost files [] (carry files (next_plan (statements_of_folder path) (others w.facts)) w),
                  body-paid path (others w.facts) (λ body. back-cost (do_all (folder_by true left) true body) w.facts (all-cost (folder_by true left) (folder-cost left) body)) w h,
                )),
          );
        };
      }

  -- ---- the root file

  begun-cost : (line : ℕ) (b : Bool) → Takes file_cost files 0 (begun_by line b)
  begun-cost line true = free _
  begun-cost line false = refuse-cost line refusals.ProjectCall []

  begins-cost : (s : StatementTree) → Takes file_cost files 0 (begins s)
  begins-cost (ValueTree e line) = begun-cost line (is_project e)
  begins-cost (AssignTree name line value) = begun-cost line false
  begins-cost (AppendTree name line value) = begun-cost line false
  begins-cost (BreakTree line) = begun-cost line false
  begins-cost (ContinueTree line) = begun-cost line false
  begins-cost (IfTree line branches otherwise) = begun-cost line false
  begins-cost (ForeachTree line name second items items_line body) = begun-cost line false

  begins_all-cost : (ss : Statements) → Takes file_cost files 0 (begins_all ss)
  begins_all-cost NoStatement = begun-cost 1 false
  begins_all-cost (MoreStatements s ss) = begins-cost s

  root-cost : (ss : Statements) → Takes file_cost files (statements_cost ss) (root true ss)
  root-cost ss = first (begins_all-cost ss) (λ u. all-cost (folder_by true 63) (folder-cost 63) ss)

  definitions-cost : (w : World) → is_opened w.entered (definition_file []) ≡ false → cost_of_run file_cost files (carry files (plan_of_definitions true) w) ≤ unopened_cost file_cost files w.entered
  definitions-cost w new = body-paid [] (λ body. next_plan (ruled (root true body)) (λ u. give (tt {0}))) (λ body. last (rules (root-cost body)) (λ u. none _)) w new

  begun_run : (said : MachineSaid) (w : World) → w.entered ≡ [] → cost_of_run file_cost files (carry files (evaluation true said) w) ≤ unopened_cost file_cost files w.entered
  unfolding refuse_about
  begun_run (Ok sections) w none_entered = definitions-cost w (ap (λ l. is_opened l (definition_file [])) none_entered)
  begun_run (Err fault) w none_entered = omega arith

unopened-none : (files : Files) → unopened_cost file_cost files [] ≡ tree_cost files
unopened-none [] = refl
unopened-none (f ∷ fs) = ap (λ n. file_cost f + n) (unopened-none fs)

within_cost : (files : Files) (said : MachineSaid) (w : World) → w.entered ≡ [] → ends_of (marks_of (carry files (evaluation true said) w)) ≤ tree_cost files
within_cost files said w none_entered =
    omega (arith, begun_run files said w none_entered, ap (unopened_cost file_cost files) none_entered, unopened-none files)

pub steps_within_cost : StepsWithinCost
unfolding evaluated_few
steps_within_cost files settings said = within_cost files said (first_world settings (sections_of said)) refl
