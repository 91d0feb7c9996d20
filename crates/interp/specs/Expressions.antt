-- Defines what expressions mean, with a paragraph for each form of node.
use Rattle.std.specs.Prelude.{ℕ, Bool, true, false, List, [], ◌∷◌, ◌++◌, Option, Some, None}
use Rattle.syntax.specs.ExpressionTree.{ExpressionTree, NameTree, LiteralTree, ListTree, DictionaryTree, FunctionTree, PostfixTree}
use Rattle.syntax.specs.ExpressionTree.{PrefixTree, ChainTree, TernaryTree, ExpressionTrees, NoExpression, MoreExpressions, EntryTrees}
use Rattle.syntax.specs.ExpressionTree.{NoEntry, MoreEntries, ArgumentTrees, NoArgument, MoreArguments, LinkTree, MethodTree, IndexTree}
use Rattle.syntax.specs.ExpressionTree.{LinkTrees, NoLink, MoreLinks, OperandTrees, NoOperand, MoreOperands}
use Rattle.values.specs.declared.object.Object.{Object}
use Rattle.values.specs.Data.{Data, Items, no_items, item, items_append, boolean_in, object_in, is_disabler}
use Rattle.support.specs.declared.faults.refusal.Refusal.TheVariants as refusals
use Rattle.operations.specs.operators.Operations.{disabler}
use Rattle.operations.specs.methods.Methods.{has_name}
use Rattle.arguments.specs.Arguments.{ArgumentsData, no_arguments, with_argument}
use Rattle.arguments.specs.Disablers.{gives_disabler}
use Rattle.interp.specs.Functions.{call}
use Rattle.language_calls.specs.Turning.{is_turned_off}
use Rattle.values.specs.declared.language_names.functions.Function.{Function}
use Rattle.methods.specs.Left.{is_left_out as is_left_out_method}
use Rattle.methods.specs.Methods.{has_method as has_object_method, object_method}
use Rattle.world.specs.Plan.{Plan, deed, ruled, ◌>>=◌, give, at, refuse}
use Rattle.expressions.specs.Forms.{asked_of, ternary_value, operator_value, disabler_method, function_inside, known_method, list_value}
use Rattle.expressions.specs.Forms.{literal_value}
use Rattle.expressions.specs.Forms.{meaning_of, needed_value, dictionary_value, part_at, prefix_value, refused_name, value_method, variable}
use Rattle.interp.specs.declared.statement_calls.Action.{Action}
use Rattle.interp.specs.declared.statement_calls.Action.TheVariants.{Call, Enter, Leave}
use Rattle.interp.specs.declared.flow.Flow.{Flow}
use Rattle.interp.specs.Subdir.{action_of, on_call_end, subdir_call}

-- ---- calls

-- Returns a disabler if one among the arguments turns the call off, and else calls the function.
abbrev pub called_by : Bool → ℕ → Function → ArgumentsData → Plan (Option Data)
called_by true line f a = give (Some disabler)
called_by false line f a = do
  _ ← at line
  deed (call f a)

-- Calls a function on evaluated arguments.
abbrev pub plan_of_call : ℕ → Function → ArgumentsData → Plan (Option Data)
plan_of_call line f a = called_by (is_turned_off f a) line f a

-- ---- methods

-- Refuses a name that no method of an object has, and an object that may not be queried yet.
abbrev pub known_object_method : Bool → ℕ → Object → List ℕ → Plan (Unit {0})
known_object_method true line o name = asked_of line o
known_object_method false line o name = refused_name line name (is_left_out_method o name)

-- Checks that an object has a method of this name and may be queried yet.
abbrev pub object_method_at : ℕ → Object → List ℕ → Plan (Unit {0})
object_method_at line o name = known_object_method (has_object_method o name) line o name

-- Checks that a receiver has a method of this name, given whether that is a disabler.
abbrev pub method_at_by : Bool → Option Object → ℕ → Data → List ℕ → Plan (Unit {0})
method_at_by true o line d name = give tt
method_at_by false (Some o) line d name = object_method_at line o name
method_at_by false None line d name = known_method (has_name d name) line name

-- Checks that a receiver has a method of this name. A disabler has all.
abbrev pub method_at : ℕ → Data → List ℕ → Plan (Unit {0})
method_at line d name = method_at_by (is_disabler d) (object_in d) line d name

-- Calls a method of an object.
abbrev pub object_method_called : ℕ → Object → List ℕ → ArgumentsData → Plan (Option Data)
object_method_called line o name a = do
  _ ← at line
  deed (object_method o name a)

-- Calls a method, unless a disabler among the arguments turns the call off.
abbrev pub method_by : Bool → Option Object → ℕ → Data → List ℕ → ArgumentsData → Plan (Option Data)
method_by true o line d name a = give (Some disabler)
method_by false (Some o) line d name a = object_method_called line o name a
method_by false None line d name a = value_method line d name a

-- Calls a method of a receiver, given whether that is a disabler.
abbrev pub method_called_by : Bool → ℕ → Data → List ℕ → ArgumentsData → Plan (Option Data)
method_called_by true line d name a = give (Some (disabler_method name a))
method_called_by false line d name a = method_by (gives_disabler a) (object_in d) line d name a

-- Calls a method of a receiver on evaluated arguments. It may have no value.
abbrev pub method_called : ℕ → Data → List ℕ → ArgumentsData → Plan (Option Data)
method_called line d name a = method_called_by (is_disabler d) line d name a

-- Calls a method of a receiver, and evaluates its arguments first.
abbrev pub method_of : ℕ → Data → List ℕ → Plan ArgumentsData → Plan (Option Data)
method_of line d name evaluated = do
  _ ← method_at line d name
  a ← evaluated
  method_called line d name a

-- ---- expressions

-- `into` is what the run does to enter the folder that a text names.
module _ (into : List ℕ → Plan Flow) where
  -- Enters the folder of a call of `subdir` inside an expression. The call has no value, so it is refused then.
  abbrev pub entered_inside : Bool → ℕ → ArgumentsData → Plan Data
  entered_inside true line a = give disabler
  entered_inside false line a = do
    way ← subdir_call line a
    _ ← on_call_end into way
    refuse line refusals.Type []

  -- Calls a function inside an expression, by what it does as a statement.
  abbrev pub inside_by : Action → ℕ → Function → ArgumentsData → Plan Data
  inside_by Enter line f a = entered_inside (gives_disabler a) line a
  inside_by Leave line f a = do
    d ← plan_of_call line f a
    needed_value line d
  inside_by Call line f a = do
    d ← plan_of_call line f a
    needed_value line d

  -- Calls a function inside an expression, on evaluated arguments. It must have a value.
  abbrev pub called_inside : ℕ → Function → ArgumentsData → Plan Data
  called_inside line f a = inside_by (action_of f) line f a

  abbrev mutual
    -- Evaluates an expression, with its parts from left to right. `and`, `or` and a ternary evaluate only the parts that they need.
    pub value_of : ExpressionTree → Plan Data
    value_of (NameTree name line) = variable line name
    value_of (LiteralTree literal t line) = literal_value line literal t
    value_of (ListTree es line) = do
      ds ← values_of no_items es
      list_value line ds
    value_of (DictionaryTree es line) = do
      ps ← entries_of [] es
      dictionary_value line ps
    value_of (FunctionTree name es line) = do
      f ← function_inside line name
      a ← arguments_of no_arguments es
      called_inside line f a
    value_of (PostfixTree first ls line) = do
      o ← ruled (value_of first) >>= λ d. links_of line (Some d) ls
      needed_value line o
    value_of (PrefixTree prefix value line) = do
      d ← ruled (value_of value)
      prefix_value line prefix d
    value_of (ChainTree first others line) = do
      d ← ruled (value_of first)
      chain_of line d others
    value_of (TernaryTree test one other line) = do
      d ← ruled (value_of test)
      ternary_value line (boolean_in d) (is_disabler d) (ruled (value_of one)) (ruled (value_of other))

    -- The items so far, followed by those of the rest.
    pub values_of : Items → ExpressionTrees → Plan Items
    values_of ds NoExpression = give ds
    values_of ds (MoreExpressions e es) = do
      d ← ruled (value_of e)
      values_of (items_append ds (item d no_items)) es

    -- Evaluates the entries of a dictionary in order, each key before its value, and appends them to the pairs so far.
    pub entries_of : List (Data × Data) → EntryTrees → Plan (List (Data × Data))
    entries_of ps NoEntry = give ps
    entries_of ps (MoreEntries key value es) = do
      k ← ruled (value_of key)
      d ← ruled (value_of value)
      entries_of (ps ++ (k, d) ∷ []) es

    -- Evaluates the arguments of a call in order, and adds them to the arguments so far.
    pub arguments_of : ArgumentsData → ArgumentTrees → Plan ArgumentsData
    arguments_of a NoArgument = give a
    arguments_of a (MoreArguments name e es) = do
      d ← ruled (value_of e)
      arguments_of (with_argument a name d) es

    -- Applies methods and indexes to a value in turn.
    pub links_of : ℕ → Option Data → LinkTrees → Plan (Option Data)
    links_of line o NoLink = give o
    links_of line o (MoreLinks l ls) = do
      d ← needed_value line o
      next ← link_of line d l
      links_of line next ls

    -- Applies one method or one index to a value, after it has evaluated the arguments or the index.
    pub link_of : ℕ → Data → LinkTree → Plan (Option Data)
    link_of line d (MethodTree name es) = method_of line d name (arguments_of no_arguments es)
    link_of line d (IndexTree index) = do
      i ← ruled (value_of index)
      part_at line d i

    -- Applies a chain of operators to the value so far.
    pub chain_of : ℕ → Data → OperandTrees → Plan Data
    chain_of line d NoOperand = give d
    chain_of line d (MoreOperands operator e es) = do
      x ← operator_value line (meaning_of operator) d (ruled (value_of e))
      chain_of line x es

  -- Evaluates an expression that is a statement. Its last method may have no value.
  abbrev pub given_by : ExpressionTree → Plan (Option Data)
  given_by (PostfixTree first ls line) = ruled (value_of first) >>= λ d. links_of line (Some d) ls
  given_by e = do
    d ← value_of e
    give (Some d)
