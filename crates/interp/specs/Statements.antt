-- Defines what statements do, with a paragraph for each form of node.
use Rattle.std.specs.Prelude.{ℕ, Bool, true, false, List, [], ◌∷◌, length, nat_le, Result, Ok, Err}
use Rattle.syntax.specs.ExpressionTree.{ExpressionTree, FunctionTree}
use Rattle.syntax.specs.Tree.{StatementTree, AssignTree, AppendTree, ValueTree, BreakTree, ContinueTree, IfTree, ForeachTree, Statements}
use Rattle.syntax.specs.Tree.{NoStatement, MoreStatements, Branches, NoBranch, MoreBranches}
use Rattle.values.specs.Data.{boolean_in, is_disabler}
use Rattle.support.specs.declared.faults.refusal.Refusal.{Refusal}
use Rattle.support.specs.declared.faults.refusal.Refusal.TheVariants as refusals
use Rattle.world.specs.Plan.{Plan, ruled, ◌>>=◌, give, refuse}
use Rattle.expressions.specs.Assignments.{plus_assignment, variable_assignment, assignment_of_round, own}
use Rattle.expressions.specs.Conditions.{choice_of}
use Rattle.expressions.specs.Rounds.{Round, loop_rounds}
use Rattle.expressions.specs.declared.conditions.Choice.{Choice}
use Rattle.expressions.specs.declared.conditions.Choice.TheVariants.{Body, Others, Skip}
use Rattle.interp.specs.declared.flow.Flow.{Flow}
use Rattle.interp.specs.declared.flow.Flow.TheVariants.{Next, Continued, Broken, Finished}
use Rattle.interp.specs.StatementCalls.{named_call}
use Rattle.interp.specs.Expressions.{value_of, given_by}

-- Continues after a statement.
abbrev pub on_next : Flow → Plan Flow → Plan Flow
on_next Next others = others
on_next Continued others = give Continued
on_next Broken others = give Broken
on_next Finished others = give Finished

-- Continues after an iteration.
abbrev pub after_round : Flow → Plan Flow → Plan Flow
after_round Next others = others
after_round Continued others = others
after_round Broken others = give Next
after_round Finished others = give Finished

-- Runs the iterations that are left.
abbrev pub rounds_of : (Round → Plan Flow) → List Round → Plan Flow
rounds_of round [] = give Next
rounds_of round (r ∷ rs) = do
  flow ← ruled (round r)
  after_round flow (rounds_of round rs)

-- Returns whether there are no more iterations than allowed. `few`: the iterations of a loop are limited.
abbrev pub are_allowed : Bool → List Round → Bool
are_allowed false rounds = true
are_allowed true rounds = nat_le (length rounds) 65536

-- Runs the iterations of a loop, or refuses with E22 if there are too many.
abbrev pub rounds_if : Bool → ℕ → Plan Flow → Plan Flow
rounds_if true line rounds = rounds
rounds_if false line rounds = refuse line refusals.Limit []

-- Runs the iterations of a loop, or refuses the value that it is over.
abbrev pub rounds_within : Bool → ℕ → (Round → Plan Flow) → Result (List Round) Refusal → Plan Flow
rounds_within few line round (Ok rounds) = rounds_if (are_allowed few rounds) line (rounds_of round rounds)
rounds_within few line round (Err refusal) = refuse line refusal []

-- Continues with the part of an `if` that was chosen.
abbrev pub by_choice : Choice → Plan Flow → Plan Flow → Plan Flow
by_choice Body body others = body
by_choice Others body others = others
by_choice Skip body others = give Next

-- `into` is what the run does to enter the folder that a text names.
module _ (into : List ℕ → Plan Flow) where
  -- Runs an expression as a statement. A call may have no value.
  abbrev pub expression_statement : ExpressionTree → Plan Flow
  expression_statement (FunctionTree name es line) = ruled (named_call into line name es)
  expression_statement e = do
    _ ← ruled (given_by into e)
    give Next

-- ---- statements

-- `into` is the same here, and `few` says whether a loop over more than 65,536 values is refused. The meaning of definition files has no
-- such refusal. With it, the rules that end can be counted before any run. No value has so many items, so a run of the program is both.
module _ (into : List ℕ → Plan Flow) (few : Bool) where
  abbrev mutual
    -- Runs a statement. It returns whether the next one follows, or whether the iteration, the loop or the file is left.
    pub does : StatementTree → Plan Flow
    does (AssignTree name line value) = do
      d ← ruled (value_of into value)
      e ← own d
      _ ← variable_assignment line name e
      give Next
    does (AppendTree name line value) = do
      _ ← plus_assignment line name (ruled (value_of into value))
      give Next
    does (ValueTree e line) = expression_statement into e
    does (BreakTree line) = give Broken
    does (ContinueTree line) = give Continued
    does (IfTree line branches otherwise) = branches_of branches (do_all otherwise)
    does (ForeachTree line first second items items_line body) = do
      d ← ruled (value_of into items)
      rounds_within few line (λ r. assignment_of_round line first second r >>= λ _. do_all body) (loop_rounds second d)

    -- Runs the first branch whose condition is true, or else `otherwise`. If a condition is a disabler, it runs nothing.
    pub branches_of : Branches → Plan Flow → Plan Flow
    branches_of NoBranch otherwise = otherwise
    branches_of (MoreBranches test line body bs) otherwise = do
      d ← ruled (value_of into test)
      choice ← choice_of line (boolean_in d) (is_disabler d)
      by_choice choice (do_all body) (branches_of bs otherwise)

    -- Runs statements in order, up to the first after which the next one does not follow.
    pub do_all : Statements → Plan Flow
    do_all NoStatement = give Next
    do_all (MoreStatements s ss) = do
      flow ← ruled (does s)
      on_next flow (do_all ss)
