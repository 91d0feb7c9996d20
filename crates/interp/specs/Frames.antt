-- Defines what is left to do of statements that have begun, frame by frame.
use Rattle.std.specs.Prelude.{◌≡◌, Bool, ℕ, zero, suc, ◌+◌, ◌≤◌, List, [], ◌∷◌, ◌++◌, drop, length, map, option_map, Option, Some, None}
use Rattle.std.specs.Prelude.{Result, Ok, Err, string_bytes, refl}
use Rattle.code.specs.Draft.{IsFront}
use Rattle.code.specs.Statements.{branch_at, name_at, statement_at}
use Rattle.code.specs.declared.code.Code.{Code}
use Rattle.code.specs.declared.node.BranchNode.{BranchNode}
use Rattle.values.specs.View.{data_of}
use Rattle.values.specs.declared.language_names.functions.Function.{Function}
use Rattle.arguments.specs.Arguments.{ArgumentsData, arguments_data}
use Rattle.support.specs.declared.faults.refusal.Refusal.TheVariants as refusals
use Rattle.syntax.specs.Tree.{StatementTree, Statements, Branches, NoBranch, MoreBranches, branches}
use Rattle.syntax.specs.ExpressionTree.{ExpressionTree}
use Rattle.ports.specs.Outputs.{OutputState}
use Rattle.ports.specs.Tree.{TreeState}
use Rattle.world.specs.Deed.{Files, change}
use Rattle.world.specs.Gives.{Holds}
use Rattle.world.specs.Plan.{Plan, deed, ruled, ◌>>=◌, give, refuse}
use Rattle.world.specs.World.{with_place}
use Rattle.world.specs.declared.stop.Stop.{Stop}
use Rattle.world.specs.declared.stop.Stop.TheVariants as stops
use Rattle.expressions.specs.declared.context.Context.{Context}
use Rattle.interp.specs.declared.block.Block.{Block}
use Rattle.interp.specs.declared.flow.Flow.{Flow}
use Rattle.interp.specs.declared.flow.Flow.TheVariants.{Next}
use Rattle.interp.specs.declared.halt.Halt.{Halt}
use Rattle.interp.specs.declared.halt.Halt.TheVariants as halts
use Rattle.interp.specs.declared.halt.FolderEntry.{FolderEntry}
use Rattle.interp.specs.declared.loop_rounds.LoopProgress.{LoopProgress}
use Rattle.interp.specs.declared.loop_rounds.LoopProgress.TheVariants as tours
use Rattle.interp.specs.declared.block_statements.BlockProgress.{BlockProgress}
use Rattle.interp.specs.declared.block_statements.BlockProgress.TheVariants as walks
use Rattle.world.specs.declared.store.Place.{Place}
use Rattle.interp.specs.declared.frames.BlockRest.{BlockRest}
use Rattle.interp.specs.declared.frames.LoopHead.{LoopHead}
use Rattle.interp.specs.declared.frames.LoopRest.{LoopRest}
use Rattle.interp.specs.declared.frames.Frame.{Frame}
use Rattle.interp.specs.declared.frames.Frame.TheVariants as frames
use Rattle.expressions.specs.Codes.{block_by, statements_by}
use Rattle.interp.specs.Blocks.{statements_of}
use Rattle.expressions.specs.Contexts.{Stand, Given, Leads, stand_of}
use Rattle.interp.specs.Evaluates.{Comes, HaltsTo, Reads}
use Rattle.interp.specs.Bounds.{Bounds, bounds}
use Rattle.interp.specs.Folders.{folder}
use Rattle.interp.specs.FolderEntries.{folder_in_expression}
use Rattle.expressions.specs.Rounds.{rounds_in, Round}
use Rattle.interp.specs.StatementCalls.{call_for_effect}
use Rattle.interp.specs.Statements.{after_round, branches_of, do_all, does, on_next, rounds_of}
use Rattle.expressions.specs.Assignments.{assignment_of_round}

-- ---- the rest

-- The rest of a frame is the part of it that is still to be done.
pub data Rest : Type 0 where
  -- The other statements of a block, within these bounds.
  Others : Bounds → Statements → Rest
  -- The other iterations of a loop: its line, its names, its statements, and the iterations.
  Rounds : Bounds → ℕ → List ℕ → Option (List ℕ) → Statements → List Round → Rest
  -- The call of a function, whose value is dropped: its line, the function and its arguments.
  Calls : ℕ → Function → ArgumentsData → Rest
  -- The end of a rule.
  End : Rest
  -- The way back from a file to this file, its folder and this line.
  Left : List ℕ → List ℕ → ℕ → Rest
  -- The refusal of a call at this line, which has no value.
  Refuses : ℕ → Rest

-- Runs one iteration of a loop.
abbrev pub one_round : Bounds → ℕ → List ℕ → Option (List ℕ) → Statements → Round → Plan Flow
one_round left line first second body r = do
  _ ← assignment_of_round line first second r
  do_all (folder left) left.few body

-- Returns to the earlier place. A file passes no flow on.
abbrev pub gone_back : List ℕ → List ℕ → ℕ → Flow → Plan Flow
gone_back file folder line flow = do
  _ ← deed (change (with_place file folder line) (λ facts. refl))
  give Next

-- Runs a plan, followed by what is left.
abbrev pub behind : Rest → Plan Flow → Plan Flow
behind (Others left ss) p = p >>= λ flow. on_next flow (do_all (folder left) left.few ss)
behind (Rounds left line first second body rounds) p =
    p >>= λ flow. after_round flow (rounds_of (one_round left line first second body) rounds)
behind (Calls line f a) p = p >>= λ _. call_for_effect line f a
behind End p = ruled p
behind (Left file folder line) p = p >>= gone_back file folder line
behind (Refuses line) p = p >>= λ _. refuse line refusals.Type []

-- Runs a plan, followed by all that is left. The last of the list comes first.
abbrev pub behind_all : List Rest → Plan Flow → Plan Flow
behind_all [] p = p
behind_all (r ∷ rs) p = behind r (behind_all rs p)

-- ---- the meaning of frames

-- The table by which code was made. The table of names only grows.
pub record Made (code : Code) (names table : List (List ℕ)) : Type 0 where
  pub front : IsFront table names
  pub known : code.names ≤ length table

-- Returns the statements of a block from an index on.
abbrev pub others_by : List (List ℕ) → BlockRest → Statements
others_by table b = block_by table b.code.value (drop b.at (statements_of b.code.value b.block))

-- Holds if this is what is left of a block.
pub record MeansBlock (names : List (List ℕ)) (b : BlockRest) (rest : Rest) : Type 0 where
  pub table : List (List ℕ)
  pub made : Made b.code.value names table
  pub few : Bool
  pub is : rest ≡ Others (bounds few b.left) (others_by table b)

-- Runs one iteration of the loop with this head.
abbrev pub round_by : List (List ℕ) → Code → Bounds → LoopHead → Round → Plan Flow
round_by table c left h =
    one_round left h.line (name_at table h.first) (option_map (name_at table) h.second) (block_by table c (statements_of c h.body))

-- Returns the iterations of a loop from an index on.
abbrev pub rounds_left : LoopRest → List Round
rounds_left l = drop l.at (rounds_in (data_of l.whole))

-- Holds if this is what is left of a loop.
pub record MeansLoop (names : List (List ℕ)) (l : LoopRest) (rest : Rest) : Type 0 where
  pub table : List (List ℕ)
  pub made : Made l.code.value names table
  pub few : Bool
  pub is : rest ≡ Rounds (bounds few l.left) l.head.line (name_at table l.head.first) (option_map (name_at table) l.head.second)
      (block_by table l.code.value (statements_of l.code.value l.head.body)) (rounds_left l)

-- Holds if this is what is left of a frame.
abbrev pub Means : List (List ℕ) → Frame → Rest → Type 0
Means names (frames.Block b) rest = MeansBlock names b rest
Means names (frames.Loop l) rest = MeansLoop names l rest
Means names (frames.Call call) rest = rest ≡ Calls call.line call.function (arguments_data call.arguments)
Means names frames.End rest = rest ≡ End
Means names (frames.Left place) rest = rest ≡ Left (string_bytes place.file) (string_bytes place.folder) place.line
Means names (frames.Refuses line) rest = rest ≡ Refuses line

-- Holds if these are what is left of frames, one by one.
abbrev pub EachMeans : List (List ℕ) → List Frame → List Rest → Type 0
EachMeans names [] [] = Unit {0}
EachMeans names (f ∷ fs) (r ∷ rs) = Means names f r × EachMeans names fs rs
EachMeans names [] (r ∷ rs) = ⊥
EachMeans names (f ∷ fs) [] = ⊥

-- The meaning of a stack, frame by frame.
pub record Stacked (names : List (List ℕ)) (fs : List Frame) (rs : List Rest) : Type 0 where
  pub each : EachMeans names fs rs

-- ---- faults

-- Returns how many rules are still to end.
abbrev pub ends_in : Frame → ℕ
ends_in (frames.Block b) = 0
ends_in (frames.Loop l) = 0
ends_in (frames.Call call) = 0
ends_in frames.End = 1
ends_in (frames.Left place) = 0
ends_in (frames.Refuses line) = 0

-- Returns how many rules of a stack are still to end.
abbrev pub pending_rules : List Frame → ℕ
pending_rules [] = 0
pending_rules (f ∷ fs) = ends_in f + pending_rules fs

-- Returns how many rules a stop ends. A fault ends all of them.
abbrev pub unwound_rules : Stop → List Frame → ℕ
unwound_rules (stops.Refused fault) fs = pending_rules fs
unwound_rules stops.Device fs = 0
unwound_rules stops.Memory fs = 0

-- Returns the state after the counter of rules was raised by n.
abbrev pub state_after_ticks : ℕ → Stand → Stand
state_after_ticks n s = record { world = s.world; names = s.names; tree = s.tree; out = s.out; ticks = s.ticks + n }

-- ---- the effect of a step

-- The whole plan is what the stack still does after this flow.
pub record Moved (files : Files) (whole : Plan Flow) (old : Stand) (flow : Flow) (fs : List Frame) (now : Stand) : Type 0 where
  pub rests : List Rest
  pub stacked : Stacked now.names fs rests
  pub leads : Leads files whole old (behind_all rests (give flow)) now

-- Holds if the stack does the rest of the whole plan, or if the plan stopped after the rules on the stack ended.
abbrev pub MovesTo : Files → Plan Flow → Stand → Result Flow Stop → List Frame → Stand → Type 0
MovesTo files whole old (Ok flow) fs now = Moved files whole old flow fs now
MovesTo files whole old (Err stop) fs now =
    Given {B = Flow} (λ f. f) files whole old (Err stop) (state_after_ticks (unwound_rules stop fs) now)

-- The stack does the rest of the whole plan, or the plan stopped after the rules on the stack ended.
pub record Moves (files : Files) (whole : Plan Flow) (old : Stand) (result : Result Flow Stop) (fs : List Frame)
    (now : Stand) : Type 0 where
  pub moves : MovesTo files whole old result fs now

-- The whole plan is to enter this folder, followed by what the stack still does.
pub record Waits (files : Files) (left : Bounds) (whole : Plan Flow) (old : Stand) (entry : FolderEntry) (fs : List Frame) (now : Stand)
    : Type 0 where
  pub rests : List Rest
  pub stacked : Stacked now.names fs rests
  pub leads : Leads files whole old (behind_all rests (folder_in_expression left entry)) now

-- Holds if the stack does the rest of the whole plan, or if the plan stopped or waits for a folder.
abbrev pub BeginsTo : Files → Bounds → Plan Flow → Stand → Result Flow Halt → List Frame → Stand → Type 0
BeginsTo files left whole old (Ok flow) fs now = Moved files whole old flow fs now
BeginsTo files left whole old (Err (halts.Stops stop)) fs now = MovesTo files whole old (Err stop) fs now
BeginsTo files left whole old (Err (halts.Enters entry)) fs now = Waits files left whole old entry.value fs now

-- A statement has begun. It may be left for a folder, within these bounds.
pub record Begun (files : Files) (left : Bounds) (whole : Plan Flow) (old : Stand) (result : Result Flow Halt) (fs : List Frame)
    (now : Stand) : Type 0 where
  pub begun : BeginsTo files left whole old result fs now

-- ---- what is run in place

-- Holds if the statement was run, or if nothing was run because it needs the stack.
abbrev pub DoneTo : Files → Bounds → Plan Flow → Stand → Result (Option Flow) Halt → Stand → Type 0
DoneTo files left plan old (Ok (Some flow)) now = Given (λ (f : Flow). f) files plan old (Ok flow) now
DoneTo files left plan old (Ok None) now = Leads files plan old plan now
DoneTo files left plan old (Err halt) now = HaltsTo files left plan old halt now

-- Holds if the statement was run, or if nothing was run because it needs the stack.
pub record DoneHere (files : Files) (left : Bounds) (plan : Plan Flow) (old : Stand) (result : Result (Option Flow) Halt)
    (now : Stand) : Type 0 where
  pub done : DoneTo files left plan old result now

-- The plan of each statement, by its number, and the plan of the statements of a block from each index on.
pub record Parts : Type 1 where
  pub begun : ℕ → Plan Flow
  pub rest : ℕ → Plan Flow

-- Returns what the statements of a block do, by the code.
abbrev pub parts_by : List (List ℕ) → Code → Bounds → Block → Parts
parts_by table c left block = record {
  begun = λ number. does (folder left) left.few (statement_at (statements_by table c) number);
  rest = λ at. do_all (folder left) left.few (block_by table c (drop at (statements_of c block)));
}

-- Returns what is left of statements: nothing, one and the rest after it, or a folder that is entered and the rest after it.
abbrev pub walk_left : Parts → Bounds → BlockProgress → Plan Flow
walk_left parts left (walks.Ends flow) = give flow
walk_left parts left (walks.Begins number at) = ruled (parts.begun number) >>= λ flow. on_next flow (parts.rest at)
walk_left parts left (walks.Enters entry at) = ruled (folder_in_expression left entry.value) >>= λ flow. on_next flow (parts.rest at)

-- Holds if the rest of the whole plan is this one, or if it stopped.
abbrev pub LeadsOr : {X : Type 0} → (X → Plan Flow) → Files → Plan Flow → Stand → Result X Stop → Stand → Type 0
LeadsOr rest files whole old (Ok x) now = Leads files whole old (rest x) now
LeadsOr rest files whole old (Err stop) now = Given {B = Flow} (λ f. f) files whole old (Err stop) now

-- Holds if the rest of the whole plan is this one, or if it stopped.
pub record Rested {X : Type 0} (rest : X → Plan Flow) (files : Files) (whole : Plan Flow) (old : Stand) (result : Result X Stop)
    (now : Stand) : Type 0 where
  pub rested : LeadsOr rest files whole old result now

-- Returns what is left of iterations: nothing, or what is left of one and the iterations after it.
abbrev pub loop_left : Parts → Bounds → (ℕ → Plan Flow) → LoopProgress → Plan Flow
loop_left parts left rounds (tours.Ends flow) = give flow
loop_left parts left rounds (tours.Stands progress at) = ruled (walk_left parts left progress) >>= λ flow. after_round flow (rounds at)

-- Holds if a frame and the end of a rule were put on a stack, or if memory ran out.
abbrev pub Lays : List Frame → Frame → Result (Unit {0}) Stop → List Frame → Type 0
Lays before frame (Ok u) after = after ≡ (before ++ frame ∷ []) ++ frames.End ∷ []
Lays before frame (Err stop) after = stop ≡ stops.Memory

-- Holds if the statements of a folder's file were put on a stack, or if memory ran out. Below them are the end of a rule and the way back.
abbrev pub LaysFolder : List Frame → Place → BlockRest → Result (Unit {0}) Stop → List Frame → Type 0
LaysFolder before outer file (Ok u) after = after ≡ ((before ++ frames.Left outer ∷ []) ++ frames.End ∷ []) ++ frames.Block file ∷ []
LaysFolder before outer file (Err stop) after = stop ≡ stops.Memory

-- Returns how far the parts of a branch reach: its condition.
abbrev pub above_branch : BranchNode → ℕ
above_branch b = suc b.condition

-- Holds if a part of an `if` was chosen, and the rest of the whole plan is that part's, or if none was.
abbrev pub Chooses : Files → Bounds → Plan Flow → Stand → (Option ℕ → Plan Flow) → Result (Option ℕ) Halt → Stand → Type 0
Chooses files left whole old part (Ok chosen) now = Leads files whole old (part chosen) now
Chooses files left whole old part (Err halt) now = HaltsTo files left whole old halt now

-- Runs a part of an `if`, by its index, or nothing if the whole `if` is skipped.
abbrev pub part_done : (List ℕ → Plan Flow) → Bool → Branches → Statements → Option ℕ → Plan Flow
part_done into few bs otherwise None = give Next
part_done into few NoBranch otherwise (Some part) = do_all into few otherwise
part_done into few (MoreBranches test line body bs) otherwise (Some zero) = do_all into few body
part_done into few (MoreBranches test line body bs) otherwise (Some (suc part)) = part_done into few bs otherwise (Some part)

module _ {T O L : Type 0} where
  -- Holds if the call does what this plan does, on top of what is left of a stack. The plan uses the table of names at the time when the
  -- code was made.
  abbrev pub Does : (T → TreeState) → (O → OutputState) → (List (List ℕ) → Plan Flow) → Code
      → Context T O L → List Frame → Result Flow Stop → Context T O L → List Frame → Type 0
  Does tree out plan code old before result new after =
      (files : Files) (rests : List Rest) (table : List (List ℕ)) → Holds (tree old.tree.now) files
      → Stacked old.store.now.names before rests → Made code old.store.now.names table
      → Moves files (behind_all rests (plan table)) (stand_of tree out old) result after (stand_of tree out new)

  -- Holds if the call begins a statement as this plan does, on top of what is left of a stack.
  abbrev pub Begins : (T → TreeState) → (O → OutputState) → (List (List ℕ) → Plan Flow) → Bounds → Code
      → Context T O L → List Frame → Result Flow Halt → Context T O L → List Frame → Type 0
  Begins tree out plan left code old before result new after =
      (files : Files) (rests : List Rest) (table : List (List ℕ)) → Holds (tree old.tree.now) files
      → Stacked old.store.now.names before rests → Made code old.store.now.names table
      → Begun files left (behind_all rests (plan table)) (stand_of tree out old) result after (stand_of tree out new)

  -- Holds if the call does what this plan does, which reads no code, on top of what is left of a stack.
  abbrev pub Acts : (T → TreeState) → (O → OutputState) → Plan Flow
      → Context T O L → List Frame → Result Flow Stop → Context T O L → List Frame → Type 0
  Acts tree out plan old before result new after =
      (files : Files) (rests : List Rest) → Holds (tree old.tree.now) files → Stacked old.store.now.names before rests
      → Moves files (behind_all rests plan) (stand_of tree out old) result after (stand_of tree out new)

  -- Holds if the call does what is left of a frame, on top of what is left of a stack.
  abbrev pub Turns : (T → TreeState) → (O → OutputState) → Frame → Flow
      → Context T O L → List Frame → Result Flow Stop → Context T O L → List Frame → Type 0
  Turns tree out frame flow old before result new after =
      (files : Files) (rests : List Rest) (rest : Rest) → Holds (tree old.tree.now) files
      → Stacked old.store.now.names before rests → Means old.store.now.names frame rest
      → Moves files (behind_all rests (behind rest (give flow))) (stand_of tree out old) result after (stand_of tree out new)

  -- Holds if the call does what this plan does, unless it needs the stack.
  abbrev pub DoesHere : (T → TreeState) → (O → OutputState) → (List (List ℕ) → Bounds → Plan Flow) → Code
      → Context T O L → Result (Option Flow) Halt → Context T O L → Type 0
  DoesHere tree out plan code old result new =
      (files : Files) (left : Bounds) (table : List (List ℕ)) → Holds (tree old.tree.now) files → Made code old.store.now.names table
      → DoneHere files left (plan table left) (stand_of tree out old) result (stand_of tree out new)

  -- Holds if the call does what this plan does, which needs no stack.
  abbrev pub ComesHere : (T → TreeState) → (O → OutputState) → (List (List ℕ) → Bounds → Plan Flow) → Code
      → Context T O L → Result Flow Halt → Context T O L → Type 0
  ComesHere tree out plan code old result new =
      (files : Files) (left : Bounds) (table : List (List ℕ)) → Holds (tree old.tree.now) files → Made code old.store.now.names table
      → Comes (λ (f : Flow). f) files left (plan table left) (stand_of tree out old) result (stand_of tree out new)

  -- Holds if the call does the statements of a block, unless one needs the stack.
  abbrev pub Walks : (T → TreeState) → (O → OutputState) → (List (List ℕ) → Bounds → Plan Flow) → Block → Code
      → Context T O L → Result BlockProgress Stop → Context T O L → Type 0
  Walks tree out plan block code old result new =
      (files : Files) (left : Bounds) (table : List (List ℕ)) → Holds (tree old.tree.now) files → Made code old.store.now.names table
      → Rested (walk_left (parts_by table code left block) left) files (plan table left) (stand_of tree out old) result
      (stand_of tree out new)

  -- Holds if the call does the iterations of a loop with this head, from an index on, unless one needs the stack.
  abbrev pub Tours : (T → TreeState) → (O → OutputState) → LoopHead → List Round → ℕ → Code
      → Context T O L → Result LoopProgress Stop → Context T O L → Type 0
  Tours tree out head all from code old result new =
      (files : Files) (left : Bounds) (table : List (List ℕ)) → Holds (tree old.tree.now) files → Made code old.store.now.names table
      → Rested (loop_left (parts_by table code left head.body) left (λ at. rounds_of (round_by table code left head) (drop at all))) files
      (rounds_of (round_by table code left head) (drop from all)) (stand_of tree out old) result (stand_of tree out new)

  -- Holds if the call chooses among the parts of an `if` with these branches.
  abbrev pub ChoosesOf : (T → TreeState) → (O → OutputState) → List BranchNode → Code
      → Context T O L → Result (Option ℕ) Halt → Context T O L → Type 0
  ChoosesOf tree out parts code old result new =
      (files : Files) (ts : List ExpressionTree) (ss : List StatementTree) (left : Bounds) (otherwise : Statements)
      → Holds (tree old.tree.now) files → Reads ts code old.store.now.names
      → Chooses files left
      (branches_of (folder left) left.few (branches (map (branch_at ts ss) parts)) (do_all (folder left) left.few otherwise))
      (stand_of tree out old) (part_done (folder left) left.few (branches (map (branch_at ts ss) parts)) otherwise) result
      (stand_of tree out new)
