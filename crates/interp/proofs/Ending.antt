-- Runs that begin and stop.
use Rattle.std.proofs.Common.{Bool, ◌≡◌, ℕ, ◌+◌, List, [], ◌∷◌, ◌++◌, Ok, Err, sym, subst}
use Rattle.world.specs.Deed.{Files}
use Rattle.world.specs.Gives.{Holds}
use Rattle.world.specs.Plan.{Plan}
use Rattle.world.specs.declared.stop.Stop.{Stop}
use Rattle.expressions.specs.Contexts.{Stand, Given}
use Rattle.interp.specs.Bounds.{bounds}
use Rattle.interp.specs.Folders.{folder}
use Rattle.interp.specs.Statements.{do_all}
use Rattle.interp.specs.declared.flow.Flow.{Flow}
use Rattle.interp.specs.declared.flow.Flow.TheVariants.{Next}
use Rattle.interp.specs.declared.frames.BlockRest.{BlockRest}
use Rattle.interp.specs.declared.frames.Frame.TheVariants as frames
use Rattle.interp.specs.declared.frames.Frame.{Frame}
use Rattle.interp.specs.Frames.{EachMeans, Made, Moved, Moves, Stacked, others_by, unwound_rules}
use Rattle.expressions.proofs.Evaluating.{leads_start}
use Rattle.interp.proofs.Stack.{given_counting, moves_block}

abbrev pub ticking : ℕ → Stand → Stand
ticking n s = record { world = s.world; names = s.names; tree = s.tree; out = s.out; ticks = n }

-- once the rules on the stack have ended
pub given_unwound : {files : Files} {whole : Plan Flow} {s0 s1 : Stand} {stop : Stop} {fs : List Frame} (other : Stop) (n : ℕ) → other ≡ stop → n ≡ s1.ticks + unwound_rules stop fs
    → Moves files whole s0 (Err stop) fs s1 → Given {B = Flow} (λ f. f) files whole s0 (Err other) (ticking n s1)
given_unwound {files = files} {whole = whole} {s0 = s0} {s1 = s1} other n is e m =
    subst (λ (d : Stop). Given {B = Flow} (λ f. f) files whole s0 (Err d) (ticking n s1)) (sym is) (given_counting n e m.moves)

-- the run begins with one block
pub run_begun : (few : Bool) (fs gs : List Frame) (b : BlockRest) {files : Files} {s : Stand} (table : List (List ℕ)) → fs ≡ [] → gs ≡ fs ++ frames.Block b ∷ [] → Made b.code.value s.names table
    → Holds s.tree files → Moved files (do_all (folder (bounds few b.left)) few (others_by table b)) s Next gs s
run_begun few fs gs b {s = s} table none is m h =
    let first : Stacked s.names fs [] = record { each = subst (λ l. EachMeans s.names l []) (sym none) tt } in
    (moves_block few fs gs [] b table first is m (leads_start h)).moves

pub moved_as : {files : Files} {whole other : Plan Flow} {s0 s1 : Stand} {flow : Flow} {fs : List Frame} → whole ≡ other → Moved files whole s0 flow fs s1 → Moved files other s0 flow fs s1
moved_as {files = files} {s0 = s0} {s1 = s1} {flow = flow} {fs = fs} e m = subst (λ p. Moved files p s0 flow fs s1) e m
