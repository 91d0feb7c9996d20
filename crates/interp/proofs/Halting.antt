-- Statements that begin, and may be left for a folder.
use Rattle.std.proofs.Common.{◌≡◌, List, Result, Ok, Err, IsErrAnd, Box, Global, refl, sym, subst}
use Rattle.world.specs.Deed.{Files}
use Rattle.world.specs.Plan.{Plan}
use Rattle.world.specs.declared.stop.Stop.{Stop}
use Rattle.world.specs.declared.stop.Stop.TheVariants as stops
use Rattle.expressions.specs.Contexts.{Leads, Stand}
use Rattle.interp.specs.Bounds.{Bounds}
use Rattle.interp.specs.Evaluates.{HaltsTo}
use Rattle.interp.specs.Frames.{Begun, BeginsTo, Moves, Rest, Stacked, Waits, behind_all}
use Rattle.interp.specs.FolderEntries.{folder_in_expression}
use Rattle.interp.specs.declared.flow.Flow.{Flow}
use Rattle.interp.specs.declared.frames.Frame.{Frame}
use Rattle.interp.specs.declared.halt.Halt.{Halt}
use Rattle.interp.specs.declared.halt.Halt.TheVariants as halts
use Rattle.interp.specs.declared.halt.FolderEntry.{FolderEntry}
use Rattle.interp.proofs.Stack.{leads_under, moves_given, moves_none, stacked_on}

-- ---- how it begins

-- a step was done
pub begun_moved : {files : Files} {left : Bounds} {whole : Plan Flow} {s0 s1 : Stand} {flow : Flow} {fs : List Frame}
    → Moves files whole s0 (Ok flow) fs s1 → Begun files left whole s0 (Ok flow) fs s1
begun_moved m = record { begun = m.moves }

-- a step stopped
pub begun_stop : {files : Files} {left : Bounds} {whole : Plan Flow} {s0 s1 : Stand} {stop : Stop} {fs : List Frame} (result : Result Flow Halt)
    → Moves files whole s0 (Err stop) fs s1 → IsErrAnd result (λ e. e ≡ halts.Stops stop) → Begun files left whole s0 result fs s1
begun_stop (Ok flow) m is = absurd is
begun_stop {files = files} {left = left} {whole = whole} {s0 = s0} {s1 = s1} {fs = fs} (Err e) m is =
    record { begun = subst (λ h. BeginsTo files left whole s0 (Err h) fs s1) (sym is) m.moves }

-- want of memory
pub begun_none : {files : Files} {left : Bounds} {whole rest : Plan Flow} {s0 s1 : Stand} (result : Result Flow Halt) (fs : List Frame)
    → Leads files whole s0 rest s1 → IsErrAnd result (λ e. e ≡ halts.Stops stops.Memory) → Begun files left whole s0 result fs s1
begun_none result fs l is = begun_stop result (moves_none (Err stops.Memory) fs l refl) is

-- what comes first halted, with this stack
halted_over : (files : Files) (left : Bounds) (p : Plan Flow) (s0 s1 : Stand) (halt : Halt) (fs : List Frame) (rs : List Rest)
    → Stacked s0.names fs rs → HaltsTo files left p s0 halt s1 → Begun files left (behind_all rs p) s0 (Err halt) fs s1
halted_over files left p s0 s1 (halts.Stops stop) fs rs h e = let m = moves_given fs rs (Err stop) h e in record { begun = m.moves }
halted_over files left p s0 s1 (halts.Enters entry) fs rs h e =
    record { begun = record { rests = rs; stacked = stacked_on fs rs e.continues.written.names h; leads = leads_under rs e } }

pub begun_halt : {files : Files} {left : Bounds} (p : Plan Flow) {s0 s1 : Stand} (halt : Halt) (result : Result Flow Halt) (fs : List Frame) (rs : List Rest)
    → Stacked s0.names fs rs → HaltsTo files left p s0 halt s1 → IsErrAnd result (λ e. e ≡ halt) → Begun files left (behind_all rs p) s0 result fs s1
begun_halt p halt (Ok flow) fs rs h e is = absurd is
begun_halt {files = files} {left = left} p {s0 = s0} {s1 = s1} halt (Err d) fs rs h e is =
    subst (λ x. Begun files left (behind_all rs p) s0 (Err x) fs s1) (sym is) (halted_over files left p s0 s1 halt fs rs h e)

-- the same plan, written otherwise
pub begun_as : {files : Files} {left : Bounds} {whole other : Plan Flow} {s0 s1 : Stand} {result : Result Flow Halt} {fs : List Frame}
    → whole ≡ other → Begun files left whole s0 result fs s1 → Begun files left other s0 result fs s1
begun_as {files = files} {left = left} {s0 = s0} {s1 = s1} {result = result} {fs = fs} e b = subst (λ p. Begun files left p s0 result fs s1) e b

-- ---- what it has begun

pub moves_begun : {files : Files} {left : Bounds} {whole : Plan Flow} {s0 s1 : Stand} {result : Result Flow Halt} {flow : Flow} {fs : List Frame}
    → result ≡ Ok flow → Begun files left whole s0 result fs s1 → Moves files whole s0 (Ok flow) fs s1
moves_begun {files = files} {left = left} {whole = whole} {s0 = s0} {s1 = s1} {fs = fs} is b =
    let d : Begun files left whole s0 (Ok _) fs s1 = subst (λ r. Begun files left whole s0 r fs s1) is b in record { moves = d.begun }

pub moves_stopped : {files : Files} {left : Bounds} {whole : Plan Flow} {s0 s1 : Stand} {halt : Halt} {stop : Stop} {fs : List Frame}
    → halt ≡ halts.Stops stop → Begun files left whole s0 (Err halt) fs s1 → Moves files whole s0 (Err stop) fs s1
moves_stopped {files = files} {left = left} {whole = whole} {s0 = s0} {s1 = s1} {fs = fs} is b =
    record { moves = subst (λ x. BeginsTo files left whole s0 (Err x) fs s1) is b.begun }

pub waits_begun : {files : Files} {left : Bounds} {whole : Plan Flow} {s0 s1 : Stand} {halt : Halt} {entry : Box FolderEntry Global} {fs : List Frame}
    → halt ≡ halts.Enters entry → Begun files left whole s0 (Err halt) fs s1 → Waits files left whole s0 entry.value fs s1
waits_begun {files = files} {left = left} {whole = whole} {s0 = s0} {s1 = s1} {fs = fs} is b =
    subst (λ x. BeginsTo files left whole s0 (Err x) fs s1) is b.begun
