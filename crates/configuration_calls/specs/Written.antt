-- Defines what `configure_file` writes to its output.
use Rattle.std.specs.Prelude.{◌≡◌, ℕ, List, [], Option, Some, None, Result, is_some, option_map, unwrap_or}
use Rattle.build.specs.edge.Texts.{Path}
use Rattle.support.specs.Faults.{FaultData, plain_fault}
use Rattle.support.specs.declared.faults.refusal.Refusal.{Refusal}
use Rattle.support.specs.declared.faults.refusal.Refusal.TheVariants as refusals
use Rattle.ports.specs.Tree.{Stays, bytes_at}
use Rattle.template.specs.Config.{Entries}
use Rattle.template.specs.Header.{header_steps}
use Rattle.template.specs.Line.{BadDefine, LongLine, Refusal as LineRefusal}
use Rattle.template.specs.Template.{template_fault, template_steps}
use Rattle.template.specs.declared.stop.PassStop.{PassStop}
use Rattle.template.specs.declared.stop.PassStop.TheVariants as pass_stops
use Rattle.template.proofs.Staying.{header_stays, template_stays}
use Rattle.world.specs.Answering.{Fails, State, seen_at}
use Rattle.world.specs.Deed.{Deed, Files, give, ask, ◌>>=◌, need, perform}
use Rattle.world.specs.Gives.{Gives, Holds, IsRefusal}
use Rattle.world.specs.Making.{Filling}
use Rattle.world.specs.declared.stop.Stop.{Stop}
use Rattle.world.specs.declared.stop.Stop.TheVariants as stops

-- ---- a template

-- Returns the bytes of a file that must be present (E14).
unfoldable pub template_at : Path → Deed (List ℕ)
template_at path = do
  bytes ← ask path
  _ ← need (is_some bytes) refusals.FileMissing path
  give (unwrap_or bytes [])

-- Returns E19 or E22 for a line that is refused.
abbrev pub of_line : LineRefusal → Refusal
of_line BadDefine = refusals.Template
of_line LongLine = refusals.Limit

-- Returns the fault of a line that is refused, at its place in the template.
abbrev pub fault_at : Path → ℕ × LineRefusal → FaultData
fault_at path found = plain_fault path found.0 (of_line found.1)

-- Returns the template's filled lines, up to the first one that is refused.
unfoldable pub template_filling : Entries → Path → List ℕ → Filling
template_filling entries path bytes = record {
  steps = template_steps entries path bytes;
  stays = (template_stays entries path bytes).is;
  fault = option_map (fault_at path) (template_fault bytes);
}

-- Returns the whole text of an output that is made without a template.
unfoldable pub header_filling : Entries → Filling
header_filling entries = record { steps = header_steps entries; stays = (header_stays entries).is; fault = None }

-- Returns what fills an output, given these files of the tree.
abbrev pub filling_in : Entries → Option Path → Files → Filling
filling_in entries None files = header_filling entries
filling_in entries (Some path) files = template_filling entries path (bytes_at files path)

-- ---- code that reads a file of the tree as it writes

-- Holds if the call ended as the deed for these files does, or stopped after a prefix of the deed's output steps.
pub record CarriesOf {A B : Type 0} (view : B → A) (deed : Files → Deed A) (old : State) (result : Result B Stop) (new : State)
    : Type 0 where
  pub gives : (files : Files) (n : ℕ) → Holds old.tree files
      → Gives view (perform files (deed files) old.world) result new.world (seen_at old n) (seen_at new n)
  pub stays : Stays old.tree new.tree
  pub device : Fails old result new
  pub same : new.lent ≡ old.lent

-- Holds if a call stopped with the fault for which its template was given up.
abbrev pub StopsSo : Path → PassStop → Stop → Type 0
StopsSo path (pass_stops.Template line) s = IsRefusal s (plain_fault path line refusals.Template)
StopsSo path (pass_stops.Limit line) s = IsRefusal s (plain_fault path line refusals.Limit)
StopsSo path pass_stops.Device s = s ≡ stops.Device
