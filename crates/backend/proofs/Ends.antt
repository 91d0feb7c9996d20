-- What the status says of what was written.
use Rattle.std.proofs.Common.{◌≡◌, ◌+◌, List, Result, Ok, Err, refl, ◌∙◌, arith}
use Rattle.std.proofs.lemmas.Bool.{false≢true}
use Rattle.ports.specs.Endings.{ending_of_result}
use Rattle.ports.specs.Outputs.{OutputState, Step, Makes, Writes, faults}
use Rattle.ports.specs.declared.fault.DeviceFault.{DeviceFault}
use Rattle.support.specs.Faults.{FaultData, fault_line}
use Rattle.build.specs.project.World.{WorldData}
use Rattle.backend.specs.BuildFile.{ending_of}
use Rattle.backend.specs.declared.stop.WriteStop.{WriteStop}
use Rattle.backend.specs.declared.stop.WriteStop.TheVariants as stops
use Rattle.backend.specs.Concluding.{Agrees, done_with, faulted_with, outputs_steps, failed_devices}
use Rattle.backend.specs.Concluding.{status_of_fault, status_of_outputs}

-- the outputs of a project
pub agrees_outputs : (w : WorldData) (r : Result (Unit {0}) WriteStop) {old new : OutputState} → Makes old (outputs_steps w) (ending_of r) new → Agrees (done_with w) (status_of_outputs r) old new
agrees_outputs w (Ok x) m = record { status = λ h. refl; events = m.sends }
agrees_outputs w (Err stops.Device) m = record { status = λ h. absurd (false≢true h); events = m.sends }
agrees_outputs w (Err stops.Memory) m = record { status = λ h. absurd (false≢true h); events = m.sends }

pub device_outputs : (r : Result (Unit {0}) WriteStop) {run : List Step} {old new : OutputState} → Makes old run (ending_of r) new → new.failures ≡ old.failures + failed_devices (status_of_outputs r)
device_outputs (Ok x) {old = old} m = let e : old.failures ≡ old.failures + 0 = omega arith in m.failures ∙ e
device_outputs (Err stops.Device) m = m.failures
device_outputs (Err stops.Memory) {old = old} m = let e : old.failures ≡ old.failures + 0 = omega arith in m.failures ∙ e

-- the line of a fault
pub agrees_fault : (f : FaultData) (r : Result (Unit {0}) DeviceFault) {old new : OutputState} → Writes old (faults (fault_line f)) (ending_of_result r) new → Agrees (faulted_with f) (status_of_fault r) old new
agrees_fault f (Ok x) m = record { status = λ h. refl; events = m.sends }
agrees_fault f (Err e) m = record { status = λ h. absurd (false≢true h); events = m.sends }

pub device_fault : (r : Result (Unit {0}) DeviceFault) {run : List Step} {old new : OutputState} → Writes old run (ending_of_result r) new → new.failures ≡ old.failures + failed_devices (status_of_fault r)
device_fault (Ok x) {old = old} m = let e : old.failures ≡ old.failures + 0 = omega arith in m.failures ∙ e
device_fault (Err x) m = m.failures
