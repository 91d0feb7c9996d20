use Rattle.std.proofs.Common.{◌≡◌, List, Result, Ok, Err, refl, sym, ap, ◌∙◌}
use Rattle.std.specs.Global.{Global}
use Rattle.std.specs.Rc.{rc_value}
use Rattle.std.proofs.lemmas.Result.{IfErr-at_err, IfOk-at_ok}
use Rattle.support.specs.declared.faults.fault.Fault.{Fault}
use Rattle.support.specs.Faults.{FaultData}
use Rattle.support.specs.View.{fault_view}
use Rattle.machine_file.specs.Answers.{MachineSaid, told}
use Rattle.machine_file.specs.Fault.{fault_of_machine_file}
use Rattle.machine_file.specs.Files.{Section}
use Rattle.machine_file.specs.View.{answer_in, machine_in}
use Rattle.world.specs.declared.stop.Stop.TheVariants as stops
use Rattle.interp.specs.FirstStatement.{Reads}
use Rattle.interp.proofs.evaluation.read_machine.Goals as goal

refused : {A : Type 0} (view : A → List Section) (said : MachineSaid) (fault : Fault) → Err (fault_view fault) ≡ told said
    → Reads view said (Err (stops.Refused fault))
refused view (Ok sections) fault e = absurd (let no : ◌≡◌ {A = Result (List Section) FaultData} (Err (fault_view fault)) (Ok sections) = e in cc)
refused view (Err f) fault e = IfErr-at_err (λ told. fault_view fault ≡ told) e refl

was_read : {A : Type 0} (view : A → List Section) (said : MachineSaid) (x : A) → Ok (view x) ≡ told said → Reads view said (Ok x)
was_read view (Ok sections) x e = IfOk-at_ok (λ read. view x ≡ read) e refl
was_read view (Err f) x e = absurd (let no : ◌≡◌ {A = Result (List Section) FaultData} (Ok (view x)) (Err (fault_of_machine_file f)) = e in cc)

pub returns-in-Err-clause-reads : goal.returns-in-Err-clause-reads
returns-in-Err-clause-reads c = λ said is.
    refused (λ m. machine_in (rc_value {Z = Global} m)) said c.in-Err.fault (ap answer_in (sym c.in-Err.is) ∙ c.in_ok-machine.ensures.only said is)

pub returns-in_ok-new-in-Ok-clause-reads : goal.returns-in_ok-new-in-Ok-clause-reads
returns-in_ok-new-in-Ok-clause-reads c = λ said is.
    was_read (λ m. machine_in (rc_value {Z = Global} m)) said c.in_ok-new-in-Ok.field-0
    (ap (λ m. Ok (machine_in m)) c.in_ok-new-in-Ok.ensures.ok ∙ ap answer_in (sym c.in-Ok.is) ∙ c.in_ok-machine.ensures.only said is)
