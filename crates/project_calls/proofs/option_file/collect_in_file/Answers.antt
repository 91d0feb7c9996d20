use Rattle.std.proofs.Common.{◌≡◌, List, ℕ, Result, Ok, Err, ap, refl, sym, ◌∙◌}
use Rattle.std.specs.Result.{result_map_both}
use Rattle.std.proofs.lemmas.Result.{IfErr-at_err, IfOk-at_ok}
use Rattle.syntax.specs.Tree.{file_of}
use Rattle.support.specs.Faults.{FaultData}
use Rattle.support.specs.View.{fault_view}
use Rattle.options.specs.option_file.Declarations.{Declaration}
use Rattle.options.specs.option_file.Declares.{file_declares}
use Rattle.options.specs.option_file.Fault.{DeclareFaultData, told_in}
use Rattle.options.specs.option_file.View.{declared_or_fault_in, options_in}
use Rattle.world.proofs.Answering.{carries_as, carries_give, carries_none}
use Rattle.project_calls.specs.OptionFile.{declared_or_fault}
use Rattle.world.specs.Details.{refuse_line_about}
use Rattle.project_calls.proofs.SpelledOptions.{carries_line_about}
use Rattle.project_calls.proofs.option_file.collect_in_file.Goals as goal

abbrev told : List ℕ → Result (List Declaration) DeclareFaultData → Result (List Declaration) FaultData
told path r = result_map_both (λ options. options) (told_in path) r

-- the options are those of the statements
declared : (path : List ℕ) (r : Result (List Declaration) DeclareFaultData) (options : List Declaration) → Ok options ≡ told path r
    → declared_or_fault (Ok options) ≡ declared_or_fault r
declared path (Ok more) options e = ap (λ os. declared_or_fault (Ok os)) (IfOk-at_ok (λ os. options ≡ os) e refl)
declared path (Err f) options e = absurd (let no : ◌≡◌ {A = Result (List Declaration) FaultData} (Ok options) (Err (told_in path f)) = e in cc)

-- the fault is that of the statements, whatever the path
refused : (path : List ℕ) (r : Result (List Declaration) DeclareFaultData) (fault : FaultData) → Err fault ≡ told path r
    → refuse_line_about fault.line fault.refusal fault.detail ≡ declared_or_fault r
unfolding declared_or_fault
refused path (Ok options) fault e = absurd (let no : ◌≡◌ {A = Result (List Declaration) FaultData} (Err fault) (Ok options) = e in cc)
refused path (Err f) fault e =
    ap (λ (x : FaultData). refuse_line_about x.line x.refusal x.detail) (IfErr-at_err (λ x. fault ≡ x) e refl)

pub returns-in_err-declared : goal.returns-in_err-declared
returns-in_err-declared g c = carries_none c.from_residual.ensures.1

pub returns-in-Ok : goal.returns-in-Ok
unfolding declared_or_fault
returns-in-Ok g c =
    carries_as (declared _ (file_declares (file_of c.args.file.now)) (options_in c.in-Ok.declared)
    (ap declared_or_fault_in (sym c.in-Ok.is) ∙ c.in_ok-declared.ensures)) (carries_give refl)

pub returns-in-Err : goal.returns-in-Err
returns-in-Err g c =
    let fault = fault_view c.in-Err.fault in
    carries_as (refused _ (file_declares (file_of c.args.file.now)) fault (ap declared_or_fault_in (sym c.in-Err.is) ∙ c.in_ok-declared.ensures))
    (carries_as (ap (λ l. refuse_line_about l c.refusal.result c.detail.result.now) c.line.ensures
    ∙ ap (λ q. refuse_line_about fault.line q c.detail.result.now) c.refusal.ensures
    ∙ ap (refuse_line_about fault.line fault.refusal) c.detail.ensures)
    (carries_line_about c.line.result c.refusal.result _ c.refuse.result c.at.ensures.world c.at.ensures.names c.refuse.ensures))
