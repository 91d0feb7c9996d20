use Rattle.std.proofs.Common.{◌≡◌, IfOk, Result, String, Global, string_bytes, sym, subst}
use Rattle.std.specs.declared.alloc.AllocError.{AllocError}
use Rattle.machine_file.specs.declared.line_problem.LineProblem.{LineProblem}
use Rattle.machine_file.specs.MisfitView.{misfit_in}
use Rattle.machine_file.specs.Misfits.{words_of}
use Rattle.machine_file.proofs.line_problem.LineProblem.words.Goals as goal

-- the words are those of what is wrong
abbrev Tells : Result (String Global) AllocError → LineProblem → Type 0
Tells r m = IfOk r (λ text. string_bytes text ≡ words_of (misfit_in m))

pub returns-in-NoSection : goal.returns-in-NoSection
returns-in-NoSection c = subst (Tells c.section_is.result) (sym c.in-NoSection.is) c.section_is.ensures

pub returns-in-SectionTwice : goal.returns-in-SectionTwice
returns-in-SectionTwice c =
    subst (Tells c.section_is-in-SectionTwice.result) (sym c.in-SectionTwice.is) c.section_is-in-SectionTwice.ensures

pub returns-in-Outside : goal.returns-in-Outside
returns-in-Outside c = subst (Tells c.from_str.result) (sym c.in-Outside.is) c.from_str.ensures.ok

pub returns-in-NoSign : goal.returns-in-NoSign
returns-in-NoSign c = subst (Tells c.without_sign.result) (sym c.in-NoSign.is) c.without_sign.ensures

pub returns-in-NoValue : goal.returns-in-NoValue
returns-in-NoValue c = subst (Tells c.key_is.result) (sym c.in-NoValue.is) c.key_is.ensures

pub returns-in-NoKey : goal.returns-in-NoKey
returns-in-NoKey c = subst (Tells c.key_is-in-NoKey.result) (sym c.in-NoKey.is) c.key_is-in-NoKey.ensures

pub returns-in-OtherValue : goal.returns-in-OtherValue
returns-in-OtherValue c = subst (Tells c.key_takes.result) (sym c.in-OtherValue.is) c.key_takes.ensures

pub returns-in-KeyTwice : goal.returns-in-KeyTwice
returns-in-KeyTwice c = subst (Tells c.key_is-in-KeyTwice.result) (sym c.in-KeyTwice.is) c.key_is-in-KeyTwice.ensures
