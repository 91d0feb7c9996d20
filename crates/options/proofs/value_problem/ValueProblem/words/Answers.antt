use Rattle.std.proofs.Common.{◌≡◌, IfOk, Result, String, Global, string_bytes, sym, subst}
use Rattle.std.specs.declared.alloc.AllocError.{AllocError}
use Rattle.options.specs.declared.value_problem.ValueProblem.{ValueProblem}
use Rattle.options.specs.MisfitView.{misfit_in}
use Rattle.options.specs.Misfits.{words_of}
use Rattle.options.proofs.value_problem.ValueProblem.words.Goals as goal

-- the words are those of what is wrong
abbrev Tells : Result (String Global) AllocError → ValueProblem → Type 0
Tells r m = IfOk r (λ text. string_bytes text ≡ words_of (misfit_in m))

pub returns-in-NoOption : goal.returns-in-NoOption
returns-in-NoOption c = subst (Tells c.option_is.result) (sym c.in-NoOption.is) c.option_is.ensures

pub returns-in-NoSign : goal.returns-in-NoSign
returns-in-NoSign c = subst (Tells c.without_sign.result) (sym c.in-NoSign.is) c.without_sign.ensures

pub returns-in-Both : goal.returns-in-Both
returns-in-Both c = subst (Tells c.option_is-in-Both.result) (sym c.in-Both.is) c.option_is-in-Both.ensures

pub returns-in-NoValue : goal.returns-in-NoValue
returns-in-NoValue c = subst (Tells c.not_taken.result) (sym c.in-NoValue.is) c.not_taken.ensures

pub returns-in-NoDefault : goal.returns-in-NoDefault
returns-in-NoDefault c = subst (Tells c.default_not_taken.result) (sym c.in-NoDefault.is) c.default_not_taken.ensures
