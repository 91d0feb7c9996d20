use Rattle.std.proofs.Common.{◌≡◌, IfOk, Result, String, Global, string_bytes, sym, subst}
use Rattle.std.specs.declared.alloc.AllocError.{AllocError}
use Rattle.options.specs.declared.option_file.statement_problem.StatementProblem.{StatementProblem}
use Rattle.options.specs.option_file.MisfitView.{misfit_in}
use Rattle.options.specs.option_file.Misfits.{words_of}
use Rattle.options.proofs.option_file.statement_problem.StatementProblem.words.Goals as goal

-- the words are those of what is wrong
abbrev Tells : Result (String Global) AllocError → StatementProblem → Type 0
Tells r m = IfOk r (λ text. string_bytes text ≡ words_of (misfit_in m))

pub returns-in-NoCall : goal.returns-in-NoCall
returns-in-NoCall c = subst (Tells c.from_str.result) (sym c.in-NoCall.is) c.from_str.ensures.ok

pub returns-in-Twice : goal.returns-in-Twice
returns-in-Twice c = subst (Tells c.keyword_is.result) (sym c.in-Twice.is) c.keyword_is.ensures

pub returns-in-LeftOut : goal.returns-in-LeftOut
returns-in-LeftOut c = subst (Tells c.keyword_is-in-LeftOut.result) (sym c.in-LeftOut.is) c.keyword_is-in-LeftOut.ensures

pub returns-in-Again : goal.returns-in-Again
returns-in-Again c = subst (Tells c.stands_twice.result) (sym c.in-Again.is) c.stands_twice.ensures

pub returns-in-Nameless : goal.returns-in-Nameless
returns-in-Nameless c = subst (Tells c.from_str-in-Nameless.result) (sym c.in-Nameless.is) c.from_str-in-Nameless.ensures.ok

pub returns-in-NoName : goal.returns-in-NoName
returns-in-NoName c = subst (Tells c.text_is.result) (sym c.in-NoName.is) c.text_is.ensures

pub returns-in-BuiltIn : goal.returns-in-BuiltIn
returns-in-BuiltIn c = subst (Tells c.text_is-in-BuiltIn.result) (sym c.in-BuiltIn.is) c.text_is-in-BuiltIn.ensures

pub returns-in-TooMany : goal.returns-in-TooMany
returns-in-TooMany c = subst (Tells c.from_str-in-TooMany.result) (sym c.in-TooMany.is) c.from_str-in-TooMany.ensures.ok

pub returns-in-Unknown : goal.returns-in-Unknown
returns-in-Unknown c = subst (Tells c.keyword_is-in-Unknown.result) (sym c.in-Unknown.is) c.keyword_is-in-Unknown.ensures

pub returns-in-NoPlain : goal.returns-in-NoPlain
returns-in-NoPlain c = subst (Tells c.keyword_is-in-NoPlain.result) (sym c.in-NoPlain.is) c.keyword_is-in-NoPlain.ensures

pub returns-in-NoType : goal.returns-in-NoType
returns-in-NoType c = subst (Tells c.keyword_is-in-NoType.result) (sym c.in-NoType.is) c.keyword_is-in-NoType.ensures

pub returns-in-NoChoices : goal.returns-in-NoChoices
returns-in-NoChoices c = subst (Tells c.keyword_is-in-NoChoices.result) (sym c.in-NoChoices.is) c.keyword_is-in-NoChoices.ensures

pub returns-in-NoBound : goal.returns-in-NoBound
returns-in-NoBound c = subst (Tells c.keyword_is-in-NoBound.result) (sym c.in-NoBound.is) c.keyword_is-in-NoBound.ensures

pub returns-in-Missing : goal.returns-in-Missing
returns-in-Missing c = subst (Tells c.keyword_is-in-Missing.result) (sym c.in-Missing.is) c.keyword_is-in-Missing.ensures
