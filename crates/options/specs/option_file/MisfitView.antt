-- Defines what is wrong with a statement, without its place in memory.
use Rattle.std.specs.Prelude.{string_bytes}
use Rattle.options.specs.option_file.Misfits as plain
use Rattle.options.specs.declared.option_file.statement_problem.StatementProblem.{StatementProblem}
use Rattle.options.specs.declared.option_file.statement_problem.StatementProblem.TheVariants as misfit
use Rattle.options.specs.declared.option_file.statement_problem.StatementError.{StatementError}

-- Returns the reason why the code refuses a statement as plain data, with each borrowed text as its bytes.
abbrev pub misfit_in : StatementProblem → plain.MisfitData
misfit_in misfit.NoCall = plain.NoCall
misfit_in (misfit.Twice key) = plain.Twice key.now
misfit_in (misfit.LeftOut key) = plain.LeftOut key.now
misfit_in (misfit.Again name) = plain.Again name.now
misfit_in misfit.Nameless = plain.Nameless
misfit_in (misfit.NoName text) = plain.NoName text.now
misfit_in (misfit.BuiltIn name) = plain.BuiltIn name.now
misfit_in misfit.TooMany = plain.TooMany
misfit_in (misfit.Unknown key) = plain.Unknown key.now
misfit_in (misfit.NoPlain key) = plain.NoPlain key.now
misfit_in (misfit.NoType key) = plain.NoType key.now
misfit_in (misfit.NoChoices key) = plain.NoChoices key.now
misfit_in (misfit.NoBound key) = plain.NoBound key.now
misfit_in (misfit.Missing key) = plain.Missing key.now

-- Returns the refusal of a statement as plain data, with its details as bytes.
abbrev pub refused_in : StatementError → plain.RefusedData
refused_in r = record { refusal = r.refusal; detail = string_bytes r.detail }
