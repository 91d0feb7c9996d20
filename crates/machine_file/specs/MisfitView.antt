-- Defines why a line is not allowed, without its place in memory.
use Rattle.machine_file.specs.Misfits as plain
use Rattle.machine_file.specs.View.{value_in}
use Rattle.machine_file.specs.declared.line_problem.LineProblem.{LineProblem}
use Rattle.machine_file.specs.declared.line_problem.LineProblem.TheVariants as misfit

-- Returns the reason why the code refuses a line as plain data, with each borrowed text as its bytes.
abbrev pub misfit_in : LineProblem → plain.MisfitData
misfit_in (misfit.NoSection name) = plain.NoSection name.now
misfit_in (misfit.SectionTwice name) = plain.SectionTwice name.now
misfit_in misfit.Outside = plain.Outside
misfit_in (misfit.NoSign section) = plain.NoSign section.now
misfit_in (misfit.NoValue section key) = plain.NoValue section.now key.now
misfit_in (misfit.NoKey section key) = plain.NoKey section.now key.now
misfit_in (misfit.OtherValue section key want value) = plain.OtherValue section.now key.now want (value_in value.now)
misfit_in (misfit.KeyTwice section key) = plain.KeyTwice section.now key.now
