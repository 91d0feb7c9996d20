-- Defines what is written at a place and what is wrong with it, without their place in memory.
use Rattle.std.specs.Option.{option_map}
use Rattle.machine_file.specs.Values as machine_values
use Rattle.machine_file.specs.View.{value_in as machine_value_in}
use Rattle.options.specs.option_file.View.{given_in}
use Rattle.option_values.specs.View.{kind_in}
use Rattle.options.specs.Misfits as plain
use Rattle.options.specs.declared.value_problem.ValueProblem.{ValueProblem}
use Rattle.options.specs.declared.value_problem.ValueProblem.TheVariants as misfit
use Rattle.options.specs.declared.value_problem.Written.{Written}
use Rattle.options.specs.declared.value_problem.Written.TheVariants as written

-- Returns the value at a place as plain data: a text of `default_options` or of the command line, or a value of the machine file.
abbrev pub written_in : Written → machine_values.Value
written_in (written.Text text) = machine_values.Text text.now
written_in (written.Value value) = machine_value_in value.now

-- Returns the reason why the code refuses a name and a value as plain data, with each borrowed text as its bytes.
abbrev pub misfit_in : ValueProblem → plain.MisfitData
misfit_in (misfit.NoOption name) = plain.NoOption name.now
misfit_in (misfit.NoSign text) = plain.NoSign text.now
misfit_in misfit.Both = plain.Both
misfit_in (misfit.NoValue name kind what) = plain.NoValue name.now (kind_in kind.now) (written_in what)
misfit_in (misfit.NoDefault name kind value) = plain.NoDefault name.now (kind_in kind.now) (option_map given_in value.now)
