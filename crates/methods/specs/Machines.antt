-- Defines the methods of a machine: the type `build_machine` of the page "Reference manual".
use Rattle.std.specs.Prelude.{ℕ, List, [], Option, Some, None, codes}
use Rattle.arguments.specs.Arguments.{ArgumentsData}
use Rattle.arguments.specs.Row.{row}
use Rattle.support.specs.declared.faults.refusal.Refusal.TheVariants as refusals
use Rattle.methods.specs.Keys.{text_of_key}
use Rattle.values.specs.Data.{Data}
use Rattle.values.specs.declared.language_names.object_methods.MachineMethod.{MachineMethod}
use Rattle.values.specs.declared.language_names.object_methods.MachineMethod.TheVariants.{Cpu, CpuFamily, Endian, System}
use Rattle.world.specs.Deed.{Deed, refuse, ◌>>=◌}
use Rattle.world.specs.Fit.{fit}
use Rattle.values.specs.language_names.ObjectMethods.{machine_method_named}

-- Returns what the section `host_machine` of the machine file has for the method's key, and otherwise a default.
abbrev pub host_machine_value : MachineMethod → Deed (Option Data)
host_machine_value Cpu = text_of_key (codes "host_machine") (codes "cpu") (codes "x86_64")
host_machine_value CpuFamily = text_of_key (codes "host_machine") (codes "cpu_family") (codes "x86_64")
host_machine_value Endian = text_of_key (codes "host_machine") (codes "endian") (codes "little")
host_machine_value System = text_of_key (codes "host_machine") (codes "system") (codes "linux")

-- Returns the result of a method of a machine, and refuses an unknown one with E8.
abbrev pub told_by : Option MachineMethod → Deed (Option Data)
told_by None = refuse refusals.UnknownFunction []
told_by (Some method) = host_machine_value method

-- Checks the arguments of a method by its row, and then runs the method with this name.
unfoldable pub machine_method : List ℕ → ArgumentsData → Deed (Option Data)
machine_method name a = do
  _ ← fit (row [] 0 []) a
  told_by (machine_method_named name)
