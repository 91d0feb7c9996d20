use Rattle.std.proofs.Common.{ap, sym}
use Rattle.methods.specs.Machines.{host_machine_value}
use Rattle.world.proofs.Answering.{carries_as}
use Rattle.methods.proofs.machines.tell_machine.Goals as goal

pub returns-in-Cpu : goal.returns-in-Cpu
returns-in-Cpu g c = carries_as (ap host_machine_value (sym c.in-Cpu.is)) c.read_key.ensures

pub returns-in-CpuFamily : goal.returns-in-CpuFamily
returns-in-CpuFamily g c = carries_as (ap host_machine_value (sym c.in-CpuFamily.is)) c.read_key-in-CpuFamily.ensures

pub returns-in-Endian : goal.returns-in-Endian
returns-in-Endian g c = carries_as (ap host_machine_value (sym c.in-Endian.is)) c.read_key-in-Endian.ensures

pub returns-in-System : goal.returns-in-System
returns-in-System g c = carries_as (ap host_machine_value (sym c.in-System.is)) c.read_key-in-System.ensures
