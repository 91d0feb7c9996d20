-- Proves what only this crate knows of the closed definitions: the calls of outputs on a disk owe nothing to a caller who assumes that they
-- tell.
use Rattle.std.specs.Prelude.{◌≡◌, false, refl}
use Rattle.ports.specs.DiskOutputs.{disk_tells}

-- Proves that `disk_tells` is false. Outside this crate the definition is closed, so no proof there can use its value.
pub nothing_owed : disk_tells ≡ false
unfolding disk_tells
nothing_owed = refl
