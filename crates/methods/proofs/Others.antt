-- The kinds of objects.
use Rattle.std.proofs.Common.{◌≡◌, ℕ, List, refl}
use Rattle.arguments.specs.Arguments.{ArgumentsData}
use Rattle.values.specs.declared.object.Object.{Object}
use Rattle.values.specs.declared.object.Object.TheVariants as objects
use Rattle.methods.specs.Methods.{object_method, tell}

-- the methods of all but the compiler, a machine and configuration data tell of their receiver and the facts alone
pub others_tell : (o : Object) (name : List ℕ) (a : ArgumentsData) → (o ≡ objects.Compiler → ⊥) → (o ≡ objects.Machine → ⊥)
    → ((number : ℕ) → o ≡ objects.ConfigurationData number → ⊥) → tell o name a ≡ object_method o name a
unfolding object_method
others_tell (objects.Feature f) name a not_compiler not_machine not_data = refl
others_tell (objects.Dependency d) name a not_compiler not_machine not_data = refl
others_tell (objects.Program p) name a not_compiler not_machine not_data = refl
others_tell (objects.BuildTarget number) name a not_compiler not_machine not_data = refl
others_tell (objects.CustomTarget number outputs) name a not_compiler not_machine not_data = refl
others_tell (objects.CustomOutput target output) name a not_compiler not_machine not_data = refl
others_tell (objects.File path is_built) name a not_compiler not_machine not_data = refl
others_tell (objects.IncludeDirectories paths) name a not_compiler not_machine not_data = refl
others_tell objects.Machine name a not_compiler not_machine not_data = absurd (not_machine refl)
others_tell objects.Meson name a not_compiler not_machine not_data = refl
others_tell objects.Compiler name a not_compiler not_machine not_data = absurd (not_compiler refl)
others_tell (objects.ConfigurationData number) name a not_compiler not_machine not_data = absurd (not_data number refl)
others_tell objects.Disabler name a not_compiler not_machine not_data = refl
