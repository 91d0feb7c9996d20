-- Defines which methods are not supported.
use Rattle.std.specs.Prelude.{ℕ, Bool, false, List}
use Rattle.methods.specs.CompilerNames.{is_left_out as is_left_out_of_compilers}
use Rattle.values.specs.declared.object.Object.{Object}
use Rattle.values.specs.declared.object.Object.TheVariants as objects

-- Holds if the manual has a method with this name that is not supported. Only the compiler has such methods.
abbrev pub is_left_out : Object → List ℕ → Bool
is_left_out objects.Compiler name = is_left_out_of_compilers name
is_left_out _ name = false
