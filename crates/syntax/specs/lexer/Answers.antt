-- Relates the result of a function to a definition.
use Rattle.std.specs.Prelude.{◌≡◌, Result, Ok, Err}
use Rattle.syntax.specs.declared.lexer.fault.SyntaxFault.{SyntaxFault}
use Rattle.syntax.specs.declared.lexer.fault.SyntaxError.{SyntaxError}
use Rattle.syntax.specs.declared.lexer.fault.SyntaxError.TheVariants as errors

-- Relates the error of a function to the result of the definition: it is the same fault. If memory ran out, any result is allowed.
abbrev pub Refuses : {Y : Type 0} → SyntaxError → Result Y SyntaxFault → Type 0
Refuses errors.Memory read = Unit {0}
Refuses (errors.Fault f) read = read ≡ Err f

-- Relates a function's result, seen by `view`, to the result of the definition, unless memory ran out.
abbrev pub Answers : {X Y : Type 0} → (X → Y) → Result X SyntaxError → Result Y SyntaxFault → Type 0
Answers view (Ok x) read = read ≡ Ok (view x)
Answers view (Err e) read = Refuses e read
