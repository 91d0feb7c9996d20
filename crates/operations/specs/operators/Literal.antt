-- Defines dictionary literals by their keys and values, in order: "Dictionaries" of the page "Syntax".
use Rattle.std.specs.Prelude.{◌≡◌, List, [], ◌∷◌, is_some, Result, Ok, Err, if◌then◌else◌}
use Rattle.support.specs.ResultSteps.{◌>>=◌}
use Rattle.values.specs.declared.refusal.OperationRefusal.{OperationRefusal}
use Rattle.values.specs.declared.refusal.OperationRefusal.TheVariants as refusal
use Rattle.values.specs.Data.{Data, text, dictionary, Entries, no_entries, entries_with, find}
use Rattle.values.specs.Limits.{within}
use Rattle.values.specs.View.{data_of}
use Rattle.values.specs.declared.value.Value.{Value}
use Rattle.operations.specs.declared.operators.literal.LiteralRefusal.{LiteralRefusal}
use Rattle.operations.specs.declared.operators.literal.LiteralRefusal.TheVariants as literals

-- Returns the entries with one more. Its key must be a text that is not yet present.
abbrev pub with_entry : Entries → Data → Data → Result Entries LiteralRefusal
with_entry es (text k) d = if is_some (find k es) then Err (literals.Twice k) else Ok (entries_with k d es)
with_entry es k d = Err (literals.Refused refusal.Type)

-- Returns the entries with all of these added, or the refusal of the first invalid key.
abbrev pub with_entries : Entries → List (Data × Data) → Result Entries LiteralRefusal
with_entries es [] = Ok es
with_entries es (p ∷ ps) = do
  more ← with_entry es p.0 p.1
  with_entries more ps

-- Returns a result with its refusal as that of a literal.
abbrev pub literal_result : Result Data OperationRefusal → Result Data LiteralRefusal
literal_result (Ok d) = Ok d
literal_result (Err refusal) = Err (literals.Refused refusal)

-- Returns the value of the literal. Its size is checked last.
abbrev pub literal_answer : List (Data × Data) → Result Data LiteralRefusal
literal_answer ps = do
  es ← with_entries no_entries ps
  literal_result (within (dictionary es))

-- Holds if the literal evaluated to the value that the definition gives, or to its refusal.
abbrev pub Makes : Result Data LiteralRefusal → Result Value LiteralRefusal → Type 0
Makes given (Ok v) = given ≡ Ok (data_of v)
Makes given (Err refusal) = given ≡ Err refusal

-- Returns the keys and values as plain data.
abbrev pub pairs_of : List (Value × Value) → List (Data × Data)
pairs_of [] = []
pairs_of (p ∷ ps) = (data_of p.0, data_of p.1) ∷ pairs_of ps
