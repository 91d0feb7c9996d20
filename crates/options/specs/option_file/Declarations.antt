-- Defines the options that an option file declares.
use Rattle.std.specs.Prelude.{ℕ, List, Option}
use Rattle.option_values.specs.Kinds.{Kind}
use Rattle.options.specs.option_file.Given.{Given}

-- An option: its name, what it takes, its default, and the line of its statement.
pub record Declaration : Type 0 where
  pub name : List ℕ
  pub kind : Kind
  pub value : Option Given
  pub line : ℕ
