-- Defines rows without keywords.
use Rattle.std.specs.Prelude.{ℕ, List, []}
use Rattle.arguments.specs.declared.row.ArgumentKind.{ArgumentKind}
use Rattle.arguments.specs.declared.row.ArgumentKind.TheVariants.{Any, Text}
use Rattle.arguments.specs.Row.{RowData, row, with_others}

-- Returns a row of any number of values of any type.
abbrev pub any_values : RowData
any_values = with_others Any (row [] 0 [])

-- Returns a row of values of these kinds, of which the first `needed` are needed.
abbrev pub values : List ArgumentKind → ℕ → RowData
values kinds needed = row kinds needed []

-- Returns a row of at least one text.
abbrev pub some_texts : RowData
some_texts = with_others Text (row [] 1 [])
