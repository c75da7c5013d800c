-- The column that a script's line gives, item by item.
use Rattle.std.specs.Prelude.{ℕ, cond, List, [], ◌∷◌, ◌==◌, Option, None, Some}
use Rattle.script.specs.Items.{items_of}
use Rattle.script.specs.declared.Item.{Item}
use Rattle.script.specs.declared.Item.TheVariants.{Word, Number}
use Rattle.script_values.specs.Values.{narrowed}
use Rattle.script_values.specs.Filled.{none_of, with_one}
use Rattle.script_values.specs.declared.filled.Filled.{Filled}
use Rattle.script_values.specs.declared.column.Columns.{Columns}

abbrev pub Column : Type 0
Column = Filled ℕ 257

-- the name of a section: 1 before any word, and where two spaces meet
abbrev pub name_of : Option ℕ → ℕ
name_of None = 1
name_of (Some s) = s

-- the numbers of the section that has its name, at most 257
unfoldable pub column_from : ℕ → List Item → Column → Column
column_from name [] c = c
column_from name (Word word ∷ items) c = column_from name items c
column_from name (Number section value byte ∷ items) c = column_from name items (cond (name_of section == name) (with_one 257 (narrowed value) c) c)

abbrev pub column_of : List ℕ → ℕ → Column
column_of line name = column_from name (items_of line) (none_of 257 0)

-- the columns, each named by a letter
abbrev pub columns_of : List ℕ → Columns
columns_of line = record { id = column_of line 105; l = column_of line 108; r = column_of line 114; q = column_of line 113 }
