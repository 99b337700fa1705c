-- Tables of rows as lists of their rows. Assumes nothing.
use Rattle.std.specs.Prelude.{ℕ, List}
use Rattle.sets.specs.Tables.{items_of}
use Rattle.sets.specs.declared.row.Rows.{Rows}

-- the rows of a table, in the order in which they were added
abbrev pub rows_of : {K R : Type 0} {n : ℕ} {kind entry blank default : _} → Rows K R n kind entry blank default → List R
rows_of x = items_of x.rows
