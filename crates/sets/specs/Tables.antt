-- Tables as lists of their items. Assumes nothing.
use Rattle.std.specs.Prelude.{ℕ, List, take}
use Rattle.sets.specs.declared.table.Table.{Table}

-- the items of a table, in the order in which they were added
abbrev pub items_of : {X : Type 0} {n : ℕ} {blank default : _} → Table X n blank default → List X
items_of t = take t.count t.items
