-- Tables of rows: whether some row speaks against a set, and what adding a row does. Assumes nothing.
use Rattle.std.specs.Prelude.{◌≡◌, ℕ, ◌<◌, Bool, true, false, if◌then◌else◌, List, length, Some, None, Ok, Err, Option, Result, nat_lt}
use Rattle.std.specs.List.{HoldsAt}
use Rattle.sets.specs.declared.refusal.RowRefusal.{RowRefusal}
use Rattle.sets.specs.declared.refusal.RowRefusal.TheVariants.{TableFull}

-- at some place of the table stands a row of which P holds
abbrev pub SomeRow : {R : Type 0} → (R → Type 0) → List R → Type 0
SomeRow P rows = (k : ℕ) × (k < length rows) × HoldsAt P rows k

-- an answer is no exactly when P holds
abbrev pub NoExactly : Bool → Type 0 → Type 0
NoExactly r P = (r ≡ false → P) × (P → r ≡ false)

-- a check answers whether there is a fault, and which
abbrev pub Checked : Option RowRefusal → Result (Unit {0}) RowRefusal → Type 0
Checked fault (Ok _) = fault ≡ None
Checked fault (Err e) = fault ≡ Some e

-- whether there is one
abbrev pub is_fault : Option RowRefusal → Bool
is_fault None = false
is_fault (Some fault) = true

-- why a row is not added to a table with room for so many that holds some already: a fault of the row itself, and else want of room
abbrev pub row_refusal : ℕ → ℕ → Option RowRefusal → Option RowRefusal
row_refusal room held None = if nat_lt held room then None else Some TableFull
row_refusal room held (Some fault) = Some fault

-- what adding a row answers and leaves: where no check fails the row is added, and else the first check that fails is named, and nothing
-- changes
abbrev pub Adds : Option RowRefusal → Type 0 → Type 0 → Result (Unit {0}) RowRefusal → Type 0
Adds refusal added unchanged (Ok _) = (refusal ≡ None) × added
Adds refusal added unchanged (Err e) = (refusal ≡ Some e) × unchanged
