-- What limits forbid, and what can be wrong with a limit. Assumes nothing.
use Rattle.std.specs.Prelude.{ℕ, ◌^◌, ◌<◌, Bool, if◌then◌else◌, ◌&&◌, List, Some, None, Option, bit_and, count_ones, nat_le, nat_lt}
use Rattle.std.specs.List.{list_any}
use Rattle.sets.specs.declared.limits.Limit.{Limit}
use Rattle.sets.specs.declared.refusal.RowRefusal.{RowRefusal}
use Rattle.sets.specs.declared.refusal.RowRefusal.TheVariants.{OutOfRange}

-- how many members two sets have in common
abbrev pub shared : ℕ → ℕ → ℕ
shared s t = count_ones (bit_and s t)

-- a set has more members of a row than the row's most
abbrev pub Passes : ℕ → Limit → Type 0
Passes s row = row.most < shared s row.members

abbrev pub passes : ℕ → Limit → Bool
passes s row = nat_lt row.most (shared s row.members)

-- whether a set has more members of some row than that row's most
abbrev pub some_limit : ℕ → List Limit → Bool
some_limit s rows = list_any (passes s) rows

-- what is wrong with a row, where members are to be below n
abbrev pub limit_fault : ℕ → Limit → Option RowRefusal
limit_fault n row = if nat_lt row.members (2 ^ n) && nat_le row.most 31 then None else Some OutOfRange
