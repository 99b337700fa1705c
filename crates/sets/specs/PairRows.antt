-- What pairs forbid, and what can be wrong with a pair. Assumes nothing.
use Rattle.std.specs.Prelude.{ℕ, Bool, if◌then◌else◌, ◌&&◌, List, Some, None, Option, ◌==◌, nat_lt}
use Rattle.sets.specs.Masks.{Member, has}
use Rattle.std.specs.List.{list_any}
use Rattle.sets.specs.declared.pairs.Pair.{Pair}
use Rattle.sets.specs.declared.refusal.RowRefusal.{RowRefusal}
use Rattle.sets.specs.declared.refusal.RowRefusal.TheVariants.{OutOfRange, EqualPair}

-- a set has both members of a pair
abbrev pub HasBoth : ℕ → Pair → Type 0
HasBoth s p = Member s p.first × Member s p.second

abbrev pub has_both : ℕ → Pair → Bool
has_both s p = has s p.first && has s p.second

-- whether a set has both members of some pair
abbrev pub some_pair : ℕ → List Pair → Bool
some_pair s pairs = list_any (has_both s) pairs

-- what is wrong with a pair, where members are to be below n: the first check that fails
abbrev pub pair_fault : ℕ → Pair → Option RowRefusal
pair_fault n p =
    if nat_lt p.first n && nat_lt p.second n
    then (if p.first == p.second then Some EqualPair else None)
    else Some OutOfRange
