-- What a set of the code stands for. Assumes nothing.
use Rattle.std.specs.Prelude.{ℕ, ◌%◌, ◌^◌}
use Rattle.sets.specs.declared.set.Set.{Set}

-- the members of a set, of a kind with n places, as a mask: bits outside the kind are no members
abbrev pub mask : {X : Type 0} → ℕ → Set X → ℕ
mask n s = s.bits % 2 ^ n
