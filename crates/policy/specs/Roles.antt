-- The set of a mask, and what stands for a role that is not there. Assumes nothing.
use Rattle.std.specs.Prelude.{ℕ, false}
use Rattle.policy.specs.declared.role.Role.{Role}
use Rattle.sets.specs.declared.set.Set.{Set}

-- the set of a mask
abbrev pub set_of : {X : Type 0} → ℕ → Set X
set_of members = record { bits = members; kind = record {} }

-- a number that is no role has no acts and no marks
abbrev pub no_role : Role
no_role = record { acts = set_of 0; marks = record { grant_dependent = false; grant_independent = false } }
