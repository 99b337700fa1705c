-- The role hierarchy: which roles are below a role, and what it means that a table of sets has them. Assumes nothing.
use Rattle.std.specs.Prelude.{◌≡◌, ℕ, ◌<◌, ◌↔◌, IsTrue, List, Contains}
use Rattle.policy.specs.declared.hierarchy.Step.{Step}
use Rattle.sets.specs.Masks.{has}
use Rattle.sets.specs.Sets.{mask}
use Rattle.sets.specs.declared.set.Set.{Set}
use Rattle.std.specs.List.{HoldsAt}

-- a step runs down: the junior has the lower number
abbrev pub Falls : Step → Type 0
Falls step = step.junior < step.senior

-- the roles below r are r itself, and those below a junior of r
pub data Below (steps : List Step) : ℕ → ℕ → Type 0 where
  itself : {r : ℕ} → Below steps r r
  step_down : {r x : ℕ} (step : Step) → Contains steps step → step.senior ≡ r → Below steps step.junior x → Below steps r x

-- a set has exactly the roles below r
abbrev pub RowOf : {X : Type 0} → List Step → ℕ → Set X → Type 0
RowOf steps r row = (x : ℕ) → IsTrue (has (mask 32 row) x) ↔ Below steps r x

-- a table has, for each of the first n roles, exactly the roles below it
abbrev pub Exact : {X : Type 0} → List Step → ℕ → List (Set X) → Type 0
Exact steps n rows = (r : ℕ) → r < n → HoldsAt (RowOf steps r) rows r
