use Rattle.std.specs.Prelude.{◌≡◌, length}
use Rattle.policy.specs.Below.{Exact}
use Rattle.policy.proofs.hierarchy.rows_below.Given as goal

abbrev pub invariant-loop-role : goal.invariant-loop-role
invariant-loop-role l = (length l.rows ≡ 32) × Exact l.steps l.role l.rows
