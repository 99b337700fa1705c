use Rattle.policy.proofs.Below.{Sofar}
use Rattle.policy.proofs.hierarchy.row_below.Given as goal

abbrev pub invariant-loop-step : goal.invariant-loop-step
invariant-loop-step l = Sofar l.steps l.role l.step-index l.row
