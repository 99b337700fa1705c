use Rattle.policy.proofs.Below.{follow, skip, start}
use Rattle.policy.proofs.hierarchy.row_below.Goals as goal
use Rattle.policy.proofs.hierarchy.row_below.Goals.{then-step-role, else-step-role}

pub loop-step-init : goal.loop-step-init
loop-step-init c = start c.args.steps.now c.args.role c.one-row.result c.requires.few c.one-row.ensures.members

pub loop-step-preserved : goal.loop-step-preserved
loop-step-preserved c =
    elim c.if-step-role.branch [
      | then-step-role w ↦
          rw w.row-is (follow c.args.steps.now c.args.role c.loop-step.step-index _ c.loop-step-test.true c.loop-step.row w.union-row.result _ c.args.lower_rows.now c.requires.lower c.requires.finished w.if-step-role.true w.union-row.ensures.members c.loop-step.invariant)
      | else-step-role w ↦
          rw w.row-is (skip c.args.steps.now c.args.role c.loop-step.step-index _ c.loop-step-test.true c.loop-step.row w.if-step-role.false c.loop-step.invariant)
    ]
