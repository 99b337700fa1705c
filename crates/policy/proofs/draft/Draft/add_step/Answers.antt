use Rattle.std.proofs.Common.{List, ap, arith, rules}
use Rattle.policy.specs.Policies.{policy}
use Rattle.policy.specs.Sound.{IsSound}
use Rattle.policy.specs.declared.hierarchy.Step.{Step}
use Rattle.policy.proofs.Sound.{kept_or_put, sound_step}
use Rattle.policy.proofs.draft.Draft.add_step.Goals as goal
use Rattle.policy.proofs.draft.Draft.add_step.Goals.{After-push_or}
use Rattle.sets.specs.Tables.{items_of}

-- with the steps as the table leaves them the policy is sound
sound_after : (c : After-push_or) → IsSound (record (policy c.self.inside.contents) { steps = items_of c.push_or.new.self })
sound_after c =
    let p = policy c.self.inside.contents in
    let n = c.role_count-count.ensures.number in
    let senior = c.if-step-count.false in
    let junior = c.if-step-count-2.false in
    let sound = sound_step p c.args.step c.if-step.false (omega arith, omega arith) in
    kept_or_put (λ (steps : List Step). IsSound (record p { steps = steps })) p.steps (items_of c.push_or.new.self) c.args.step c.push_or.result c.push_or.ensures
    (λ e kept. ap items_of kept.2) c.self.invariant (λ room. sound room c.self.invariant)

pub invariant_of-self : goal.invariant_of-self
invariant_of-self c = sound_after c

pub returns-clause-sound : goal.returns-clause-sound
returns-clause-sound c = let sound = sound_after c in search rules
