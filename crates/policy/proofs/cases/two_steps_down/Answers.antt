use Rattle.std.proofs.Common.{◌≡◌, ap, ◌∙◌}
use Rattle.policy.specs.Policies.{Policy, count, with_role, with_step}
use Rattle.policy.proofs.TwoSteps.{below_two, below_zero, two_steps}
use Rattle.policy.proofs.cases.two_steps_down.Goals as goal

pub returns : goal.returns
returns c =
    let sealed = c.seal-policy.result in
    let roles = c.in_ok-add_role-3.ensures.added.1.1 ∙ ap (with_role _) (c.in_ok-add_role-2.ensures.added.1.1 ∙ ap (with_role _) (c.in_ok-add_role.ensures.added.1.1 ∙ ap (with_role _) c.new-draft.ensures.empty)) in
    let told = c.seal-policy.ensures.same ∙ c.in_ok-add_step-2.ensures.added.1 ∙ ap (with_step _) (c.in_ok-add_step.ensures.added.1 ∙ ap (with_step _) roles) in
    let steps : sealed.steps ≡ two_steps = ap (λ (p : Policy). p.steps) told in
    let three : count sealed ≡ 3 = ap count told in
    let two = c.mask.ensures.value ∙ below_two sealed steps three _ c.below.ensures.members in
    let zero = c.mask-2.ensures.value ∙ below_zero sealed steps three _ c.below-2.ensures.members in
    cc
