use Rattle.std.proofs.Common.{◌^◌, ◌<◌, List, ap, arith, rules}
use Rattle.policy.specs.Policies.{count, policy}
use Rattle.policy.specs.Sound.{IsSound}
use Rattle.policy.specs.declared.rule.Rule.{Rule}
use Rattle.policy.proofs.Sound.{kept_or_put, sound_rule}
use Rattle.policy.proofs.draft.Draft.add_rule.Goals as goal
use Rattle.policy.proofs.draft.Draft.add_rule.Goals.{After-push_or}
use Rattle.sets.specs.Tables.{items_of}

-- with the rules as the table leaves them the policy is sound
sound_after : (c : After-push_or) → IsSound (record (policy c.self.inside.contents) { rules = items_of c.push_or.new.self })
sound_after c =
    let p = policy c.self.inside.contents in
    let n = c.role_count-count.ensures.number in
    let role = c.if-role-count.false in
    let fits : c.args.required < 2 ^ c.role_count-count.result = search rules in
    let required : c.in_ok-try_from.field-0.bits < 2 ^ count p = rw (← n, c.in_ok-try_from.ensures.1) fits in
    let sound = sound_rule p _ (omega arith, required, c.if-depth-gt-HIGHEST_DEPTH.false) in
    kept_or_put (λ (rules : List Rule). IsSound (record p { rules = rules })) p.rules (items_of c.push_or.new.self) _ c.push_or.result c.push_or.ensures
    (λ e kept. ap items_of kept.2) c.self.invariant (λ room. sound room c.self.invariant)

pub invariant_of-self : goal.invariant_of-self
invariant_of-self c = sound_after c

pub returns-clause-sound : goal.returns-clause-sound
returns-clause-sound c = let sound = sound_after c in search rules
