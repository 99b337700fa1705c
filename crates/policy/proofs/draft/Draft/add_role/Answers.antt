use Rattle.std.proofs.Common.{◌^◌, ◌<◌, arith, rules}
use Rattle.policy.specs.Policies.{policy}
use Rattle.policy.specs.Sound.{IsSound}
use Rattle.policy.proofs.Sound.{sound_role}
use Rattle.policy.proofs.draft.Draft.add_role.Goals as goal
use Rattle.policy.proofs.draft.Draft.add_role.Goals.{In_ok-push_or}
use Rattle.sets.specs.Tables.{items_of}

-- with the roles as the table leaves them the policy is sound
sound_after : (c : In_ok-push_or) → IsSound (record (policy c.self.inside.contents) { roles = items_of c.push_or.new.self })
sound_after c =
    let added = c.in_ok-push_or.ensures in
    let acts : c.in_ok-acts.acts.bits < 2 ^ 16 = omega (arith, c.in_ok-acts.ensures.0, c.in_ok-acts.ensures.1) in
    rw added.1 (sound_role (policy c.self.inside.contents) _ acts added.0 c.self.invariant)

pub invariant_of-self-2 : goal.invariant_of-self-2
invariant_of-self-2 c = sound_after c

pub returns-clause-sound : goal.returns-clause-sound
returns-clause-sound c = let sound = sound_after c in search rules
