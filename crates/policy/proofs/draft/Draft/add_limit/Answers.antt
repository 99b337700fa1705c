use Rattle.std.proofs.Common.{rules}
use Rattle.policy.specs.Policies.{policy, rows_in, with_rows}
use Rattle.policy.specs.Sound.{IsSound}
use Rattle.policy.specs.declared.scope.Scope.TheVariants.{Standing, Session, History}
use Rattle.policy.proofs.Sound.{sound_limit}
use Rattle.policy.proofs.draft.Draft.add_limit.Goals as goal
use Rattle.policy.proofs.draft.Draft.add_limit.Goals.{In_ok-add-in-Standing, In_ok-add-in-Session, In_ok-add-in-History}
use Rattle.sets.specs.RowTables.{rows_of}

-- with the limits as the table leaves them the policy is sound, in each of the exclusions
sound_standing : (c : In_ok-add-in-Standing) → IsSound (with_rows Standing (record { pairs = (rows_in Standing (policy c.self.inside.contents)).pairs; limits = rows_of c.add.new.self }) (policy c.self.inside.contents))
sound_standing c = sound_limit c.self.view_is Standing c.args.limit _ c.in-Standing.is c.places.ensures c.in_ok-check.ensures c.in_ok-add-in-Standing.ensures c.self.invariant

sound_session : (c : In_ok-add-in-Session) → IsSound (with_rows Session (record { pairs = (rows_in Session (policy c.self.inside.contents)).pairs; limits = rows_of c.add-in-Session.new.self }) (policy c.self.inside.contents))
sound_session c = sound_limit c.self.view_is Session c.args.limit _ c.in-Session.is c.places.ensures c.in_ok-check.ensures c.in_ok-add-in-Session.ensures c.self.invariant

sound_history : (c : In_ok-add-in-History) → IsSound (with_rows History (record { pairs = (rows_in History (policy c.self.inside.contents)).pairs; limits = rows_of c.add-in-History.new.self }) (policy c.self.inside.contents))
sound_history c = sound_limit c.self.view_is History c.args.limit _ c.in-History.is c.places.ensures c.in_ok-check.ensures c.in_ok-add-in-History.ensures c.self.invariant

pub invariant_of-self : goal.invariant_of-self
invariant_of-self c = sound_standing c

pub invariant_of-self-in-Continue-branch-3 : goal.invariant_of-self-in-Continue-branch-3
invariant_of-self-in-Continue-branch-3 c = sound_session c

pub invariant_of-self-in-Continue-branch-4 : goal.invariant_of-self-in-Continue-branch-4
invariant_of-self-in-Continue-branch-4 c = sound_history c

pub returns-in_ok-add-in-Standing-clause-sound : goal.returns-in_ok-add-in-Standing-clause-sound
returns-in_ok-add-in-Standing-clause-sound c = let sound = sound_standing c in search rules

pub returns-in_ok-add-in-Session-clause-sound : goal.returns-in_ok-add-in-Session-clause-sound
returns-in_ok-add-in-Session-clause-sound c = let sound = sound_session c in search rules

pub returns-in_ok-add-in-History-clause-sound : goal.returns-in_ok-add-in-History-clause-sound
returns-in_ok-add-in-History-clause-sound c = let sound = sound_history c in search rules
