-- Delegation rules: how many links a depth stands for, and when a rule fits. Assumes nothing.
use Rattle.std.specs.Prelude.{ℕ, ◌≤◌, if◌then◌else◌, ◌==◌}
use Rattle.policy.specs.Policies.{BelowIn, Policy}
use Rattle.policy.specs.declared.rule.Link.{Link}
use Rattle.policy.specs.declared.rule.Rule.{Rule}
use Rattle.sets.specs.Masks.{Inside}
use Rattle.sets.specs.Rows.{SomeRow}
use Rattle.sets.specs.Sets.{mask}

-- how many links a chain may have under a rule of that depth: as many, and 2 where the depth is 0
abbrev pub stands_for : ℕ → ℕ
stands_for depth = if depth == 0 then 2 else depth

-- the rule lets the link be added: its role is passed on, from a role that is the basis, to somebody with these own roles
pub record Fits (p : Policy) (link : Link) (rule : Rule) : Type 0 where
  pub basis_above : BelowIn p link.basis rule.role
  pub role_below : BelowIn p rule.role link.role
  pub grantee_has : Inside (mask 32 rule.required) (mask 32 link.own)
  pub not_too_deep : link.depth ≤ stands_for rule.depth

-- some rule of the policy does
abbrev pub SomeRuleFits : Policy → Link → Type 0
SomeRuleFits p link = SomeRow (Fits p link) p.rules
