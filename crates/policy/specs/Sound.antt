-- What every policy keeps, drafted or sealed. Assumes nothing.
use Rattle.std.specs.Prelude.{ℕ, ◌^◌, ◌<◌, ◌≤◌, ◌≢◌, All, length}
use Rattle.policy.specs.Below.{Falls}
use Rattle.policy.specs.Policies.{Policy, Rows, count, places, rows_in}
use Rattle.policy.specs.declared.hierarchy.Step.{Step}
use Rattle.policy.specs.declared.role.Role.{Role}
use Rattle.policy.specs.declared.rule.Rule.{Rule}
use Rattle.policy.specs.declared.scope.Scope.{Scope}
use Rattle.policy.specs.declared.scope.Scope.TheVariants.{Standing, Session, History}
use Rattle.sets.specs.declared.limits.Limit.{Limit}
use Rattle.sets.specs.declared.pairs.Pair.{Pair}

-- counts stay within their tables
abbrev pub Few : Policy → Type 0
Few p = (length p.roles ≤ 32) × (length p.steps ≤ 256) × (length p.rules ≤ 64)

abbrev pub FewIn : Rows → Type 0
FewIn rows = (length rows.pairs ≤ 128) × (length rows.limits ≤ 16)

abbrev pub FewRows : Policy → Type 0
FewRows p = FewIn p.standing × FewIn p.session × FewIn p.history

-- juniors have lower numbers
abbrev pub Lower : Policy → Type 0
Lower p = All Falls p.steps

-- every act, role, most and depth that is named exists
abbrev pub RoleActs : Role → Type 0
RoleActs role = role.acts.bits < 2 ^ 16

abbrev pub ActsExist : Policy → Type 0
ActsExist p = All RoleActs p.roles

abbrev pub StepEnds : ℕ → Step → Type 0
StepEnds n step = (step.senior < n) × (step.junior < n)

abbrev pub StepsExist : Policy → Type 0
StepsExist p = All (StepEnds (count p)) p.steps

abbrev pub PairMembers : ℕ → Pair → Type 0
PairMembers n pair = (pair.first < n) × (pair.second < n)

abbrev pub LimitMembers : ℕ → Limit → Type 0
LimitMembers n limit = (limit.members < 2 ^ n) × (limit.most ≤ 31)

abbrev pub MembersExist : Scope → Policy → Type 0
MembersExist scope p =
    All (PairMembers (places scope p)) (rows_in scope p).pairs × All (LimitMembers (places scope p)) (rows_in scope p).limits

abbrev pub RuleRoles : ℕ → Rule → Type 0
RuleRoles n rule = (rule.role < n) × (rule.required.bits < 2 ^ n) × (rule.depth ≤ 15)

abbrev pub RulesExist : Policy → Type 0
RulesExist p = All (RuleRoles (count p)) p.rules

-- no pair has equal members
abbrev pub PairApart : Pair → Type 0
PairApart pair = pair.first ≢ pair.second

abbrev pub ApartIn : Rows → Type 0
ApartIn rows = All PairApart rows.pairs

abbrev pub Apart : Policy → Type 0
Apart p = ApartIn p.standing × ApartIn p.session × ApartIn p.history

-- all of it
pub record IsSound (p : Policy) : Type 0 where
  pub few : Few p
  pub few_rows : FewRows p
  pub lower : Lower p
  pub acts_exist : ActsExist p
  pub steps_exist : StepsExist p
  pub standing_exist : MembersExist Standing p
  pub session_exist : MembersExist Session p
  pub history_exist : MembersExist History p
  pub rules_exist : RulesExist p
  pub apart : Apart p
