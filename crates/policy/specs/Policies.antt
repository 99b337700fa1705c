-- What a policy says, as lists in the order in which their items were added, and what it says with one item more. Assumes nothing.
use Rattle.std.specs.Prelude.{◌≡◌, ℕ, ◌<◌, List, [], ◌∷◌, ◌++◌, length, slice_index_or}
use Rattle.policy.specs.Below.{Below}
use Rattle.policy.specs.Roles.{no_role}
use Rattle.policy.specs.declared.contents.Contents.{Contents}
use Rattle.policy.specs.declared.hierarchy.Step.{Step}
use Rattle.policy.specs.declared.role.Role.{Role}
use Rattle.policy.specs.declared.rule.Rule.{Rule}
use Rattle.policy.specs.declared.scope.Scope.{Scope}
use Rattle.policy.specs.declared.scope.Scope.TheVariants.{Standing, Session, History}
use Rattle.sets.specs.RowTables.{rows_of}
use Rattle.sets.specs.Tables.{items_of}
use Rattle.sets.specs.declared.both.Both.{Both}
use Rattle.sets.specs.declared.limits.Limit.{Limit}
use Rattle.sets.specs.declared.pairs.Pair.{Pair}
use Rattle.sets.specs.declared.row.Rows.{Rows as RowTable}

-- the rows of one exclusion
pub record Rows : Type 0 where
  pub pairs : List Pair
  pub limits : List Limit

-- a policy: role number k is the item k of the roles
pub record Policy : Type 0 where
  pub roles : List Role
  pub steps : List Step
  pub standing : Rows
  pub session : Rows
  pub history : Rows
  pub rules : List Rule

-- what the tables of the code say
abbrev pub rows : {K : Type 0} {m n : ℕ} {kind pair limit blank_pair blank_limit no_pair no_limit : _} → Both (RowTable K Pair m kind pair blank_pair no_pair) (RowTable K Limit n kind limit blank_limit no_limit) → Rows
rows both = record { pairs = rows_of both.left; limits = rows_of both.right }

abbrev pub policy : Contents → Policy
policy c = record {
  roles = items_of c.roles;
  steps = items_of c.steps;
  standing = rows c.standing;
  session = rows c.session;
  history = rows c.history;
  rules = items_of c.rules;
}

-- contents are no more than what they say: no others say the same
abbrev pub SayAll : Contents → Type 0
SayAll c = (other : Contents) → policy other ≡ policy c → other ≡ c

-- a policy that says nothing
abbrev pub no_rows : Rows
no_rows = record { pairs = []; limits = [] }

abbrev pub nothing : Policy
nothing = record { roles = []; steps = []; standing = no_rows; session = no_rows; history = no_rows; rules = [] }

-- how many roles a policy has: they are the numbers below it
abbrev pub count : Policy → ℕ
count p = length p.roles

-- the rows of an exclusion, and how many members its sets can have: roles of the policy, or acts
abbrev pub rows_in : Scope → Policy → Rows
rows_in Standing p = p.standing
rows_in Session p = p.session
rows_in History p = p.history

abbrev pub places : Scope → Policy → ℕ
places Standing p = count p
places Session p = count p
places History p = 16

-- the role of a number
abbrev pub role_at : Policy → ℕ → Role
role_at p number = slice_index_or p.roles number no_role

-- r is a role of the policy, and x is below it
abbrev pub BelowIn : Policy → ℕ → ℕ → Type 0
BelowIn p r x = (r < count p) × Below p.steps r x

-- a policy with other rows of one exclusion
abbrev pub with_rows : Scope → Rows → Policy → Policy
with_rows Standing xs p = record p { standing = xs }
with_rows Session xs p = record p { session = xs }
with_rows History xs p = record p { history = xs }

-- a policy with one item more, behind the others
abbrev pub with_role : Role → Policy → Policy
with_role x p = record p { roles = p.roles ++ x ∷ [] }

abbrev pub with_step : Step → Policy → Policy
with_step x p = record p { steps = p.steps ++ x ∷ [] }

abbrev pub with_rule : Rule → Policy → Policy
with_rule x p = record p { rules = p.rules ++ x ∷ [] }

abbrev pub with_pair : Scope → Pair → Policy → Policy
with_pair scope x p = with_rows scope (record (rows_in scope p) { pairs = (rows_in scope p).pairs ++ x ∷ [] }) p

abbrev pub with_limit : Scope → Limit → Policy → Policy
with_limit scope x p = with_rows scope (record (rows_in scope p) { limits = (rows_in scope p).limits ++ x ∷ [] }) p
