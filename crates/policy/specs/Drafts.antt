-- Why a draft refuses an item, and what adding one does. Assumes nothing.
use Rattle.std.specs.Prelude.{◌≡◌, ℕ, ◌^◌, Bool, if◌then◌else◌, ◌&&◌, length, Some, None, Ok, Err, Option, Result, nat_le, nat_lt}
use Rattle.std.specs.Option.{option_map}
use Rattle.policy.specs.Policies.{Policy, count, places, rows_in}
use Rattle.policy.specs.Refusals.{row_passed_on}
use Rattle.policy.specs.declared.hierarchy.Step.{Step}
use Rattle.policy.specs.declared.refusal.DraftRefusal.{DraftRefusal}
use Rattle.policy.specs.declared.refusal.DraftRefusal.TheVariants.{OutOfRange, TableFull, NotLower}
use Rattle.policy.specs.declared.scope.Scope.{Scope}
use Rattle.sets.specs.LimitRows.{limit_fault}
use Rattle.sets.specs.PairRows.{pair_fault}
use Rattle.sets.specs.Rows.{row_refusal}
use Rattle.sets.specs.declared.limits.Limit.{Limit}
use Rattle.sets.specs.declared.pairs.Pair.{Pair}

-- a check and those behind it: the first that fails names the refusal
abbrev pub unless : Bool → DraftRefusal → Option DraftRefusal → Option DraftRefusal
unless holds refusal behind = if holds then behind else Some refusal

abbrev pub role_refusal : Policy → ℕ → Option DraftRefusal
role_refusal p acts = unless (nat_lt acts (2 ^ 16)) OutOfRange (unless (nat_lt (length p.roles) 32) TableFull None)

abbrev pub step_refusal : Policy → Step → Option DraftRefusal
step_refusal p step =
    unless (nat_lt step.senior (count p) && nat_lt step.junior (count p)) OutOfRange
    (unless (nat_lt step.junior step.senior) NotLower (unless (nat_lt (length p.steps) 256) TableFull None))

-- a pair or a limit is refused as by a table of such rows, where members are to be roles of the policy, or acts
abbrev pub pair_refusal : Scope → Policy → Pair → Option DraftRefusal
pair_refusal scope p pair = option_map row_passed_on (row_refusal 128 (length (rows_in scope p).pairs) (pair_fault (places scope p) pair))

abbrev pub limit_refusal : Scope → Policy → Limit → Option DraftRefusal
limit_refusal scope p limit = option_map row_passed_on (row_refusal 16 (length (rows_in scope p).limits) (limit_fault (places scope p) limit))

abbrev pub rule_refusal : Policy → ℕ → ℕ → ℕ → Option DraftRefusal
rule_refusal p role required depth =
    unless (nat_lt role (count p) && (nat_lt required (2 ^ count p) && nat_le depth 15)) OutOfRange (unless (nat_lt (length p.rules) 64) TableFull None)

-- what adding an item answers and leaves: where no check fails it is added, and else the first check that fails is named, and nothing changes
abbrev pub Adds : {A : Type 0} → Option DraftRefusal → (A → Type 0) → Type 0 → Result A DraftRefusal → Type 0
Adds refusal added unchanged (Ok a) = (refusal ≡ None) × added a
Adds refusal added unchanged (Err e) = (refusal ≡ Some e) × unchanged
