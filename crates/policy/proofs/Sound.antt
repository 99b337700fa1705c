-- A sound policy stays sound when an item that passes its checks is added.
use Rattle.std.proofs.Common.{sym, subst, ◌≡◌, ℕ, ◌^◌, ◌<◌, ◌≤◌, List, [], ◌∷◌, ◌++◌, length, None, Ok, Err, Option, Result, MatchResult, arith, rules, pow_mono}
use Rattle.std.specs.Prelude.{All}
use Rattle.std.proofs.lemmas.Grind.{common_steps}
use Rattle.std.proofs.lemmas.List.Elements.{All-push, All-weaker}
use Rattle.std.proofs.lemmas.List.{length_push}
use Rattle.policy.specs.Below.{Falls}
use Rattle.policy.specs.Policies.{Policy, Rows, count, places, rows_in, with_role, with_rows, with_rule, with_step}
use Rattle.policy.specs.Sound.{ApartIn, FewIn, IsSound, LimitMembers, PairMembers, RoleActs, RuleRoles, StepEnds}
use Rattle.policy.specs.declared.hierarchy.Step.{Step}
use Rattle.policy.specs.declared.role.Role.{Role}
use Rattle.policy.specs.declared.rule.Rule.{Rule}
use Rattle.policy.specs.declared.scope.Scope.{Scope}
use Rattle.policy.specs.declared.scope.Scope.TheVariants.{Standing, Session, History}
use Rattle.sets.specs.LimitRows.{limit_fault}
use Rattle.sets.specs.PairRows.{pair_fault}
use Rattle.sets.specs.Rows.{row_refusal}
use Rattle.sets.specs.declared.limits.Limit.{Limit}
use Rattle.sets.specs.declared.pairs.Pair.{Pair}
use Rattle.sets.specs.declared.refusal.RowRefusal.{RowRefusal}

-- what exists among some roles exists among more
pub sound_role : (p : Policy) (x : Role) → RoleActs x → count p < 32 → IsSound p → IsSound (with_role x p)
sound_role p x acts room s =
    let more : 2 ^ count p ≤ 2 ^ length (p.roles ++ x ∷ []) = pow_mono (omega (arith, length_push p.roles x)) in
    search (rules, All-push, All-weaker, length_push)

-- what holds of a list holds of it after a call that puts an item behind the others or refuses
pub kept_or_put : {A E : Type 0} (P : List A → Type 0) {room : Type 0} {kept : E → Type 0} (old new : List A) (x : A) (r : Result (Unit {0}) E) → MatchResult r (λ _. room × (new ≡ old ++ x ∷ [])) kept
    → ((e : E) → kept e → new ≡ old) → P old → (room → P (old ++ x ∷ [])) → P new
kept_or_put P old new x (Ok _) told same p q = subst P (sym told.1) (q told.0)
kept_or_put P old new x (Err e) told same p q = subst P (sym (same e told)) p

pub sound_step : (p : Policy) (x : Step) → Falls x → StepEnds (count p) x → length p.steps < 256 → IsSound p → IsSound (with_step x p)
sound_step p x falls ends room s = grind (arith, common_steps)

pub sound_rule : (p : Policy) (x : Rule) → RuleRoles (count p) x → length p.rules < 64 → IsSound p → IsSound (with_rule x p)
sound_rule p x exist room s = grind (arith, common_steps)

-- with other rows of one exclusion, if there are few enough, their members exist and no pair is of equals
pub sound_rows : (scope : Scope) (p : Policy) (xs : Rows) → FewIn xs → All (PairMembers (places scope p)) xs.pairs × All (LimitMembers (places scope p)) xs.limits → ApartIn xs → IsSound p → IsSound (with_rows scope xs p)
sound_rows Standing p xs few exist apart s = grind (arith, common_steps)
sound_rows Session p xs few exist apart s = grind (arith, common_steps)
sound_rows History p xs few exist apart s = grind (arith, common_steps)

module _ {p seen : Policy} {n : ℕ} (view : p ≡ seen) where
  pub sound_pair : (scope : Scope) {at : Scope} (x : Pair) (fault : Option RowRefusal) {rows : List Pair} → at ≡ scope → n ≡ places at seen → pair_fault n x ≡ None
      → (row_refusal 128 (length (rows_in scope p).pairs) fault ≡ None) × (rows ≡ (rows_in scope p).pairs ++ x ∷ []) → IsSound p
      → IsSound (with_rows scope (record { pairs = rows; limits = (rows_in scope p).limits }) p)
  sound_pair Standing x fault same counted passed added s = grind (arith, common_steps)
  sound_pair Session x fault same counted passed added s = grind (arith, common_steps)
  sound_pair History x fault same counted passed added s = grind (arith, common_steps)

  pub sound_limit : (scope : Scope) {at : Scope} (x : Limit) (fault : Option RowRefusal) {rows : List Limit} → at ≡ scope → n ≡ places at seen → limit_fault n x ≡ None
      → (row_refusal 16 (length (rows_in scope p).limits) fault ≡ None) × (rows ≡ (rows_in scope p).limits ++ x ∷ []) → IsSound p
      → IsSound (with_rows scope (record { pairs = (rows_in scope p).pairs; limits = rows }) p)
  sound_limit Standing x fault same counted passed added s = grind (arith, common_steps)
  sound_limit Session x fault same counted passed added s = grind (arith, common_steps)
  sound_limit History x fault same counted passed added s = grind (arith, common_steps)
