-- The rows of the hierarchy, joined from those of the juniors, have exactly the roles below each role.
use Rattle.std.proofs.Common.{◌≡◌, ℕ, zero, suc, ◌+◌, ◌<◌, ◌≤◌, true, ◌&&◌, ◌||◌, eqb, ltb, ◌⊎◌, List, length, get_or, sym, refl, ◌∙◌, subst, inl, inr, ⊎_elim, arith}
use Rattle.std.proofs.Math.Bool.{Bool-set}
use mathlib.Core.Logic.{∥∥₁_elim}
use Rattle.policy.specs.Below.{Below, Exact, Falls, RowOf, itself, step_down}
use Rattle.policy.specs.declared.hierarchy.Step.{Step}
use Rattle.sets.specs.Masks.{has, Member}
use Rattle.sets.specs.Sets.{mask}
use Rattle.sets.specs.declared.set.Set.{Set}
use Rattle.std.specs.Prelude.{All, Contains}
use Rattle.std.specs.List.{AllWithin, HoldsAt}
use Rattle.std.proofs.lemmas.Grind.{common_steps}
use Rattle.std.proofs.lemmas.List.Elements.{AllWithin-more, AllWithin-none}
use Rattle.std.proofs.lemmas.List.{get_or_default}
use Rattle.std.proofs.lemmas.Bool.{and_parts, cases_eq, eq-eqb, eqb-true, lt-ltb, or_cases, or_left, or_right}

-- a step from r is followed: the row has what is below the junior
abbrev Followed : {X : Type 0} → List Step → ℕ → Set X → Step → Type 0
Followed steps r row step = step.senior ≡ r → (x : ℕ) → Below steps step.junior x → Member (mask 32 row) x

-- the row of a role once the first i steps are followed
pub record Sofar {X : Type 0} (steps : List Step) (r i : ℕ) (row : Set X) : Type 0 where
  pub only : (x : ℕ) → Member (mask 32 row) x → Below steps r x
  pub self : Member (mask 32 row) r
  pub each : AllWithin (Followed steps r row) steps 0 i

module _ {X : Type 0} where
  pub at_default : (xs : List X) (i : ℕ) (d : X) → i < length xs → (P : X → Type 0) → P (get_or xs i d) → HoldsAt P xs i
  at_default xs i d within P p e = subst P (get_or_default xs i d e within) p

  pub listed_at : (xs : List X) (i : ℕ) (d : X) → i < length xs → Contains xs (get_or xs i d)
  listed_at xs i d within = (i, within, sym (get_or_default xs i d (get_or xs i d) within))

module _ {X : Type 0} (steps : List Step) (r : ℕ) where
  -- at first the role alone is in its row
  pub start : (row : Set X) → r < 32 → ((k : ℕ) → has (mask 32 row) k ≡ (ltb r 32 && eqb k r)) → Sofar steps r 0 row
  start row low members = record {
    only = λ x m. subst (Below steps r) (sym (eqb-true x r (and_parts (ltb r 32) (eqb x r) (sym (members x) ∙ m)).1)) itself;
    self = members r ∙ rw (lt-ltb r 32 low, eq-eqb r r refl) refl;
    each = AllWithin-none (Followed steps r row) steps 0;
  }

  module _ (i : ℕ) (d : Step) (within : i < length steps) where
    -- a step from another role adds nothing
    pub skip : (row : Set X) → ((get_or steps i d).senior ≡ r → ⊥) → Sofar steps r i row → Sofar steps r (i + 1) row
    skip row other s = grind (arith, common_steps)

    -- a step from the role adds the finished row of the junior
    pub follow : (row joined none : Set X) (rows : List (Set X)) → All Falls steps → Exact steps r rows → (get_or steps i d).senior ≡ r
        → ((k : ℕ) → has (mask 32 joined) k ≡ (has (mask 32 row) k || has (mask 32 (get_or rows (get_or steps i d).junior none)) k)) → Sofar steps r i row → Sofar steps r (i + 1) joined
    follow row joined none rows lower finished from members s = record {
      only = λ x m. ⊎_elim (s.only x) (λ n. step_down (get_or steps i d) (listed_at steps i d within) from ((told x).0 n)) (or_cases (has (mask 32 row) x) (has (mask 32 more) x) (sym (members x) ∙ m));
      self = kept r s.self;
      each = AllWithin-more (Followed steps r joined) steps 0 i (λ k e a b f x p. kept x (s.each k e a b f x p)) (at_default steps i d within (Followed steps r joined) (λ _ x p. added x ((told x).1 p)));
    }
      where
        more : Set X
        more = get_or rows (get_or steps i d).junior none

        told : RowOf steps (get_or steps i d).junior more
        told = let falls = lower i d within in finished (get_or steps i d).junior (omega arith) none

        kept : (x : ℕ) → Member (mask 32 row) x → Member (mask 32 joined) x
        kept x m = members x ∙ or_left (has (mask 32 row) x) (has (mask 32 more) x) m

        added : (x : ℕ) → Member (mask 32 more) x → Member (mask 32 joined) x
        added x m = members x ∙ or_right (has (mask 32 row) x) (has (mask 32 more) x) m

-- ---- whether a role is below another can be decided, and so what is known to be exact is exact

-- a step does not lead from r down to x
abbrev Astray : List Step → ℕ → ℕ → Step → Type 0
Astray steps r x step = step.senior ≡ r → Below steps step.junior x → ⊥

module _ (steps : List Step) (lower : All Falls steps) where
  -- whether x is below r by one of the first i steps, where that is decided for all roles lower than r
  scan : (r x : ℕ) → ((s : ℕ) → s < r → Below steps s x ⊎ (Below steps s x → ⊥)) → (i : ℕ) → i ≤ length steps → Below steps r x ⊎ AllWithin (Astray steps r x) steps 0 i
  scan r x ih zero fits = inr (AllWithin-none (Astray steps r x) steps 0)
  scan r x ih (suc i) fits = ⊎_elim inl (λ none. ⊎_elim (taken none) (λ other. more none (λ e. absurd (other e))) (cases_eq step.senior r)) (scan r x ih i (omega arith))
    where
      step : Step
      step = get_or steps i (record { senior = 0; junior = 0 })

      more : AllWithin (Astray steps r x) steps 0 i → Astray steps r x step → Below steps r x ⊎ AllWithin (Astray steps r x) steps 0 (suc i)
      more none this = inr (subst (AllWithin (Astray steps r x) steps 0) (omega arith) (AllWithin-more (Astray steps r x) steps 0 i none (at_default steps i _ (omega arith) (Astray steps r x) this)))

      taken : AllWithin (Astray steps r x) steps 0 i → step.senior ≡ r → Below steps r x ⊎ AllWithin (Astray steps r x) steps 0 (suc i)
      taken none e =
          let falls = lower i (record { senior = 0; junior = 0 }) (omega arith) in
          ⊎_elim (λ p. inl (step_down step (listed_at steps i _ (omega arith)) e p)) (λ never. more none (λ _. never)) (ih step.junior (omega arith))

  -- a way down is the role itself or begins with a listed step
  none_left : (r x : ℕ) → (x ≡ r → ⊥) → AllWithin (Astray steps r x) steps 0 (length steps) → Below steps r x → ⊥
  none_left r x apart none itself = apart refl
  none_left r x apart none (step_down step listed from p) =
      let within = listed.1 in
      subst (Astray steps r x) listed.2 (none listed.0 step (omega arith) within) from p

  -- being below is decided, for any two roles
  pub decide : (bound r x : ℕ) → r < bound → Below steps r x ⊎ (Below steps r x → ⊥)
  decide zero r x h = absurd (omega arith)
  decide (suc bound) r x h =
      ⊎_elim (λ e. inl (subst (Below steps r) (sym e) itself))
      (λ apart. ⊎_elim inl (λ none. inr (none_left r x apart none)) (scan r x (λ s l. decide bound s x (omega arith)) (length steps) (omega arith)))
      (cases_eq x r)

  -- a table of which no more is known than that some proof says it is exact, is exact
  pub exact_had : {X : Type 0} (n : ℕ) (rows : List (Set X)) → ∥ Exact steps n rows ∥₁ → Exact steps n rows
  exact_had n rows t r h d x = (only, every)
    where
      only : Member (mask 32 (get_or rows r d)) x → Below steps r x
      only m = ⊎_elim (λ p. p) (λ never. absurd (∥∥₁_elim t (λ p q. absurd p) (λ e. never ((e r h d x).0 m)))) (decide (suc r) r x (omega arith))

      every : Below steps r x → Member (mask 32 (get_or rows r d)) x
      every p = ∥∥₁_elim t (Bool-set (has (mask 32 (get_or rows r d)) x) true) (λ e. (e r h d x).1 p)
