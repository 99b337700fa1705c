-- The hierarchy of three roles with a step from 2 to 1 and one from 1 to 0, computed on the definitions.
use Rattle.std.proofs.Common.{◌≡◌, ℕ, zero, suc, ◌^◌, ◌<◌, ◌≤◌, List, [], ◌∷◌, ◌↔◌, IsTrue, sym, refl, subst, ⊎_elim, arith}
use Rattle.policy.specs.Below.{Below, Falls, itself, step_down}
use Rattle.policy.specs.Policies.{BelowIn, Policy, count}
use Rattle.policy.specs.declared.hierarchy.Step.{Step}
use Rattle.sets.specs.Masks.{Member, has}
use Rattle.sets.proofs.Masks.{has_past, same_mask}
use Rattle.std.specs.Prelude.{All, Contains}
use Rattle.std.proofs.lemmas.List.Elements.{All-cons, All-contains, All-nil}
use Rattle.std.proofs.lemmas.Bool.{both_ways, cases_lt}
use Rattle.std.proofs.lemmas.Bool.Decides.{same_from_decides}

-- no role below r has a higher number
below_le : (steps : List Step) → All Falls steps → (r x : ℕ) → Below steps r x → x ≤ r
below_le steps lower r x itself = omega arith
below_le steps lower r x (step_down step listed from p) =
    let falls = All-contains Falls steps step lower listed in
    let less = below_le steps lower step.junior x p in
    omega arith

abbrev upper : Step
upper = record { senior = 2; junior = 1 }

abbrev under : Step
under = record { senior = 1; junior = 0 }

abbrev pub two_steps : List Step
two_steps = upper ∷ under ∷ []

upper_listed : Contains two_steps upper
upper_listed = (0, omega arith, refl)

under_listed : Contains two_steps under
under_listed = (1, omega arith, refl)

both_fall : All Falls two_steps
both_fall = All-cons Falls upper (under ∷ []) (omega arith) (All-cons Falls under [] (omega arith) (All-nil Falls))

-- all of 0, 1 and 2 are below 2
three : (x : ℕ) → x < 3 → Below two_steps 2 x
three zero h = step_down upper upper_listed refl (step_down under under_listed refl itself)
three (suc zero) h = step_down upper upper_listed refl itself
three (suc (suc zero)) h = itself
three (suc (suc (suc x))) h = absurd (omega arith)

seven : (x : ℕ) → x < 3 → Member 7 x
unfolding has
seven zero h = refl
seven (suc zero) h = refl
seven (suc (suc zero)) h = refl
seven (suc (suc (suc x))) h = absurd (omega arith)

one : Member 1 0
unfolding has
one = refl

-- the low n places, as a mask
low : (mask n : ℕ) → mask < 2 ^ n → (x : ℕ) → Member mask x → x < n
low mask n fits x m = ⊎_elim (λ l. l) (λ l. absurd (both_ways (has mask x) (has_past mask n x fits l) m)) (cases_lt x n)

module _ (p : Policy) (steps : p.steps ≡ two_steps) (roles : count p ≡ 3) where
  at_most : (r x : ℕ) → BelowIn p r x → x ≤ r
  at_most r x below = below_le two_steps both_fall r x (subst (λ (xs : List Step). Below xs r x) steps below.1)

  -- below 2 are 0, 1 and 2
  pub below_two : (mask : ℕ) → ((x : ℕ) → IsTrue (has mask x) ↔ BelowIn p 2 x) → mask ≡ 7
  below_two mask told = same_mask mask 7 (λ x. same_from_decides (has mask x) (has 7 x) (told x) (there x, back x))
    where
      there : (x : ℕ) → Member 7 x → BelowIn p 2 x
      there x m = (omega arith, subst (λ (xs : List Step). Below xs 2 x) (sym steps) (three x (low 7 3 (omega arith) x m)))

      back : (x : ℕ) → BelowIn p 2 x → Member 7 x
      back x below = let l = at_most 2 x below in seven x (omega arith)

  -- below 0 is 0
  pub below_zero : (mask : ℕ) → ((x : ℕ) → IsTrue (has mask x) ↔ BelowIn p 0 x) → mask ≡ 1
  below_zero mask told = same_mask mask 1 (λ x. same_from_decides (has mask x) (has 1 x) (told x) (there x, back x))
    where
      there : (x : ℕ) → Member 1 x → BelowIn p 0 x
      there x m = let l = low 1 1 (omega arith) x m in (omega arith, subst (Below p.steps 0) (omega arith) itself)

      back : (x : ℕ) → BelowIn p 0 x → Member 1 x
      back x below = let l = at_most 0 x below in subst (Member 1) (omega arith) one
