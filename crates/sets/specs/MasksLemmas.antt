-- What the laws of exclusions ask of masks: the members of none and of what two masks share, and how many there are.
use Rattle.std.specs.Prelude.{◌≡◌, ℕ, zero, suc, ◌/◌, ◌%◌, ◌<◌, ◌≤◌, min, false, ◌&&◌, ◌==◌, ◌≢◌, bit_and, refl}
use Rattle.std.proofs.Common.{⊎_elim, sym, ap, ◌∙◌, zero-le, arith}
use Rattle.std.proofs.Math.Arith.{bin_ind}
use Rattle.std.specs.Int.{bit_at}
use Rattle.std.specs.Int.Count.{ones, ones_step}
use Rattle.sets.specs.Masks.{has, Inside}
use Rattle.std.proofs.lemmas.Bool.{eqb-true, eq-eqb, cases_eq, and_parts}
use Rattle.std.proofs.lemmas.Nat.Bits.{bit_at_and, bit_at_lowest, bit_at-lt, bit_at-suc, bit_at-zero}

pub has_low : (s : ℕ) → has s 0 ≡ (s % 2 == 1)
unfolding has
has_low s = ap (λ x. x == 1) (bit_at_lowest s)

pub has_half : (s k : ℕ) → has (s / 2) k ≡ has s (suc k)
unfolding has
has_half s k = ap (λ x. x == 1) (sym (bit_at-suc s k))

pub has_zero : (k : ℕ) → has 0 k ≡ false
unfolding has
has_zero k = ap (λ x. x == 1) (bit_at-zero k)

-- the lower of two digits is 1 where both are
both_one : (x y : ℕ) → x < 2 → y < 2 → (min x y == 1) ≡ (x == 1 && y == 1)
both_one zero zero l m = refl
both_one zero (suc zero) l m = refl
both_one zero (suc (suc y)) l m = absurd (omega arith)
both_one (suc zero) zero l m = refl
both_one (suc zero) (suc zero) l m = refl
both_one (suc zero) (suc (suc y)) l m = absurd (omega arith)
both_one (suc (suc x)) y l m = absurd (omega arith)

pub has_and : (a b k : ℕ) → has (bit_and a b) k ≡ (has a k && has b k)
unfolding has
has_and a b k = ap (λ x. x == 1) (bit_at_and a b k) ∙ both_one (bit_at a k) (bit_at b k) (bit_at-lt a k) (bit_at-lt b k)

inside_half : (s t : ℕ) → Inside s t → Inside (s / 2) (t / 2)
inside_half s t h k p = has_half t k ∙ h (suc k) (sym (has_half s k) ∙ p)

low_le : (s t : ℕ) → Inside s t → s % 2 ≤ t % 2
low_le s t h = ⊎_elim odd even (cases_eq (s % 2) 1)
  where
    odd : s % 2 ≡ 1 → s % 2 ≤ t % 2
    odd e =
        let q = eqb-true (t % 2) 1 (sym (has_low t) ∙ h 0 (has_low s ∙ eq-eqb (s % 2) 1 e)) in
        omega arith

    even : (s % 2 ≢ 1) → s % 2 ≤ t % 2
    even e = omega arith

-- a set inside another has at most as many members
pub ones_mono : (s t : ℕ) → Inside s t → ones s ≤ ones t
unfolding ones
ones_mono = bin_ind (λ (x : ℕ). (t : ℕ) → Inside x t → ones x ≤ ones t) (λ t h. zero-le) (λ n ih t h.
    let a = ih (t / 2) (inside_half n t h) in
    let b = low_le n t h in
    let e = ones_step n in
    let f = ones_step t in
    omega arith)

pub inside_and : (s t m : ℕ) → Inside s t → Inside (bit_and s m) (bit_and t m)
inside_and s t m h k p =
    let q = and_parts (has s k) (has m k) (sym (has_and s m k) ∙ p) in
    has_and t m k ∙ rw (h k q.0, q.1) refl
