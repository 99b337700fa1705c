-- What the operations on masks do to each member, for the contracts of sets and exclusions.
use Rattle.std.specs.Prelude.{◌≡◌, ℕ, zero, suc, ◌+◌, ◌-◌, ◌/◌, ◌%◌, ◌^◌, ◌<◌, ◌≤◌, Bool, true, false, cond, not, ◌&&◌, ◌||◌, eqb, ◌==◌, ◌≢◌, bit_and, bit_or, bit_xor, nat_lt, refl}
use Rattle.std.proofs.Common.{⊎_elim, sym, ap, ◌∙◌, not-suc-le-zero, arith, shr-shr, pow-suc, pow_pos, mod-lt}
use Rattle.std.specs.Int.Count.{count_trailing_zeros, ones, ones_step, under}
use Rattle.sets.specs.Masks.{has, Member, minus, one, tally}
use Rattle.sets.specs.MasksLemmas.{has_and, has_half, has_low, has_zero}
use Rattle.std.proofs.Math.Pow.{field}
use Rattle.std.proofs.lemmas.Nat.{mod-pow-add}
use Rattle.std.proofs.lemmas.Bool.{cases_eq, cases_lt, eq-eqb, le-ltb, lt-ltb, ne_eqb}
use Rattle.std.proofs.lemmas.Bool.Decides.{nat_tests}
use Rattle.std.proofs.lemmas.Nat.Bits.{bit_at_above, bit_at_or, bit_at_xor, bit_at-lt, bit_at-pow_other, bit_at-pow_same, same_from_bits}

-- ---- members

pub has_or : (a b k : ℕ) → has (bit_or a b) k ≡ (has a k || has b k)
unfolding has
has_or a b k =
    let x = bit_at-lt a k in
    let y = bit_at-lt b k in
    rw (bit_at_or a b k) (grind (arith, nat_tests))

-- no member stands past the length of a mask
pub has_past : (s c k : ℕ) → s < 2 ^ c → c ≤ k → has s k ≡ false
unfolding has
has_past s c k h l = ap (λ x. eqb x 1) (bit_at_above s c k h l)

pub has_shr : (s p j : ℕ) → has (s / 2 ^ p) j ≡ has s (p + j)
unfolding has
has_shr s p j = ap (λ x. eqb (x % 2) 1) (shr-shr s p j)

-- the low bits of a mask keep the members there, and no others
pub has_mod : (s n k : ℕ) → has (s % 2 ^ n) k ≡ (nat_lt k n && has s k)
unfolding has
has_mod s n k = ⊎_elim below above (cases_lt k n)
  where
    low : (j : ℕ) (x : ℕ) → x % 2 ^ (j + 1) % 2 ≡ x % 2
    low j x = let e = mod-pow-add x j 1 in omega arith

    below : k < n → has (s % 2 ^ n) k ≡ (nat_lt k n && has s k)
    below h =
        let j : ℕ = n - k - 1 in
        let e : (j + 1) + k ≡ n = omega arith in
        let f = field s (j + 1) k in
        let g = low j (s / 2 ^ k) in
        let t = lt-ltb k n h in
        rw (t, ← e, f, g) refl

    above : n ≤ k → has (s % 2 ^ n) k ≡ (nat_lt k n && has s k)
    above h = has_past (s % 2 ^ n) n k (mod-lt s (pow_pos n)) h ∙ sym (rw (le-ltb k n h) refl)

pub has_pow : (p k : ℕ) → has (2 ^ p) k ≡ (k == p)
unfolding has
has_pow p k = ⊎_elim same other (cases_eq k p)
  where
    same : k ≡ p → has (2 ^ p) k ≡ (k == p)
    same e = rw (e, bit_at-pow_same p, eq-eqb p p refl) refl

    other : (k ≢ p) → has (2 ^ p) k ≡ (k == p)
    other e = rw (bit_at-pow_other p k e, ne_eqb k p e) refl

pub has_one : (n p k : ℕ) → has (one n p) k ≡ (nat_lt p n && k == p)
has_one n p k = elim (nat_lt p n) as (λ b. has (cond b (2 ^ p) 0) k ≡ (b && k == p)) [ true ↦ has_pow p k | false ↦ has_zero k ]

-- the complement of a mask of w bits has the members that the mask lacks
pub has_not : (w t k : ℕ) → t < 2 ^ w → k < w → has (2 ^ w - 1 - t) k ≡ not (has t k)
has_not zero t k l h = absurd (not-suc-le-zero h)
has_not (suc w) t zero l h =
    let p = pow-suc 2 w in
    let q : (2 ^ suc w - 1 - t) % 2 ≡ 1 - t % 2 = omega arith in
    let r : t % 2 < 2 = omega arith in
    rw (has_low (2 ^ suc w - 1 - t), has_low t, q) (grind (arith, nat_tests))
has_not (suc w) t (suc k) l h =
    let p = pow-suc 2 w in
    let q : (2 ^ suc w - 1 - t) / 2 ≡ 2 ^ w - 1 - t / 2 = omega arith in
    sym (has_half (2 ^ suc w - 1 - t) k) ∙ ap (λ x. has x k) q ∙ has_not w (t / 2) k (omega arith) (omega arith) ∙ ap not (has_half t k)

has_xor : (a b k : ℕ) → has (bit_xor a b) k ≡ cond (has a k) (not (has b k)) (has b k)
unfolding has
has_xor a b k =
    let x = bit_at-lt a k in
    let y = bit_at-lt b k in
    rw (bit_at_xor a b k) (grind (arith, nat_tests))

pub has_minus : (a b k : ℕ) → has (minus a b) k ≡ (has a k && not (has b k))
has_minus a b k =
    has_xor a (bit_and a b) k ∙ ap (λ z. cond (has a k) (not z) z) (has_and a b k) ∙ less (has a k) (has b k)
  where
    less : (x y : Bool) → cond x (not (x && y)) (x && y) ≡ (x && not y)
    less true y = refl
    less false y = refl

-- ---- a mask is known by its members

pub same_mask : (a b : ℕ) → ((k : ℕ) → has a k ≡ has b k) → a ≡ b
unfolding has
same_mask a b h = same_from_bits a b (λ k. let x = bit_at-lt a k in let y = bit_at-lt b k in let e = h k in grind (arith, nat_tests))

-- ---- counting

tally_low : (n : ℕ) (picked : ℕ → Bool) → tally (suc n) picked ≡ cond (picked 0) 1 0 + tally n (λ k. picked (suc k))
tally_low zero picked = refl
tally_low (suc n) picked = let i = tally_low n picked in omega arith

tally_same : (n : ℕ) (f g : ℕ → Bool) → ((k : ℕ) → k < n → f k ≡ g k) → tally n f ≡ tally n g
tally_same zero f g h = refl
tally_same (suc n) f g h =
    let e = h n (omega arith) in
    let i = tally_same n f g (λ k l. h k (omega arith)) in
    rw (e, i) refl

-- the ones of a mask are its members, counted
pub ones_tally : (n s : ℕ) → s < 2 ^ n → ones s ≡ tally n (has s)
unfolding ones
ones_tally zero s h = let e : s ≡ 0 = omega arith in rw e refl
ones_tally (suc n) s h =
    let p = pow-suc 2 n in
    let i = ones_tally n (s / 2) (omega arith) in
    let t = tally_same n (has (s / 2)) (λ k. has s (suc k)) (λ k _. has_half s k) in
    let b : cond (has s 0) 1 0 ≡ s % 2 = ap (λ x. cond x 1 0) (has_low s) ∙ grind (arith, nat_tests) in
    omega (arith, ones_step s, tally_low n (has s))

-- ---- the lowest member

-- no member stands below the trailing zeros
pub trailing_none : (w n j : ℕ) → j < count_trailing_zeros w n → has n j ≡ false
unfolding count_trailing_zeros
trailing_none zero n j h = absurd (not-suc-le-zero h)
trailing_none (suc w) n j h = go (trailing_none w (n / 2)) (n % 2) refl j h
  where
    go : ((j : ℕ) → j < count_trailing_zeros w (n / 2) → has (n / 2) j ≡ false) → (d : ℕ) → n % 2 ≡ d → (j : ℕ) → j < under d (count_trailing_zeros w (n / 2)) → has n j ≡ false
    go ih zero e zero h = has_low n ∙ ap (λ x. eqb x 1) e
    go ih zero e (suc j) h = sym (has_half n j) ∙ ih j (omega arith)
    go ih (suc d) e j h = absurd (not-suc-le-zero h)

-- and the place right above them is one
pub trailing_member : (w n : ℕ) → count_trailing_zeros w n < w → Member n (count_trailing_zeros w n)
unfolding count_trailing_zeros
trailing_member zero n h = absurd (not-suc-le-zero h)
trailing_member (suc w) n h = go (trailing_member w (n / 2)) (n % 2) refl (mod-lt n (omega arith)) h
  where
    go : (count_trailing_zeros w (n / 2) < w → Member (n / 2) (count_trailing_zeros w (n / 2))) → (d : ℕ) → n % 2 ≡ d → d < 2 → under d (count_trailing_zeros w (n / 2)) < suc w → Member n (under d (count_trailing_zeros w (n / 2)))
    go ih zero e l h = sym (has_half n (count_trailing_zeros w (n / 2))) ∙ ih (omega arith)
    go ih (suc d) e l h = has_low n ∙ eq-eqb (n % 2) 1 (omega arith)
