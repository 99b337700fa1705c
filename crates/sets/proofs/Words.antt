-- What each operation on words does to the places that count, for every number n of them.
use Rattle.std.proofs.Common.{◌≡◌, ℕ, ◌+◌, ◌-◌, ◌*◌, ◌/◌, ◌%◌, ◌^◌, ◌<◌, ◌≤◌, min, Bool, true, false, not, ◌&&◌, eqb, ltb, Decides, sym, refl, ap, ◌∙◌, ⊎_elim, mod-eq_of_lt, arith, pow-add, pow_mono, pow_pos, subst, ◌*◌}
use Rattle.std.proofs.Math.Nat.{div-eq_of_lt, lt-div-mul-add, mul-mod_left, zero-mod}
use Rattle.std.specs.Prelude.{◌≢◌, bit_and}
use Rattle.std.specs.Int.Count.{count_trailing_zeros}
use Rattle.std.proofs.Math.Pow.{pow-lt}
use Rattle.sets.specs.Masks.{Inside, Next, has, minus, one}
use Rattle.sets.specs.MasksLemmas.{has_and, has_zero}
use Rattle.sets.proofs.Masks.{has_minus, has_mod, has_not, has_one, has_past, has_shr, same_mask, trailing_member, trailing_none}
use Rattle.std.proofs.lemmas.Nat.{and_mask, one_shl}
use Rattle.std.proofs.lemmas.Bool.{and_parts, cases_lt, eq-eqb, eqb-true, false≢true, le-ltb, lt-ltb}

-- ---- places, one by one

-- a word under the mask of the first places
pub cut_value : (n r word : ℕ) → r ≡ 2 ^ n - 1 → bit_and word r ≡ word % 2 ^ n
cut_value n r word e = ap (bit_and word) e ∙ and_mask word n

-- a word with something at or above place n reaches past the first n
pub past_places : (n word : ℕ) → (word / 2 ^ n ≢ 0) → 2 ^ n ≤ word
past_places n word z = ⊎_elim (λ l. absurd (z (div-eq_of_lt l))) (λ l. l) (cases_lt word (2 ^ n))

-- and one with nothing there does not
pub short_of_places : (n word : ℕ) → word / 2 ^ n ≡ 0 → word < 2 ^ n
short_of_places n word z =
    let least : word < 0 * 2 ^ n + 2 ^ n = subst (λ q. word < q * 2 ^ n + 2 ^ n) z (lt-div-mul-add (pow_pos n)) in
    omega arith

-- no word has a place past its 64
pub all_short : (n word : ℕ) → 64 ≤ n → word < 2 ^ 64 → true ≡ ltb word (2 ^ n)
all_short n word wide fits = let more = pow_mono wide in sym (lt-ltb word (2 ^ n) (omega arith))

-- places of a word, and places past it
pub has_here : (word place : ℕ) → eqb (word / 2 ^ place % 2) 1 ≡ has word place
unfolding has
has_here word place = refl

pub none_past : (word place : ℕ) → word < 2 ^ 64 → 64 ≤ place → has word place ≡ false
none_past word place = has_past word 64 place

pub none_members : (n k : ℕ) → has (0 % 2 ^ n) k ≡ false
none_members n k = ap (λ x. has x k) (zero-mod (2 ^ n)) ∙ has_zero k

-- a place that is cut off leaves nothing
pub one_cut : (n p : ℕ) → 2 ^ p % 2 ^ n ≡ one n p
one_cut n p = ⊎_elim below above (cases_lt p n)
  where
    below : p < n → 2 ^ p % 2 ^ n ≡ one n p
    below h = mod-eq_of_lt (pow-lt h) ∙ sym (rw (lt-ltb p n h) refl)

    above : n ≤ p → 2 ^ p % 2 ^ n ≡ one n p
    above h =
        let e : (p - n) + n ≡ p = omega arith in
        ap (λ x. x % 2 ^ n) (ap (λ m. 2 ^ m) (sym e) ∙ pow-add 2 (p - n) n) ∙ mul-mod_left (2 ^ (p - n)) (2 ^ n) ∙ sym (rw (le-ltb p n h) refl)

-- 1 << p in 64 bits
pub one_mask : (n p : ℕ) → p < 64 → (1 * 2 ^ p) % 2 ^ 64 % 2 ^ n ≡ one n p
one_mask n p h = ap (λ x. x % 2 ^ n) (one_shl p 64 h) ∙ one_cut n p

-- a place past the word is past every kind
pub one_past : (n p : ℕ) → 64 ≤ p → n ≤ 64 → 0 % 2 ^ n ≡ one n p
one_past n p h narrow = zero-mod (2 ^ n) ∙ sym (rw (le-ltb p n (omega arith)) refl)

pub one_members : (n p r : ℕ) → r ≡ one n p → (k : ℕ) → has r k ≡ (ltb p n && eqb k p)
one_members n p r e k = ap (λ x. has x k) e ∙ has_one n p k

-- ---- two words

module _ (a b : ℕ) (a_fits : a < 2 ^ 64) (b_fits : b < 2 ^ 64) where
  -- no place of the complement is one of b, and a has none past the word
  lacking : (k : ℕ) → (has a k && has (2 ^ 64 - 1 - b) k) ≡ (has a k && not (has b k))
  lacking k = ⊎_elim (λ h. rw (has_not 64 b k b_fits h) refl) (λ h. rw (has_past a 64 k a_fits h) refl) (cases_lt k 64)

  pub except_members : (n k : ℕ) → has (bit_and a (2 ^ 64 - 1 - b) % 2 ^ n) k ≡ (has (a % 2 ^ n) k && not (has (b % 2 ^ n) k))
  except_members n k =
      has_mod (bit_and a (2 ^ 64 - 1 - b)) n k ∙ ap (λ x. ltb k n && x) (has_and a (2 ^ 64 - 1 - b) k ∙ lacking k) ∙ spread (ltb k n) (has a k) (has b k)
      ∙ sym (rw (has_mod a n k, has_mod b n k) refl)
    where
      spread : (w x y : Bool) → (w && (x && not y)) ≡ ((w && x) && not (w && y))
      spread true x y = refl
      spread false x y = refl

  pub except_mask : (n : ℕ) → bit_and a (2 ^ 64 - 1 - b) % 2 ^ n ≡ minus (a % 2 ^ n) (b % 2 ^ n)
  except_mask n = same_mask (bit_and a (2 ^ 64 - 1 - b) % 2 ^ n) (minus (a % 2 ^ n) (b % 2 ^ n)) (λ k. except_members n k ∙ sym (has_minus (a % 2 ^ n) (b % 2 ^ n) k))

-- one word is inside another where the places of both are its own
pub inside_decides : (s t : ℕ) → Decides (eqb (bit_and s t) s) (Inside s t)
inside_decides s t = (there, back)
  where
    there : eqb (bit_and s t) s ≡ true → Inside s t
    there h k m = (and_parts (has s k) (has t k) (sym (has_and s t k) ∙ ap (λ x. has x k) (eqb-true (bit_and s t) s h) ∙ m)).1

    back : Inside s t → eqb (bit_and s t) s ≡ true
    back h = eq-eqb (bit_and s t) s (same_mask (bit_and s t) s (λ k. has_and s t k ∙ both k (has s k) refl))
      where
        both : (k : ℕ) (b : Bool) → has s k ≡ b → (b && has t k) ≡ b
        both k true e = h k e
        both k false e = refl

-- ---- the step through the places

has_in : (s n k : ℕ) → k < n → has (s % 2 ^ n) k ≡ has s k
has_in s n k h = has_mod s n k ∙ ap (λ t. t && has s k) (lt-ltb k n h)

-- the least place not below p, found by counting the zeros above it
pub next_found : (n s p r : ℕ) → n ≤ 64 → p < n → r ≡ min (p + count_trailing_zeros 64 (s / 2 ^ p)) n → Next n (s % 2 ^ n) p r
next_found n s p r narrow h e =
    let z = count_trailing_zeros 64 (s / 2 ^ p) in
    record {
      within = omega arith;
      member = λ l.
          let at : p + z ≡ r = omega arith in
          has_in s n r l ∙ ap (has s) (sym at) ∙ sym (has_shr s p z) ∙ trailing_member 64 (s / 2 ^ p) (omega arith);
      not_below = λ l. omega arith;
      least = λ k l u m.
          let at : p + (k - p) ≡ k = omega arith in
          absurd (false≢true (sym (trailing_none 64 (s / 2 ^ p) (k - p) (omega arith)) ∙ has_shr s p (k - p) ∙ ap (has s) at ∙ sym (has_in s n k (omega arith)) ∙ m));
    }
