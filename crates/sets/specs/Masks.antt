-- Masks, which are sets written as numbers: which members a mask has, and what the operations on sets mean. Assumes nothing.
use Rattle.std.specs.Prelude.{◌≡◌, ℕ, zero, suc, ◌+◌, ◌^◌, ◌<◌, ◌≤◌, Bool, true, if◌then◌else◌, ◌==◌, bit_and, bit_xor, nat_lt}
use Rattle.std.specs.Int.{bit_at}

-- place k is a member of a mask where the binary digit k is 1
unfoldable pub has : ℕ → ℕ → Bool
has s k = bit_at s k == 1

abbrev pub Member : ℕ → ℕ → Type 0
Member s k = has s k ≡ true

-- every member of s is a member of t
abbrev pub Inside : ℕ → ℕ → Type 0
Inside s t = (k : ℕ) → Member s k → Member t k

-- one member, of a kind with n places: a place outside the kind is none
abbrev pub one : ℕ → ℕ → ℕ
one n place = if nat_lt place n then 2 ^ place else 0

-- the members of s that t does not have
abbrev pub minus : ℕ → ℕ → ℕ
minus s t = bit_xor s (bit_and s t)

-- how many places below n are picked
abbrev pub tally : ℕ → (ℕ → Bool) → ℕ
tally zero picked = 0
tally (suc n) picked = (if picked n then 1 else 0) + tally n picked

-- the least member of s not below the place, and n where there is none, for a kind with n places
pub record Next (n s place next : ℕ) : Type 0 where
  pub within : next ≤ n
  pub member : next < n → Member s next
  pub not_below : next < n → place ≤ next
  pub least : (k : ℕ) → place ≤ k → k < next → Member s k → ⊥
