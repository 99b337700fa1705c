-- A pair keeps the laws of a row.
use Rattle.std.specs.Prelude.{◌≡◌, ℕ, ◌↔◌, Bool, true, false, IsTrue}
use Rattle.sets.specs.Masks.{Inside, has}
use Rattle.sets.specs.PairRows.{HasBoth, has_both}
use Rattle.sets.specs.declared.pairs.Pair.{Pair}
use Rattle.sets.specs.MasksLemmas.{has_zero}
use Rattle.std.proofs.lemmas.Bool.{and_from, and_left, and_parts}
use Rattle.std.proofs.lemmas.Bool.Decides.{Decides-and}

-- the empty set has no member of a pair
pub pair_empty : (p : Pair) → has_both 0 p ≡ false
pair_empty p = and_left (has 0 p.first) (has 0 p.second) (has_zero p.first)

-- a set around one with both members has them too
pub pair_around : (p : Pair) (s t : ℕ) → Inside s t → has_both s p ≡ true → has_both t p ≡ true
pair_around p s t h e =
    let q = and_parts (has s p.first) (has s p.second) e in
    and_from (has t p.first) (has t p.second) (h p.first q.0) (h p.second q.1)

true_decides : (b : Bool) → IsTrue b ↔ (b ≡ true)
true_decides b = (λ e. e, λ e. e)

pub pair_decided : (p : Pair) (s : ℕ) → IsTrue (has_both s p) ↔ HasBoth s p
pair_decided p s = Decides-and (has s p.first) (has s p.second) (true_decides (has s p.first)) (true_decides (has s p.second))
