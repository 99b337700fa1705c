-- A limit keeps the laws of a row.
use Rattle.std.specs.Prelude.{◌≡◌, ℕ, ◌↔◌, true, false, IsTrue, bit_and}
use Rattle.std.proofs.Common.{ap, arith}
use Rattle.std.specs.Int.Bits.{and_zero_l}
use Rattle.std.specs.Int.Count.{ones}
use Rattle.sets.specs.LimitRows.{Passes, passes, shared}
use Rattle.sets.specs.Masks.{Inside}
use Rattle.sets.specs.declared.limits.Limit.{Limit}
use Rattle.sets.specs.MasksLemmas.{inside_and, ones_mono}
use Rattle.std.proofs.lemmas.Bool.{le-ltb, lt-ltb, ltb-true}
use Rattle.std.proofs.lemmas.Bool.Decides.{Decides-ltb}

none_shared : (t : ℕ) → shared 0 t ≡ 0
unfolding ones
none_shared t = ap ones (and_zero_l t)

-- the empty set has no member of a row, and no most is below that
pub limit_empty : (row : Limit) → passes 0 row ≡ false
limit_empty row = let z = none_shared row.members in le-ltb row.most (shared 0 row.members) (omega arith)

-- a set around another has at least as many members of a row
pub limit_around : (row : Limit) (s t : ℕ) → Inside s t → passes s row ≡ true → passes t row ≡ true
limit_around row s t h e =
    let l = ltb-true row.most (shared s row.members) e in
    let m = ones_mono (bit_and s row.members) (bit_and t row.members) (inside_and s t row.members h) in
    lt-ltb row.most (shared t row.members) (omega arith)

pub limit_decided : (row : Limit) (s : ℕ) → IsTrue (passes s row) ↔ Passes s row
limit_decided row s = Decides-ltb row.most (shared s row.members)
