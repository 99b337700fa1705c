-- What a table of rows promises, in a policy's words; and that a row whose members exist in a policy is checked there as by its table.
use Rattle.std.proofs.Common.{◌≡◌, ℕ, ◌^◌, ◌<◌, ◌≤◌, Bool, false, List, length, None, Option, refl, subst, arith, pow_mono}
use Rattle.std.specs.Option.{option_map}
use Rattle.policy.specs.Refusals.{row_passed_on}
use Rattle.std.specs.Prelude.{All}
use Rattle.std.specs.List.{list_any}
use Rattle.std.proofs.lemmas.Grind.{common_steps}
use Rattle.std.proofs.lemmas.List.{length-take-le}
use Rattle.std.proofs.lemmas.List.Folds.{list_any_at}
use Rattle.policy.specs.Sound.{PairApart}
use Rattle.sets.specs.LimitRows.{limit_fault}
use Rattle.sets.specs.PairRows.{pair_fault}
use Rattle.sets.specs.Rows.{is_fault, row_refusal}
use Rattle.sets.specs.RowTables.{rows_of}
use Rattle.sets.specs.declared.limits.Limit.{Limit}
use Rattle.sets.specs.declared.pairs.Pair.{Pair}
use Rattle.sets.specs.declared.kind.Kind.{Ghosts as Kinds}
use Rattle.sets.specs.declared.refusal.RowRefusal.{RowRefusal}
use Rattle.sets.specs.declared.row.Entry.{Ghosts as Entries}
use Rattle.sets.specs.declared.row.Rows.{Rows}

-- as many rows as the table counts, and no more than it has room for
module _ {K R : Type 0} {n : ℕ} {kind entry blank default : _} (x : Rows K R n kind entry blank default) where
  pub rows_held : length (rows_of x) ≡ x.rows.count
  rows_held = length-take-le x.rows.count x.rows.items (omega (arith, x.rows.few, x.rows.whole))

  pub rows_few : length (rows_of x) ≤ n
  rows_few = omega (arith, rows_held, x.rows.few)

-- where no row passes a test, each row fails it
none_of : {R : Type 0} (test : R → Bool) (rows : List R) → list_any test rows ≡ false → All (λ row. test row ≡ false) rows
none_of test rows e k d within = grind (arith, common_steps, list_any_at)

-- with nothing wrong with any pair, no pair has equal members
pub pairs_apart : (n : ℕ) (rows : List Pair) → list_any (λ row. is_fault (pair_fault n row)) rows ≡ false → All PairApart rows
pairs_apart n rows e = grind (arith, common_steps, none_of)

-- and so no pair of any table of pairs has, by its type's own promise
pub table_apart : {K : Type 0} {n : ℕ} {kind : Kinds K} {entry : Entries Pair} {blank default : _} (x : Rows K Pair n kind entry blank default) → entry.fault ≡ pair_fault → All PairApart (rows_of x)
table_apart {kind = kind} x same = pairs_apart kind.COUNT (rows_of x) (subst (λ (fault : ℕ → Pair → Option RowRefusal). list_any (λ row. is_fault (fault kind.COUNT row)) (rows_of x) ≡ false) same x.sound)

-- a limit that is not refused has a most that exists
pub limit_low : (n room held : ℕ) (row : Limit) → row_refusal room held (limit_fault n row) ≡ None → row.most ≤ 31
limit_low n room held row e = grind (arith, common_steps)

-- what exists among some places is checked alike among more
pub pair_checks : (n place : ℕ) (row : Pair) → row.first < place → row.second < place → place ≤ n → pair_fault place row ≡ pair_fault n row
pair_checks n place row a b narrow = grind (arith, common_steps)

pub limit_checks : (n place : ℕ) (row : Limit) → row.members < 2 ^ place → place ≤ n → limit_fault place row ≡ limit_fault n row
limit_checks n place row a narrow = let more : 2 ^ place ≤ 2 ^ n = pow_mono narrow in grind (arith, common_steps)

-- and is refused alike, by a table that counts its rows and by a draft that goes by the list of them
module _ {K R : Type 0} {n : ℕ} {kind entry blank default : _} (x : Rows K R n kind entry blank default) (room : ℕ) where
  refused_alike : {less more : Option RowRefusal} → less ≡ more → option_map row_passed_on (row_refusal room (length (rows_of x)) less) ≡ option_map row_passed_on (row_refusal room x.rows.count more)
  refused_alike e = rw (rows_held x, e) refl

  pub pair_refused : (n place : ℕ) (row : Pair) → row.first < place → row.second < place → place ≤ n
      → option_map row_passed_on (row_refusal room (length (rows_of x)) (pair_fault place row)) ≡ option_map row_passed_on (row_refusal room x.rows.count (pair_fault n row))
  pair_refused n place row a b narrow = refused_alike (pair_checks n place row a b narrow)

  pub limit_refused : (n place : ℕ) (row : Limit) → row.members < 2 ^ place → place ≤ n
      → option_map row_passed_on (row_refusal room (length (rows_of x)) (limit_fault place row)) ≡ option_map row_passed_on (row_refusal room x.rows.count (limit_fault n row))
  limit_refused n place row a narrow = refused_alike (limit_checks n place row a narrow)
