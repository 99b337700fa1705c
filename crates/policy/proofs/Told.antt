-- Contents are no more than what they say: tables with the same items are the same value, whatever proofs their ghost fields hold.
use mathlib.Core.HLevel.{is_prop→PathP}
use Rattle.std.specs.Prelude.{◌≡◌, ℕ, ◌-◌, ◌≤◌, ◌++◌, List, drop, length, replicate}
use Rattle.std.proofs.Common.{sym, ap, ◌∙◌, arith}
use Rattle.std.proofs.Math.Logic.{∥∥₁_elim, ∥∥₁_prop}
use Rattle.std.specs.Coded.{Coded-set, coded_ℕ, le_prop}
use Rattle.std.proofs.Props.{props}
use Rattle.std.proofs.lemmas.List.{length-take-le, take-append-drop}
use Rattle.std.specs.declared.default.Default.{Ghosts as Defaults}
use Rattle.policy.specs.Policies.{Policy, Rows, policy, rows}
use Rattle.policy.specs.declared.contents.Contents.{Contents}
use Rattle.sets.specs.Tables.{items_of}
use Rattle.sets.specs.declared.both.Both.{Both}
use Rattle.sets.specs.declared.limits.Limit.{Limit}
use Rattle.sets.specs.declared.pairs.Pair.{Pair}
use Rattle.sets.specs.declared.row.Rows.{Rows as RowTable}
use Rattle.sets.specs.declared.table.Blank.{Ghosts as Blanks}
use Rattle.sets.specs.declared.table.Table.{Table}
use Rattle.sets.proofs.Rows.{same_rows}

-- the items and the blanks behind them are all that a table is
module _ {X : Type 0} {n : ℕ} {blank : Blanks X} {default : Defaults X} (alike : (xs ys : List X) → IsProp (xs ≡ ys)) (a b : Table X n blank default) (same : items_of a ≡ items_of b) where
  held : (t : Table X n blank default) → length (items_of t) ≡ t.count
  held t = length-take-le t.count t.items (omega (arith, t.few, t.whole))

  counts : a.count ≡ b.count
  counts = sym (held a) ∙ ap length same ∙ held b

  rest : drop a.count a.items ≡ drop b.count b.items
  rest = ∥∥₁_elim a.clean (alike _ _) (λ p. ∥∥₁_elim b.clean (alike _ _) (λ q. p ∙ ap (λ k. replicate (n - k) blank.blank) counts ∙ sym q))

  placed : a.items ≡ b.items
  placed = sym (take-append-drop a.count a.items) ∙ ap (λ xs. xs ++ drop a.count a.items) same ∙ ap (λ xs. items_of b ++ xs) rest ∙ take-append-drop b.count b.items

  pub same_table : a ≡ b
  same_table = λ i. record {
    items = placed i;
    count = counts i;
    few = is_prop→PathP (λ j. counts j ≤ n) (λ j. le_prop) a.few b.few i;
    whole = is_prop→PathP (λ j. length (placed j) ≡ n) (λ j. Coded-set coded_ℕ _ _) a.whole b.whole i;
    clean = is_prop→PathP (λ j. ∥ drop (counts j) (placed j) ≡ replicate (n - counts j) blank.blank ∥₁) (λ j. ∥∥₁_prop) a.clean b.clean i;
  }

module _ {K : Type 0} {m n : ℕ} {kind pair limit blank_pair blank_limit no_pair no_limit : _} where
  same_both : (a b : Both (RowTable K Pair m kind pair blank_pair no_pair) (RowTable K Limit n kind limit blank_limit no_limit)) → rows a ≡ rows b → a ≡ b
  same_both a b e =
      let left : a.left ≡ b.left = same_rows {a = a.left} {b = b.left} (same_table (λ xs ys. hlevel props) a.left.rows b.left.rows (ap (λ (r : Rows). r.pairs) e)) in
      let right : a.right ≡ b.right = same_rows {a = a.right} {b = b.right} (same_table (λ xs ys. hlevel props) a.right.rows b.right.rows (ap (λ (r : Rows). r.limits) e)) in
      λ i. record { left = left i; right = right i }

-- contents that say the same are the same value
pub same_contents : (a b : Contents) → policy a ≡ policy b → a ≡ b
same_contents a b e = λ i. record {
  roles = same_table (λ xs ys. hlevel props) a.roles b.roles (ap (λ (p : Policy). p.roles) e) i;
  steps = same_table (λ xs ys. hlevel props) a.steps b.steps (ap (λ (p : Policy). p.steps) e) i;
  standing = same_both a.standing b.standing (ap (λ (p : Policy). p.standing) e) i;
  session = same_both a.session b.session (ap (λ (p : Policy). p.session) e) i;
  history = same_both a.history b.history (ap (λ (p : Policy). p.history) e) i;
  rules = same_table (λ xs ys. hlevel props) a.rules b.rules (ap (λ (p : Policy). p.rules) e) i;
}
