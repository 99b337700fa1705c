-- Tables of rows keep the laws of an exclusion, for every kind of row.
use Rattle.std.specs.Prelude.{◌≡◌, ℕ, Bool, true, false, not, List, [], ◌∷◌, refl}
use Rattle.std.proofs.Common.{⊎_elim, ap}
use Rattle.std.specs.List.{list_any}
use Rattle.std.proofs.lemmas.Bool.{both_ways, cases_Bool, not-true, or_from, or_parts}

module _ {R : Type 0} where
  -- a table whose rows spare the empty set allows it
  pub table_empty : (forbidden : R → ℕ → Bool) → ((row : R) → forbidden row 0 ≡ false) → (rows : List R) → not (list_any (λ row. forbidden row 0) rows) ≡ true
  table_empty forbidden spared rows = ap not (none rows)
    where
      none : (rows : List R) → list_any (λ row. forbidden row 0) rows ≡ false
      none [] = refl
      none (row ∷ rows) = or_from (forbidden row 0) (list_any (λ row. forbidden row 0) rows) (spared row) (none rows)

  -- a table whose rows forbid whatever is around a forbidden set allows whatever is inside an allowed one
  pub table_inside : (forbidden : R → ℕ → Bool) (s t : ℕ) → ((row : R) → forbidden row s ≡ true → forbidden row t ≡ true) → (rows : List R) → not (list_any (λ row. forbidden row t) rows) ≡ true → not (list_any (λ row. forbidden row s) rows) ≡ true
  table_inside forbidden s t around rows h = ap not (less rows (not-true (list_any (λ row. forbidden row t) rows) h))
    where
      here : (row : R) → forbidden row t ≡ false → forbidden row s ≡ false
      here row none = ⊎_elim (λ e. absurd (both_ways (forbidden row t) none (around row e))) (λ e. e) (cases_Bool (forbidden row s))

      less : (rows : List R) → list_any (λ row. forbidden row t) rows ≡ false → list_any (λ row. forbidden row s) rows ≡ false
      less [] h = refl
      less (row ∷ rows) h =
          let p = or_parts (forbidden row t) (list_any (λ row. forbidden row t) rows) h in
          or_from (forbidden row s) (list_any (λ row. forbidden row s) rows) (here row p.0) (less rows p.1)
