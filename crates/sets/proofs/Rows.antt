-- Tables of rows: what it means that some row passes a test, for every kind of row.
use Rattle.std.proofs.Math.Bool.{Bool-set}
use mathlib.Core.HLevel.{is_prop→PathP}
use Rattle.std.specs.Prelude.{◌≡◌, ℕ, ◌<◌, ◌≤◌, Bool, false, not, List, None, Ok, Err, Option, Result, MatchResult, Decides, refl}
use Rattle.std.proofs.Common.{sym, ap, ◌∙◌}
use Rattle.std.specs.List.{list_any}
use Rattle.sets.specs.Rows.{Adds, NoExactly, SomeRow, is_fault, row_refusal}
use Rattle.sets.specs.Tables.{items_of}
use Rattle.sets.specs.declared.kind.Kind.{Ghosts as Kinds}
use Rattle.sets.specs.declared.row.Entry.{Ghosts as Entries}
use Rattle.sets.specs.declared.refusal.RowRefusal.{RowRefusal}
use Rattle.sets.specs.declared.refusal.RowRefusal.TheVariants.{TableFull}
use Rattle.sets.specs.declared.row.Rows.{Rows}
use Rattle.sets.specs.declared.table.Blank.{Ghosts as Blanks}
use Rattle.std.specs.declared.default.Default.{Ghosts as Defaults}
use Rattle.std.proofs.lemmas.Bool.{le-ltb, lt-ltb, not-false}
use Rattle.std.proofs.lemmas.Bool.Decides.{Decides-by_or}

-- an answer that is no exactly where some row passes a test, as a statement
pub walked : {R : Type 0} (test : R → Bool) (P : R → Type 0) → ((row : R) → Decides (test row) (P row)) → (rows : List R) (r : Bool) → r ≡ not (list_any test rows) → NoExactly r (SomeRow P rows)
walked test P each rows r e =
    let d : Decides (list_any test rows) (SomeRow P rows) = Decides-by_or test P (list_any test) each refl (λ _ _. refl) rows in
    (λ f. d.0 (not-false (list_any test rows) (sym e ∙ f)), λ p. e ∙ ap not (d.1 p))

-- tables with the same rows are the same value, whatever proofs their ghost fields hold
pub same_rows : {K R : Type 0} {n : ℕ} {kind : Kinds K} {entry : Entries R} {blank : Blanks R} {default : Defaults R} {a b : Rows K R n kind entry blank default} → a.rows ≡ b.rows → a ≡ b
same_rows {kind = kind} {entry = entry} {a = a} {b = b} e = λ i. record {
  rows = e i;
  kind = record {};
  sound = is_prop→PathP (λ j. list_any (λ row. is_fault (entry.fault kind.COUNT row)) (items_of (e j)) ≡ false) (λ j. Bool-set _ _) a.sound b.sound i;
}

-- a sound row is added where there is room
pub sound_added : {fault : Option RowRefusal} (room held : ℕ) (added : Type 0) {kept unchanged : Type 0} (r : Result (Unit {0}) RowRefusal) → fault ≡ None → MatchResult r (λ _. (held < room) × added) (λ e. (room ≤ held) × (e ≡ TableFull) × kept) → (kept → unchanged) → Adds (row_refusal room held fault) added unchanged r
sound_added room held added (Ok _) sound told same = rw (sound, lt-ltb held room told.0) (refl, told.1)
sound_added room held added (Err e) sound told same = rw (sound, le-ltb held room told.0, told.1) (refl, same told.2)
