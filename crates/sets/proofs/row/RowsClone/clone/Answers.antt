use Rattle.std.proofs.Common.{refl}
use Rattle.sets.proofs.Rows.{same_rows}
use Rattle.sets.proofs.row.RowsClone.clone.Goals as goal

pub returns : goal.returns
returns g c = record { cases = same_rows refl }
