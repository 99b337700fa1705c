use Rattle.std.proofs.Common.{◌∙◌, length-set, arith}
use Rattle.std.proofs.Math.Logic.{∥∥₁_elim, ∥∥₁_prop}
use Rattle.sets.proofs.Tables.{clean_set}
use Rattle.sets.proofs.table.Table.push_or.Goals as goal

pub invariant_of-self : goal.invariant_of-self
invariant_of-self g c =
    let old = c.args.self.now in
    record {
      few = omega arith;
      whole = length-set old.items old.count c.args.item ∙ old.whole;
      clean = ∥∥₁_elim old.clean ∥∥₁_prop (λ rest. ∣ clean_set g.row.N old.count old.items g.T.Blank.blank c.args.item rest ∣₁);
    }
