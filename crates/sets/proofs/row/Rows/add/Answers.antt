use Rattle.std.proofs.Common.{◌≡◌, None, rules}
use Rattle.sets.proofs.Rows.{same_rows, sound_added}
use Rattle.sets.proofs.row.Rows.add.Goals as goal

pub returns : goal.returns
returns g c =
    let sound : g.R.Entry.fault g.K.Kind.COUNT c.args.row ≡ None = search rules in
    sound_added _ _ _ c.push_or.result sound c.push_or.ensures same_rows
