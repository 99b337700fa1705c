use Rattle.std.proofs.Common.{arith}
use Rattle.sets.proofs.Words.{next_found}
use Rattle.sets.proofs.word.next_place.Goals as goal

pub returns : goal.returns
returns g c = next_found g.K.Kind.COUNT c.args.word c.args.place c.min.result g.K.Kind.narrow (omega arith) (omega arith)
