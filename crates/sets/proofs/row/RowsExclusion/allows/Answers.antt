use Rattle.std.proofs.Common.{◌≡◌, not, ap, rules, tests}
use Rattle.std.specs.List.{list_any}
use Rattle.std.proofs.lemmas.Iterator.{YieldsList-from_slice}
use Rattle.std.proofs.lemmas.Iterator.Search.{any_from_yields_List}
use Rattle.sets.specs.RowTables.{rows_of}
use Rattle.sets.specs.Sets.{mask}
use Rattle.sets.proofs.Rows.{walked}
use Rattle.sets.proofs.row.RowsExclusion.allows.Given.{Over}
use Rattle.sets.proofs.row.RowsExclusion.allows.Goals as goal

-- what the call of `any` answers
answered : (g : Over) (c : goal.After-any g) → not c.any.result ≡ not (list_any (λ row. g.R.Row.forbidden row (mask g.K.Kind.COUNT c.args.set)) (rows_of c.args.self.now))
answered g c =
    ap not (any_from_yields_List (λ row. g.R.Row.forbidden row (mask g.K.Kind.COUNT c.args.set)) _ _ c.any.result c.any.ensures.ran (YieldsList-from_slice (rows_of c.args.self.now) cc) (λ x b q k. search (rules, tests)))

pub returns-clause-answer : goal.returns-clause-answer
returns-clause-answer g c = answered g c

pub returns-clause-exact : goal.returns-clause-exact
returns-clause-exact g c =
    let s = mask g.K.Kind.COUNT c.args.set in
    walked (λ row. g.R.Row.forbidden row s) (λ row. g.R.Row.Forbids row s) (λ row. g.met.R.Row.decided row s) (rows_of c.args.self.now) (not c.any.result) (answered g c)
