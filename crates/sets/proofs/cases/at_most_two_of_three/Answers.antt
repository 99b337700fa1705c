use Rattle.std.proofs.Common.{◌≡◌, true, false, not, List, [], ◌∷◌, ◌++◌, refl, ap, ◌∙◌}
use Rattle.std.specs.Int.Count.{ones}
use Rattle.sets.specs.LimitRows.{some_limit}
use Rattle.sets.specs.RowTables.{rows_of}
use Rattle.sets.specs.declared.limits.Limit.{Limit}
use Rattle.sets.proofs.cases.at_most_two_of_three.Goals as goal

-- the case, computed on the definitions
row : List Limit
row = record { members = 7; most = 2 } ∷ []

two_pass : not (some_limit 11 row) ≡ true
unfolding ones row
two_pass = refl

three_fail : not (some_limit 7 row) ≡ false
unfolding ones row
three_fail = refl

pub returns : goal.returns
unfolding row
returns c =
    let rows : rows_of c.add.new.self ≡ row = c.in_ok-add.ensures.1 ∙ ap (λ xs. xs ++ row) c.new-limits.ensures in
    let two = c.allows.ensures.answer ∙ ap (λ s. not (some_limit s (rows_of c.add.new.self))) c.in_ok-two.ensures.2 ∙ ap (λ xs. not (some_limit 11 xs)) rows ∙ two_pass in
    let three = c.allows-2.ensures.answer ∙ ap (λ s. not (some_limit s (rows_of c.add.new.self))) c.in_ok-three.ensures.2 ∙ ap (λ xs. not (some_limit 7 xs)) rows ∙ three_fail in
    cc
