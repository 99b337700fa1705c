-- The studio's rules for one quotation, as rows, and what they say of one person's acts. Assumes nothing.
use Rattle.std.specs.Prelude.{◌≡◌, ◌≢◌, ℕ, Bool, true, false, List, [], ◌∷◌, Ok, Err, Result, codes, is_ok}
use Rattle.sets.specs.LimitRows.{some_limit}
use Rattle.sets.specs.PairRows.{some_pair}
use Rattle.sets.specs.declared.limits.Limit.{Limit}
use Rattle.sets.specs.declared.pairs.Pair.{Pair}
use Rattle.quotation.specs.declared.act.Act.{Act}
use Rattle.quotation.specs.declared.act.Act.TheVariants.{Price, Check, Release}
use Rattle.quotation.specs.declared.rules.Forbidden.{Forbidden}
use Rattle.quotation.specs.declared.rules.Forbidden.TheVariants.{PriceAndCheck, MoreThanTwo, BothRules}

abbrev pub act_number : Act → ℕ
act_number Price = 0
act_number Check = 1
act_number Release = 2

abbrev pub act_word : Act → List ℕ
act_word Price = codes "price"
act_word Check = codes "check"
act_word Release = codes "release"

-- the word is for no act
abbrev pub NoAct : List ℕ → Type 0
NoAct word = (a : Act) → act_word a ≢ word

-- nobody both prices and checks
abbrev pub studio_pairs : List Pair
studio_pairs = record { first = 0; second = 1 } ∷ []

-- nobody takes more than two of the three acts, whose mask is 7
abbrev pub studio_limits : List Limit
studio_limits = record { members = 7; most = 2 } ∷ []

-- what the rules answer
abbrev pub Verdict : Type 0
Verdict = Result (Unit {0}) Forbidden

-- the verdict, by whether the pair and whether the limit forbids
abbrev pub verdict : Bool → Bool → Verdict
verdict false false = Ok tt
verdict true false = Err PriceAndCheck
verdict false true = Err MoreThanTwo
verdict true true = Err BothRules

-- what the rules say of a person with these acts
abbrev pub judged : ℕ → Verdict
judged acts = verdict (some_pair acts studio_pairs) (some_limit acts studio_limits)

-- the rules hold of a person with these acts
abbrev pub Lawful : ℕ → Type 0
Lawful acts = is_ok (judged acts) ≡ true
