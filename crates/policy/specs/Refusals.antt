-- The numbers and the words of a draft's refusals, and how a refused mask or row becomes one of them. Assumes nothing.
use Rattle.std.specs.Prelude.{ℕ, List, codes}
use Rattle.policy.specs.declared.refusal.DraftRefusal.{DraftRefusal}
use Rattle.policy.specs.declared.refusal.DraftRefusal.TheVariants.{OutOfRange, TableFull, NotLower, EqualPair}
use Rattle.sets.specs.declared.refusal.MaskRefusal.{MaskRefusal}
use Rattle.sets.specs.declared.refusal.MaskRefusal.TheVariants as masks
use Rattle.sets.specs.declared.refusal.RowRefusal.{RowRefusal}
use Rattle.sets.specs.declared.refusal.RowRefusal.TheVariants as rows

-- the number of each case
abbrev pub draft_number : DraftRefusal → ℕ
draft_number OutOfRange = 1
draft_number TableFull = 28
draft_number NotLower = 29
draft_number EqualPair = 30

-- what each case says to people
abbrev pub draft_words : DraftRefusal → List ℕ
draft_words OutOfRange = codes "a number is outside its range or not in the policy"
draft_words TableFull = codes "the table is full"
draft_words NotLower = codes "the junior role is not lower than the senior one"
draft_words EqualPair = codes "both members of the pair are the same"

-- a refused mask and a refused row keep their number
abbrev pub mask_passed_on : MaskRefusal → DraftRefusal
mask_passed_on masks.OutsideKind = OutOfRange

abbrev pub row_passed_on : RowRefusal → DraftRefusal
row_passed_on rows.OutOfRange = OutOfRange
row_passed_on rows.TableFull = TableFull
row_passed_on rows.EqualPair = EqualPair
