-- The numbers and the words of the refusals of sets and exclusions, and how a refused mask becomes a refused row. Assumes nothing.
use Rattle.std.specs.Prelude.{ℕ, List, codes}
use Rattle.sets.specs.declared.refusal.MaskRefusal.{MaskRefusal}
use Rattle.sets.specs.declared.refusal.MaskRefusal.TheVariants as masks
use Rattle.sets.specs.declared.refusal.RowRefusal.{RowRefusal}
use Rattle.sets.specs.declared.refusal.RowRefusal.TheVariants as rows

-- the number of each case of a refused mask
abbrev pub mask_number : MaskRefusal → ℕ
mask_number masks.OutsideKind = 1

-- the number of each case of a refused row
abbrev pub row_number : RowRefusal → ℕ
row_number rows.OutOfRange = 1
row_number rows.TableFull = 28
row_number rows.EqualPair = 30

-- a mask refused is a row refused for the same reason
abbrev pub passed_on : MaskRefusal → RowRefusal
passed_on masks.OutsideKind = rows.OutOfRange

-- what each case says to people
abbrev pub row_words : RowRefusal → List ℕ
row_words rows.OutOfRange = codes "a number is outside its range"
row_words rows.TableFull = codes "the table is full"
row_words rows.EqualPair = codes "both members of the pair are the same"
