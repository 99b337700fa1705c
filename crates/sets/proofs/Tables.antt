-- The places behind a table's items stay blank when an item is added.
use Rattle.std.specs.Prelude.{◌≡◌, ℕ, ◌+◌, ◌-◌, List, drop, replicate, slice_set}
use Rattle.std.proofs.Common.{sym, ap, ◌∙◌, arith}
use Rattle.std.proofs.lemmas.List.{drop-drop, drop-replicate, drop-set-lt}

pub clean_set : {X : Type 0} (n c : ℕ) (items : List X) (blank item : X) → drop c items ≡ replicate (n - c) blank → drop (c + 1) (slice_set items c item) ≡ replicate (n - (c + 1)) blank
clean_set n c items blank item u =
    let less : n - c - 1 ≡ n - (c + 1) = omega arith in
    drop-set-lt (c + 1) items c item (omega arith) ∙ sym (drop-drop 1 c items) ∙ ap (drop 1) u ∙ drop-replicate 1 (n - c) blank ∙ ap (λ m. replicate m blank) less
