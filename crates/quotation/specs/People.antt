-- Who stands where among the people of a quotation, and what a proposal does to them. Assumes nothing.
use Rattle.std.specs.Prelude.{◌≡◌, ℕ, ◌^◌, ◌<◌, if◌then◌else◌, ◌≢◌, ◌⊎◌, List, [], ◌∷◌, ◌++◌, length, is_ok, string_bytes, bit_or, slice_set}
use Rattle.sets.specs.Sets.{mask}
use Rattle.quotation.specs.Studio.{Verdict, act_number, judged}
use Rattle.quotation.specs.declared.act.Act.{Act}
use Rattle.quotation.specs.declared.person.Person.{Person}
use Rattle.std.specs.List.{HoldsAt, AllWithin}

-- none of the first n people has the name
abbrev pub Nobody : List ℕ → List Person → ℕ → Type 0
Nobody name people n = AllWithin (λ p. string_bytes p.name ≢ name) people 0 n

-- the first person of the name stands at place i
abbrev pub Found : List ℕ → List Person → ℕ → Type 0
Found name people i = (i < length people) × HoldsAt (λ p. string_bytes p.name ≡ name) people i × Nobody name people i

-- somebody who had done some acts proposes one: the verdict is on all of them together, and the act is done where it is allowed
abbrev pub Takes : Act → ℕ → Verdict → Person → Type 0
Takes act done v after =
    (v ≡ judged (bit_or done (2 ^ act_number act))) × (mask 16 after.done ≡ (if is_ok v then bit_or done (2 ^ act_number act) else done))

-- a proposal is taken by the first person of that name, or by somebody new who stands behind all others; nobody else changes
abbrev pub Proposed : List ℕ → Act → List Person → Verdict → List Person → Type 0
Proposed name act people v after =
    ((i : ℕ) × (q : Person) × Found name people i × (after ≡ slice_set people i q) × HoldsAt (λ p. Takes act (mask 16 p.done) v q × (q.name ≡ p.name)) people i)
    ⊎ ((q : Person) × Nobody name people (length people) × (after ≡ people ++ q ∷ []) × Takes act 0 v q × (string_bytes q.name ≡ name))
