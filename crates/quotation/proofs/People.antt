-- A proposal is taken by the first person of the name, or by somebody new, and by nobody else.
use Rattle.std.proofs.Common.{◌≡◌, ℕ, List, [], ◌∷◌, ◌++◌, length, get_or, set, string_bytes, refl, subst, inl, inr}
use Rattle.sets.specs.Sets.{mask}
use Rattle.quotation.specs.People.{Found, Nobody, Proposed, Takes}
use Rattle.quotation.specs.declared.act.Act.{Act}
use Rattle.quotation.specs.declared.person.Person.{Person}
use Rattle.quotation.specs.Studio.{Verdict}
use Rattle.std.proofs.lemmas.List.Elements.{at_read}

module _ (name : List ℕ) (act : Act) (people slice : List Person) (same : slice ≡ people) (v : Verdict) (p q : Person) where
  pub known_takes : (i : ℕ) → Found name slice i → p ≡ get_or people i p → Takes act (mask 16 p.done) v q → q.name ≡ p.name → Proposed name act people v (set people i q)
  known_takes i found at takes named =
      let here = subst (λ (xs : List Person). Found name xs i) same found in
      inl (i, q, here, refl, at_read people (λ x. Takes act (mask 16 x.done) v q × (q.name ≡ x.name)) i p here.0 at (takes, named))

  pub new_takes : (after : List Person) → Nobody name slice (length slice) → after ≡ people ++ q ∷ [] → mask 16 p.done ≡ 0 → Takes act (mask 16 p.done) v q → string_bytes q.name ≡ name → Proposed name act people v after
  new_takes after nobody pushed none takes named =
      inr (q, subst (λ (xs : List Person). Nobody name xs (length xs)) same nobody, pushed, subst (λ (done : ℕ). Takes act done v q) none takes, named)
