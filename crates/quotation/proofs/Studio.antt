-- The studio's rules hold of somebody who has done nothing.
use Rattle.std.proofs.Common.{◌≡◌, ℕ, sym, refl, subst}
use lib.Count.{ones}
use Rattle.sets.specs.Masks.{has}
use Rattle.quotation.specs.Studio.{Lawful}

none_kept : Lawful 0
unfolding has ones
none_kept = refl

pub nothing_kept : (acts : ℕ) → acts ≡ 0 → Lawful acts
nothing_kept acts e = subst Lawful (sym e) none_kept
