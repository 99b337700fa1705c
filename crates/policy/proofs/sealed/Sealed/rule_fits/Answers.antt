use Rattle.std.proofs.Common.{◌≡◌, ◌↔◌, IsTrue, Bool, true, false, List, length, MatchBool, refl, ap, subst, ◌∙◌, rules, tests}
use Rattle.std.specs.List.{AllWithin}
use Rattle.std.proofs.lemmas.Bool.{false≢true}
use Rattle.std.proofs.lemmas.Iterator.{YieldsList-from_slice, cases_from_any}
use Rattle.std.proofs.lemmas.List.Folds.{none_from_all_within}
use Rattle.policy.specs.Policies.{Policy}
use Rattle.policy.specs.Rules.{Fits}
use Rattle.policy.specs.declared.rule.Rule.{Rule}
use Rattle.policy.proofs.sealed.Sealed.rule_fits.Goals as goal
use Rattle.sets.specs.Rows.{SomeRow}

found : (P : Rule → Type 0) (rules : List Rule) (r : Bool) → MatchBool r (SomeRow P rules) (AllWithin (λ rule. P rule → ⊥) rules 0 (length rules)) → IsTrue r ↔ SomeRow P rules
found P rules true some = (λ _. some, λ _. refl)
found P rules false none = (λ e. absurd (false≢true e), λ some. absurd (none_from_all_within P rules none some))

pub returns-clause-answer : goal.returns-clause-answer
returns-clause-answer c =
    let P : Rule → Type 0 = Fits c.args.self.now c.args.link in
    let same : c.as_slice.result.now ≡ c.args.self.now.rules = c.as_slice.ensures.items ∙ ap (λ (p : Policy). p.rules) c.self.view_is in
    let told = cases_from_any _ _ _ P (λ rule. P rule → ⊥) c.any.ensures.ran (YieldsList-from_slice c.as_slice.result.now cc) (λ x q k. search (rules, tests)) (λ x q k. search (rules, tests)) in
    subst (λ (xs : List Rule). IsTrue c.any.result ↔ SomeRow P xs) same (found P c.as_slice.result.now c.any.result told)
