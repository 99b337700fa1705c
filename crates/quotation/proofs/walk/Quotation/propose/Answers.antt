use Rattle.std.proofs.Common.{List, set, string_bytes, ap, subst, ◌∙◌}
use Rattle.quotation.specs.People.{Proposed}
use Rattle.quotation.specs.declared.person.Person.{Person}
use Rattle.quotation.proofs.People.{known_takes, new_takes}
use Rattle.quotation.proofs.walk.Quotation.propose.Goals as goal

pub returns-in-Some : goal.returns-in-Some
returns-in-Some c =
    let people = c.self.inside.people.items in
    let told = known_takes c.args.proposal.name.now c.args.proposal.act people c.deref.result.now c.deref.ensures.value
    c.propose.result c.index_mut.result.now c.propose.new.self c.in-Some.i
    c.in-Some.ensures c.index_mut.ensures.value (c.propose.ensures.verdict, c.propose.ensures.done) c.propose.ensures.name in
    subst (λ (before : List Person). Proposed c.args.proposal.name.now c.args.proposal.act before c.propose.result (set people c.in-Some.i c.propose.new.self)) c.self.view_is told

pub returns : goal.returns
returns c =
    let people = c.self.inside.people.items in
    let told = new_takes c.args.proposal.name.now c.args.proposal.act people c.deref.result.now c.deref.ensures.value
    c.propose-verdict.result c.new-person.result c.propose-verdict.new.self c.push.new.self.items
    c.in_default.ensures c.in_ok-push.ensures.items c.new-person.ensures.done
    (c.propose-verdict.ensures.verdict, c.propose-verdict.ensures.done)
    (ap string_bytes (c.propose-verdict.ensures.name ∙ c.new-person.ensures.name) ∙ c.in_ok-from_str.ensures.ok) in
    subst (λ (before : List Person). Proposed c.args.proposal.name.now c.args.proposal.act before c.propose-verdict.result c.push.new.self.items) c.self.view_is told
