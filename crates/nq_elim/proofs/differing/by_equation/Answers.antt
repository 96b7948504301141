use Rattle.std.proofs.Common.{◌∙◌, List, sym, subst}
use Rattle.std.specs.Prelude.{All, IfSome}
use Rattle.nq_bank.specs.declared.node.TermId.{TermId}
use Rattle.nq_bank.specs.Content.{terms_at}
use Rattle.nq_kernel.proofs.GrowingLemmas.{WorkGrows-refl, WorkGrows-trans}
use Rattle.nq_lines.proofs.FactLemmas.{own_terms_grown}
use Rattle.nq_elim.proofs.GrownLemmas.{terms_grown}
use Rattle.nq_lines.specs.Lines.{IsTermIn}
use Rattle.nq_elim.specs.Reasons.{FactHolds}
use Rattle.nq_elim.proofs.ListLemmas.{all_append}
use Rattle.nq_elim.proofs.differing.by_equation.Goals as goal

pub returns-in_err-rest-clause-grows : goal.returns-in_err-rest-clause-grows
returns-in_err-rest-clause-grows c = WorkGrows-refl c.args.history.now c.args.work.now c.requires.stands

pub fact_beside-requires-clause-goal : goal.fact_beside-requires-clause-goal
fact_beside-requires-clause-goal c =
    let P : TermId → Type 0 = IsTermIn c.args.history.now c.args.work.now in
    subst (All P) (sym (c.as_slice.ensures.value ∙ c.in_ok-rest.ensures.ok)) (all_append P c.args.more.now c.args.goal.now c.requires.more c.requires.goal)

pub by_fact-requires-clause-ready : goal.by_fact-requires-clause-ready
by_fact-requires-clause-ready c = own_terms_grown c.args.history.now c.args.work.now c.fact_beside.new.work c.fact_beside.ensures.grows c.requires.stands c.requires.ready

pub by_fact-requires-clause-goal : goal.by_fact-requires-clause-goal
by_fact-requires-clause-goal c = terms_grown c.args.history.now c.args.work.now c.fact_beside.new.work c.requires.stands c.fact_beside.ensures.grows c.args.goal.now c.requires.goal

pub by_fact-requires-clause-more : goal.by_fact-requires-clause-more
by_fact-requires-clause-more c = terms_grown c.args.history.now c.args.work.now c.fact_beside.new.work c.requires.stands c.fact_beside.ensures.grows c.args.more.now c.requires.more

pub by_fact-requires-clause-fact : goal.by_fact-requires-clause-fact
by_fact-requires-clause-fact c =
    let h = c.args.history.now in
    let new = c.fact_beside.new.work in
    let there = subst (λ o. IfSome o (FactHolds h new (terms_at new.bank c.as_slice.result.now))) c.in-Some.is c.in_ok-fact.ensures.fact in
    subst (λ (ids : List TermId). FactHolds h new (terms_at new.bank ids) c.in-Some.fact) (c.as_slice.ensures.value ∙ c.in_ok-rest.ensures.ok) there

pub returns-in-Some-clause-grows : goal.returns-in-Some-clause-grows
returns-in-Some-clause-grows c = WorkGrows-trans c.args.history.now c.args.work.now c.fact_beside.new.work c.by_fact.new.work c.fact_beside.ensures.grows c.by_fact.ensures.grows
