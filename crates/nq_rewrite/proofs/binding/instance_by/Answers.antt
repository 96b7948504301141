use Rattle.nq_bank.proofs.Growth.{IsNamed-grown}
use Rattle.nq_kernel.specs.declared.work.Work.{Work}
use Rattle.nq_kernel.specs.Growing.{WorkGrows}
use Rattle.nq_kernel.proofs.GrowingLemmas.{WorkGrows-trans}
use Rattle.nq_lines.proofs.FactLemmas.{own_terms_grown}
use Rattle.nq_lines.proofs.TermLemmas.{term_grown}
use Rattle.nq_rewrite.proofs.binding.instance_by.Goals as goal

pub equate-requires-2-clause-left : goal.equate-requires-2-clause-left
equate-requires-2-clause-left c =
    term_grown c.args.history.now c.args.work.now c.equate.new.work c.args.t c.requires.stands c.equate.ensures.grows c.requires.term

pub equate-requires-2-clause-right : goal.equate-requires-2-clause-right
equate-requires-2-clause-right c =
    term_grown c.args.history.now c.args.work.now c.equate.new.work c.args.a c.requires.stands c.equate.ensures.grows c.requires.assumption

pub returns-in_err-target-clause-grows : goal.returns-in_err-target-clause-grows
returns-in_err-target-clause-grows c =
    let h = c.args.history.now in
    let w0 : Work = c.args.work.now in
    let w1 : Work = c.equate.new.work in
    let w2 : Work = c.equate-2.new.work in
    let g02 : WorkGrows h w0 w2 = WorkGrows-trans h w0 w1 w2 c.equate.ensures.grows c.equate-2.ensures.grows in
    g02

pub event_fact-requires-clause-ready : goal.event_fact-requires-clause-ready
event_fact-requires-clause-ready c =
    let h = c.args.history.now in
    let w0 : Work = c.args.work.now in
    let w1 : Work = c.equate.new.work in
    let w2 : Work = c.equate-2.new.work in
    let g02 : WorkGrows h w0 w2 = WorkGrows-trans h w0 w1 w2 c.equate.ensures.grows c.equate-2.ensures.grows in
    own_terms_grown h w0 w2 g02 c.requires.stands c.requires.ready

pub event_fact-requires-clause-name : goal.event_fact-requires-clause-name
event_fact-requires-clause-name c =
    let h = c.args.history.now in
    let w0 : Work = c.args.work.now in
    let w1 : Work = c.equate.new.work in
    let w2 : Work = c.equate-2.new.work in
    let g02 : WorkGrows h w0 w2 = WorkGrows-trans h w0 w1 w2 c.equate.ensures.grows c.equate-2.ensures.grows in
    IsNamed-grown w0.bank w2.bank c.args.name g02.bank c.requires.name

pub returns-in_err-fact-clause-grows : goal.returns-in_err-fact-clause-grows
returns-in_err-fact-clause-grows c =
    let h = c.args.history.now in
    let w0 : Work = c.args.work.now in
    let w1 : Work = c.equate.new.work in
    let w2 : Work = c.equate-2.new.work in
    let g02 : WorkGrows h w0 w2 = WorkGrows-trans h w0 w1 w2 c.equate.ensures.grows c.equate-2.ensures.grows in
    WorkGrows-trans h w0 w2 c.event_fact.new.work g02 c.event_fact.ensures.grows

pub matched_fact-requires-clause-pattern : goal.matched_fact-requires-clause-pattern
matched_fact-requires-clause-pattern c =
    let h = c.args.history.now in
    let w0 : Work = c.args.work.now in
    let w1 : Work = c.equate.new.work in
    let w2 : Work = c.equate-2.new.work in
    let g02 : WorkGrows h w0 w2 = WorkGrows-trans h w0 w1 w2 c.equate.ensures.grows c.equate-2.ensures.grows in
    let w3 : Work = c.event_fact.new.work in
    let g03 : WorkGrows h w0 w3 = WorkGrows-trans h w0 w2 w3 g02 c.event_fact.ensures.grows in
    term_grown h w1 w3 c.in_ok-pattern.pattern c.equate.ensures.grows.stands (WorkGrows-trans h w1 w2 w3 c.equate-2.ensures.grows c.event_fact.ensures.grows) c.in_ok-pattern.ensures.over

pub matched_fact-requires-clause-term : goal.matched_fact-requires-clause-term
matched_fact-requires-clause-term c =
    let h = c.args.history.now in
    let w0 : Work = c.args.work.now in
    let w1 : Work = c.equate.new.work in
    let w2 : Work = c.equate-2.new.work in
    let g02 : WorkGrows h w0 w2 = WorkGrows-trans h w0 w1 w2 c.equate.ensures.grows c.equate-2.ensures.grows in
    let w3 : Work = c.event_fact.new.work in
    let g03 : WorkGrows h w0 w3 = WorkGrows-trans h w0 w2 w3 g02 c.event_fact.ensures.grows in
    term_grown h w2 w3 c.in_ok-target.target c.equate-2.ensures.grows.stands c.event_fact.ensures.grows c.in_ok-target.ensures.over

pub returns-in-Some-clause-grows : goal.returns-in-Some-clause-grows
returns-in-Some-clause-grows c =
    let h = c.args.history.now in
    let w0 : Work = c.args.work.now in
    let w1 : Work = c.equate.new.work in
    let w2 : Work = c.equate-2.new.work in
    let g02 : WorkGrows h w0 w2 = WorkGrows-trans h w0 w1 w2 c.equate.ensures.grows c.equate-2.ensures.grows in
    let w3 : Work = c.event_fact.new.work in
    let g03 : WorkGrows h w0 w3 = WorkGrows-trans h w0 w2 w3 g02 c.event_fact.ensures.grows in
    WorkGrows-trans h w0 w3 c.matched_fact.new.work g03 c.matched_fact.ensures.grows

pub returns-in-None-clause-grows : goal.returns-in-None-clause-grows
returns-in-None-clause-grows c =
    let h = c.args.history.now in
    let w0 : Work = c.args.work.now in
    let w1 : Work = c.equate.new.work in
    let w2 : Work = c.equate-2.new.work in
    let g02 : WorkGrows h w0 w2 = WorkGrows-trans h w0 w1 w2 c.equate.ensures.grows c.equate-2.ensures.grows in
    let w3 : Work = c.event_fact.new.work in
    let g03 : WorkGrows h w0 w3 = WorkGrows-trans h w0 w2 w3 g02 c.event_fact.ensures.grows in
    g03
