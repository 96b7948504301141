use Rattle.nq_kernel.proofs.GrowingLemmas.{WorkGrows-trans}
use Rattle.nq_lines.proofs.TermLemmas.{term_grown}
use Rattle.nq_rewrite.proofs.binding.left_instance.Goals as goal

pub matched_fact-requires-clause-pattern : goal.matched_fact-requires-clause-pattern
matched_fact-requires-clause-pattern c =
    term_grown c.args.history.now c.args.work.now c.event_fact.new.work c.args.left c.requires.stands c.event_fact.ensures.grows c.requires.left

pub matched_fact-requires-clause-term : goal.matched_fact-requires-clause-term
matched_fact-requires-clause-term c =
    term_grown c.args.history.now c.args.work.now c.event_fact.new.work c.args.t c.requires.stands c.event_fact.ensures.grows c.requires.term

pub returns-in-Some-clause-grows : goal.returns-in-Some-clause-grows
returns-in-Some-clause-grows c = WorkGrows-trans c.args.history.now c.args.work.now c.event_fact.new.work c.matched_fact.new.work c.event_fact.ensures.grows c.matched_fact.ensures.grows
