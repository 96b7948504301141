use Rattle.nq_kernel.proofs.GrowingLemmas.{WorkGrows-trans}
use Rattle.nq_lines.proofs.TermLemmas.{term_grown}
use Rattle.nq_schemes.proofs.OrdinalLemmas.{same_shown}
use Rattle.nq_schemes.proofs.instances.same_fact.Goals as goal

pub reflexive-requires-clause-term : goal.reflexive-requires-clause-term
reflexive-requires-clause-term c = term_grown c.args.history.now c.args.work.now c.equate.new.work c.args.t c.requires.stands c.equate.ensures.grows c.requires.term

pub returns-in_err-line-clause-grows : goal.returns-in_err-line-clause-grows
returns-in_err-line-clause-grows c = WorkGrows-trans c.args.history.now c.args.work.now c.equate.new.work c.reflexive.new.work c.equate.ensures.grows c.reflexive.ensures.grows

pub returns-clause-grows : goal.returns-clause-grows
returns-clause-grows c = WorkGrows-trans c.args.history.now c.args.work.now c.equate.new.work c.reflexive.new.work c.equate.ensures.grows c.reflexive.ensures.grows

pub returns-clause-fact : goal.returns-clause-fact
returns-clause-fact c = same_shown c.args.history.now c.args.work.now c.equate.new.work c.reflexive.new.work c.args.t c.in_ok-term.term c.in_ok-line.line c.equate.ensures.grows c.reflexive.ensures.grows c.requires.term c.in_ok-term.ensures.over c.in_ok-term.ensures.equation c.in_ok-line.ensures.line
