use Rattle.nq_kernel.proofs.GrowingLemmas.{WorkGrows-trans}
use Rattle.nq_lines.proofs.TermLemmas.{term_grown}
use Rattle.nq_types.proofs.numbers.less_line.Goals as goal

pub less_value-requires-clause-term : goal.less_value-requires-clause-term
less_value-requires-clause-term c = term_grown c.args.history.now c.args.work.now c.law_of_call.new.work c.args.t c.requires.stands c.law_of_call.ensures.grows c.requires.term

pub returns-in-Some-clause-grows : goal.returns-in-Some-clause-grows
returns-in-Some-clause-grows c = (WorkGrows-trans c.args.history.now c.args.work.now c.law_of_call.new.work c.less_value.new.work c.law_of_call.ensures.grows c.less_value.ensures.grows)
