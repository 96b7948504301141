use Rattle.nq_bank.proofs.Growth.{IsNamed-grown}
use Rattle.nq_kernel.proofs.GrowingLemmas.{WorkGrows-trans}
use Rattle.nq_lines.proofs.TermLemmas.{term_grown}
use Rattle.nq_types.proofs.TypeLemmas.{ready_grown}
use Rattle.nq_types.proofs.functions.given_line.Goals as goal

pub prescribed-requires-clause-ready : goal.prescribed-requires-clause-ready
prescribed-requires-clause-ready c = ready_grown c.args.history.now c.args.work.now c.number_line.new.work c.requires.stands c.number_line.ensures.grows c.requires.ready

pub prescribed-requires-clause-function : goal.prescribed-requires-clause-function
prescribed-requires-clause-function c = IsNamed-grown c.args.work.now.bank c.number_line.new.work.bank c.args.f c.number_line.ensures.grows.bank c.requires.function

pub prescribed-requires-clause-term : goal.prescribed-requires-clause-term
prescribed-requires-clause-term c = term_grown c.args.history.now c.args.work.now c.number_line.new.work c.args.t c.requires.stands c.number_line.ensures.grows c.requires.term

pub returns-in-None-clause-grows : goal.returns-in-None-clause-grows
returns-in-None-clause-grows c = (WorkGrows-trans c.args.history.now c.args.work.now c.number_line.new.work c.prescribed.new.work c.number_line.ensures.grows c.prescribed.ensures.grows)
