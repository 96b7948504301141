use Rattle.nq_kernel.proofs.GrowingLemmas.{WorkGrows-trans}
use Rattle.nq_lines.proofs.TermLemmas.{term_grown}
use Rattle.nq_types.proofs.GuessLemmas.{guess_grown}
use Rattle.nq_types.proofs.guessing.outer_line.Goals as goal

pub known_line-requires-clause-can : goal.known_line-requires-clause-can
known_line-requires-clause-can c = (guess_grown c.args.history.now c.args.work.now c.exact_line.new.work c.args.assumed.now c.exact_line.ensures.grows c.requires.can)

pub known_line-requires-clause-term : goal.known_line-requires-clause-term
known_line-requires-clause-term c = (term_grown c.args.history.now c.args.work.now c.exact_line.new.work c.args.t c.requires.can.stands c.exact_line.ensures.grows c.requires.term)

pub returns-in-None-clause-grows : goal.returns-in-None-clause-grows
returns-in-None-clause-grows c = (WorkGrows-trans c.args.history.now c.args.work.now c.exact_line.new.work c.known_line.new.work c.exact_line.ensures.grows c.known_line.ensures.grows)
