use Rattle.nq_quick.proofs.LineLemmas.{grown_trans}
use Rattle.nq_quick.proofs.InLemmas.{term_in_grown}
use Rattle.nq_quick.proofs.lines.add_either.Goals as goal

pub returns-clause-grows : goal.returns-clause-grows
returns-clause-grows c = grown_trans c.args.history.now c.args.work.now c.deny.new.work c.add_opposites.new.work c.deny.ensures.grows c.add_opposites.ensures.grows

pub add_opposites-requires-clause-over : goal.add_opposites-requires-clause-over
add_opposites-requires-clause-over c = term_in_grown c.args.work.now.bank c.deny.new.work.bank c.args.history.now c.args.t c.deny.ensures.grows.grows.bank c.requires.stands.history c.requires.term c.requires.over
