use Rattle.std.proofs.Common.{subst}
use Rattle.std.specs.Prelude.{All}
use Rattle.nq_kernel.proofs.GrowingLemmas.{WorkGrows-trans}
use Rattle.nq_lines.proofs.TermLemmas.{term_grown}
use Rattle.nq_elim.proofs.GrownLemmas.{terms_grown}
use Rattle.nq_elim.proofs.equating.equation_of.Goals as goal

pub fact_beside-requires-clause-goal : goal.fact_beside-requires-clause-goal
fact_beside-requires-clause-goal c = terms_grown c.args.history.now c.args.work.now c.deny.new.work c.requires.stands (WorkGrows-trans c.args.history.now c.args.work.now c.equate.new.work c.deny.new.work c.equate.ensures.grows c.deny.ensures.grows) c.args.goal.now c.requires.goal

pub fact_beside-requires-clause-term : goal.fact_beside-requires-clause-term
fact_beside-requires-clause-term c = term_grown c.args.history.now c.equate.new.work c.deny.new.work c.in_ok-t.t c.equate.ensures.grows.stands c.deny.ensures.grows c.in_ok-t.ensures.over

pub returns-in_err-denied-clause-grows : goal.returns-in_err-denied-clause-grows
returns-in_err-denied-clause-grows c = WorkGrows-trans c.args.history.now c.args.work.now c.equate.new.work c.deny.new.work c.equate.ensures.grows c.deny.ensures.grows

pub returns-then-has_id-clause-grows : goal.returns-then-has_id-clause-grows
returns-then-has_id-clause-grows c = WorkGrows-trans c.args.history.now c.args.work.now c.equate.new.work c.deny.new.work c.equate.ensures.grows c.deny.ensures.grows

pub returns-clause-grows : goal.returns-clause-grows
returns-clause-grows c = WorkGrows-trans c.args.history.now c.args.work.now c.deny.new.work c.fact_beside.new.work (WorkGrows-trans c.args.history.now c.args.work.now c.equate.new.work c.deny.new.work c.equate.ensures.grows c.deny.ensures.grows) c.fact_beside.ensures.grows

pub returns-clause-fact : goal.returns-clause-fact
returns-clause-fact c = c.fact_beside.ensures.fact
