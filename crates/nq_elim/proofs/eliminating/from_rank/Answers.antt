use Rattle.std.proofs.Common.{get_or}
use Rattle.nq_kernel.proofs.GrowingLemmas.{WorkGrows-refl, WorkGrows-trans}
use Rattle.nq_lines.proofs.FactLemmas.{own_terms_grown}
use Rattle.nq_elim.proofs.GrownLemmas.{terms_grown}
use Rattle.nq_elim.proofs.CandidateLemmas.{candidates_grown}
use Rattle.nq_elim.proofs.eliminating.from_rank.Goals as goal

pub loop-rank-init : goal.loop-rank-init
loop-rank-init c = WorkGrows-refl c.args.history.now c.args.work.now c.requires.stands

pub by_rank-requires-clause-ready : goal.by_rank-requires-clause-ready
by_rank-requires-clause-ready c = own_terms_grown c.args.history.now c.args.work.now c.loop-rank.work c.loop-rank.invariant c.requires.stands c.requires.ready

pub by_rank-requires-clause-goal : goal.by_rank-requires-clause-goal
by_rank-requires-clause-goal c = terms_grown c.args.history.now c.args.work.now c.loop-rank.work c.requires.stands c.loop-rank.invariant c.args.goal.now c.requires.goal

pub by_rank-requires-clause-candidates : goal.by_rank-requires-clause-candidates
by_rank-requires-clause-candidates c = candidates_grown c.args.history.now c.args.work.now c.loop-rank.work c.requires.stands c.loop-rank.invariant c.args.candidates.now c.requires.candidates

pub returns-in_err-found-clause-grows : goal.returns-in_err-found-clause-grows
returns-in_err-found-clause-grows c = WorkGrows-trans c.args.history.now c.args.work.now c.loop-rank.work c.by_rank.new.work c.loop-rank.invariant c.by_rank.ensures.grows

pub returns-in-Some-clause-grows : goal.returns-in-Some-clause-grows
returns-in-Some-clause-grows c = WorkGrows-trans c.args.history.now c.args.work.now c.loop-rank.work c.by_rank.new.work c.loop-rank.invariant c.by_rank.ensures.grows

pub loop-rank-preserved : goal.loop-rank-preserved
loop-rank-preserved c = WorkGrows-trans c.args.history.now c.args.work.now c.loop-rank.work c.by_rank.new.work c.loop-rank.invariant c.by_rank.ensures.grows
