use Rattle.std.proofs.Common.{sym, subst}
use Rattle.nq_kernel.proofs.GrowingLemmas.{WorkGrows-refl, WorkGrows-trans}
use Rattle.nq_lines.specs.Instances.{ArePairsIn}
use Rattle.nq_lines.proofs.InstanceLemmas.{pairs_in_grown}
use Rattle.nq_lines.proofs.TermLemmas.{term_grown}
use Rattle.nq_schemes.proofs.instances.instance_of.Goals as goal

pub returns-in_err-copy-clause-grows : goal.returns-in_err-copy-clause-grows
returns-in_err-copy-clause-grows c = WorkGrows-refl c.args.history.now c.args.work.now c.requires.stands

pub side_of-requires-clause-pairs : goal.side_of-requires-clause-pairs
side_of-requires-clause-pairs c = subst (ArePairsIn c.args.history.now c.same_fact.new.work) (sym c.in_ok-copy.ensures.copy) (pairs_in_grown c.args.history.now c.args.work.now c.same_fact.new.work c.args.pairs.now c.requires.stands c.same_fact.ensures.grows c.requires.pairs)

pub returns-in_err-found-clause-grows : goal.returns-in_err-found-clause-grows
returns-in_err-found-clause-grows c = WorkGrows-trans c.args.history.now c.args.work.now c.same_fact.new.work c.side_of.new.work c.same_fact.ensures.grows c.side_of.ensures.grows

pub returns-in-Some-clause-grows : goal.returns-in-Some-clause-grows
returns-in-Some-clause-grows c = WorkGrows-trans c.args.history.now c.args.work.now c.same_fact.new.work c.side_of.new.work c.same_fact.ensures.grows c.side_of.ensures.grows

pub returns-in-None-clause-grows : goal.returns-in-None-clause-grows
returns-in-None-clause-grows c = WorkGrows-trans c.args.history.now c.args.work.now c.same_fact.new.work c.side_of.new.work c.same_fact.ensures.grows c.side_of.ensures.grows

pub returns-in-None-clause-term : goal.returns-in-None-clause-term
returns-in-None-clause-term c = term_grown c.args.history.now c.args.work.now c.side_of.new.work c.args.t c.requires.stands (WorkGrows-trans c.args.history.now c.args.work.now c.same_fact.new.work c.side_of.new.work c.same_fact.ensures.grows c.side_of.ensures.grows) c.requires.term
