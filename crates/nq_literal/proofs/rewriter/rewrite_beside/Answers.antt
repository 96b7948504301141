use Rattle.nq_kernel.proofs.GrowingLemmas.{WorkGrows-trans}
use Rattle.nq_lines.proofs.FactLemmas.{own_terms_grown}
use Rattle.nq_lines.proofs.TermLemmas.{term_grown}
use Rattle.nq_reduce.proofs.RewritingLemmas.{all_grown}
use Rattle.nq_literal.proofs.TruthLemmas.{ok_before}
use Rattle.nq_literal.proofs.rewriter.rewrite_beside.Goals as goal

pub rewrite_open-requires-clause-ready : goal.rewrite_open-requires-clause-ready
rewrite_open-requires-clause-ready c = own_terms_grown c.args.history.now c.args.work.now c.closed_by_truth.new.work c.closed_by_truth.ensures.grows c.requires.stands c.requires.ready

pub rewrite_open-requires-clause-others : goal.rewrite_open-requires-clause-others
rewrite_open-requires-clause-others c = all_grown c.args.history.now c.args.work.now c.closed_by_truth.new.work c.closed_by_truth.ensures.grows c.args.others.now c.requires.stands c.requires.others

pub rewrite_open-requires-clause-literal : goal.rewrite_open-requires-clause-literal
rewrite_open-requires-clause-literal c = term_grown c.args.history.now c.args.work.now c.closed_by_truth.new.work c.args.literal c.requires.stands c.closed_by_truth.ensures.grows c.requires.literal

pub returns-in-None-clause-new : goal.returns-in-None-clause-new
returns-in-None-clause-new c = ok_before c.args.history.now c.args.work.now c.closed_by_truth.new.work c.rewrite_open.new.work c.args.others.now c.args.literal c.rewrite_open.result c.closed_by_truth.ensures.grows c.requires.others c.requires.literal c.rewrite_open.ensures.new

pub returns-in-None-clause-grows : goal.returns-in-None-clause-grows
returns-in-None-clause-grows c = WorkGrows-trans c.args.history.now c.args.work.now c.closed_by_truth.new.work c.rewrite_open.new.work c.closed_by_truth.ensures.grows c.rewrite_open.ensures.grows
