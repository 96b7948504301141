use Rattle.nq_kernel.proofs.GrowingLemmas.{WorkGrows-refl}
use Rattle.nq_reduce.proofs.RewritingLemmas.{back_same, back_by}
use Rattle.nq_reduce.proofs.joining.back.Goals as goal

pub returns-in-None-clause-ok : goal.returns-in-None-clause-ok
returns-in-None-clause-ok c = back_same c.args.history.now c.args.work.now c.args.assumed.now c.args.t c.args.new c.requires.can c.requires.new c.in-None.is

pub returns-in-None-clause-grows : goal.returns-in-None-clause-grows
returns-in-None-clause-grows c = WorkGrows-refl c.args.history.now c.args.work.now c.requires.can.stands

pub returns-in_ok-line-in-Some-clause-ok : goal.returns-in_ok-line-in-Some-clause-ok
returns-in_ok-line-in-Some-clause-ok c = back_by c.args.history.now c.args.work.now c.symmetric.new.work c.args.assumed.now c.args.t c.args.new c.in-Some.n c.in_ok-line-in-Some.line c.symmetric.ensures.grows c.requires.can c.requires.new c.in-Some.is c.in_ok-line-in-Some.ensures.line
