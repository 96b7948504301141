use Rattle.nq_kernel.proofs.GrowingLemmas.{WorkGrows-refl}
use Rattle.nq_bank.specs.Content.{term_at, terms_at}
use Rattle.nq_reduce.proofs.RewritingLemmas.{followed}
use Rattle.nq_reduce.proofs.following.follow_shown.Goals as goal

pub returns-in-None-clause-grows : goal.returns-in-None-clause-grows
returns-in-None-clause-grows c = WorkGrows-refl c.args.history.now c.args.work.now c.requires.can.stands

pub returns-in_ok-n-in-Some-clause-ok : goal.returns-in_ok-n-in-Some-clause-ok
returns-in_ok-n-in-Some-clause-ok c =
    followed c.args.history.now c.args.work.now c.transitive.new.work (terms_at c.args.work.now.bank c.args.assumed.now) (term_at c.args.work.now.bank c.args.t) (term_at c.args.work.now.bank c.args.middle) c.args.second c.args.one c.in-Some.two c.in_ok-n-in-Some.n c.requires.can.stands c.transitive.ensures.grows c.requires.second c.in-Some.is c.requires.first c.in_ok-n-in-Some.ensures.line
