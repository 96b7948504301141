use Rattle.nq_bank.specs.Content.{term_at, terms_at}
use Rattle.nq_kernel.proofs.GrowingLemmas.{WorkGrows-refl}
use Rattle.nq_reduce.proofs.RewritingLemmas.{denied_known}
use Rattle.nq_reduce.proofs.knowledge.known_false.Goals as goal

pub opposites-requires-clause-term : goal.opposites-requires-clause-term
opposites-requires-clause-term c = c.in-Some.ensures.over

pub returns-in_ok-line-in-Some-clause-known : goal.returns-in_ok-line-in-Some-clause-known
returns-in_ok-line-in-Some-clause-known c = denied_known c.opposites.new.work (terms_at c.args.work.now.bank c.args.assumed.now) (term_at c.args.work.now.bank c.args.t) (term_at c.args.work.now.bank c.in-Some.a) c.in_ok-line-in-Some.line c.in-Some.ensures.among c.in-Some.ensures.denies c.in_ok-line-in-Some.ensures.line

pub returns-in-None-clause-grows : goal.returns-in-None-clause-grows
returns-in-None-clause-grows c = WorkGrows-refl c.args.history.now c.args.work.now c.requires.can.stands
