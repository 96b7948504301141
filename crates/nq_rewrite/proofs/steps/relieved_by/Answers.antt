use Rattle.nq_bank.specs.Content.{terms_at}
use Rattle.nq_reduce.proofs.HeldLemmas.{held_known}
use Rattle.nq_rewrite.proofs.steps.relieved_by.Goals as goal

pub returns-then-before-clause-held : goal.returns-then-before-clause-held
returns-then-before-clause-held c = held_known c.args.history.now c.args.work.now c.known_before.new.work (terms_at c.args.work.now.bank c.args.assumed.now) c.args.t c.in_ok-before.before c.known_before.ensures.grows c.requires.can.stands c.requires.can.term c.if-before.true c.in_ok-before.ensures.known
