use Rattle.nq_bank.specs.Content.{terms_at}
use Rattle.nq_kernel.proofs.GrowingLemmas.{WorkGrows-refl}
use Rattle.nq_reduce.proofs.HeldLemmas.{held_fact}
use Rattle.nq_rewrite.proofs.kinded.kind_of_call.Goals as goal

pub returns-in-Some-clause-held : goal.returns-in-Some-clause-held
returns-in-Some-clause-held c = held_fact c.args.history.now c.kind_fact.new.work (terms_at c.args.work.now.bank c.args.assumed.now) c.kind_fact.result c.kind_fact.ensures.fact

pub returns-in-None-clause-grows : goal.returns-in-None-clause-grows
returns-in-None-clause-grows c = WorkGrows-refl c.args.history.now c.args.work.now c.requires.can.stands
