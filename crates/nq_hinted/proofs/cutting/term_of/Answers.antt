use Rattle.nq_steps.proofs.NameLemmas.{no_names}
use Rattle.nq_kernel.proofs.GrowingLemmas.{bank_grows, uncounted}
use Rattle.nq_hinted.proofs.TermLemmas.{instance_over}
use Rattle.nq_hinted.proofs.cutting.term_of.Goals as goal

pub returns-in-Ok-clause-over : goal.returns-in-Ok-clause-over
returns-in-Ok-clause-over c =
    instance_over c.args.history.now c.args.work.now c.instance_term.new.bank c.args.instance.now c.in-Ok.found c.requires.stands c.in-Ok.ensures.grows c.requires.ready c.requires.pairs c.in-Ok.ensures.is c.in-Ok.ensures.stands

pub returns-in-Ok-clause-grows : goal.returns-in-Ok-clause-grows
returns-in-Ok-clause-grows c =
    bank_grows c.args.history.now c.args.work.now c.instance_term.new.bank c.args.work.now.counter c.requires.stands c.in-Ok.ensures.grows (no_names c.args.work.now.bank c.instance_term.new.bank c.in-Ok.ensures.names)
    (uncounted c.args.work.now.counter)

pub returns-in-Err-clause-grows : goal.returns-in-Err-clause-grows
returns-in-Err-clause-grows c =
    bank_grows c.args.history.now c.args.work.now c.instance_term.new.bank c.args.work.now.counter c.requires.stands c.in-Err.ensures.grows (no_names c.args.work.now.bank c.instance_term.new.bank c.in-Err.ensures.names)
    (uncounted c.args.work.now.counter)
