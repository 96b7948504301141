use Rattle.std.proofs.Common.{sym}
use Rattle.nq_bank.specs.Content.{term_at, text_at}
use Rattle.nq_kernel.proofs.GrowingLemmas.{WorkGrows-refl}
use Rattle.nq_rewrite.proofs.binding.instance_at_hand.Goals as goal

pub instance_of-requires-clause-rule : goal.instance_of-requires-clause-rule
instance_of-requires-clause-rule c =
    let w = c.args.work.now in
    record { stands = c.in-Some.ensures.stands; over = c.requires.can.ready.events (text_at w.bank c.args.name) (term_at w.bank c.in-Some.rule) (sym c.in-Some.ensures.term) }

pub returns-in-None-clause-grows : goal.returns-in-None-clause-grows
returns-in-None-clause-grows c = WorkGrows-refl c.args.history.now c.args.work.now c.requires.can.stands
