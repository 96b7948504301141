use Rattle.nq_steps.proofs.NameLemmas.{no_names}
use Rattle.nq_replay.proofs.UncountedLemmas.{bank_uncounted}
use Rattle.nq_measures.proofs.falls.owed_at.Goals as goal

pub returns-in-Ok-clause-grows : goal.returns-in-Ok-clause-grows
returns-in-Ok-clause-grows c = bank_uncounted c.args.history.now c.args.work.now c.make_owed.new.bank c.requires.stands c.make_owed.ensures.grows (no_names c.args.work.now.bank c.make_owed.new.bank c.make_owed.ensures.names)

pub returns-in-Err-clause-grows : goal.returns-in-Err-clause-grows
returns-in-Err-clause-grows c = bank_uncounted c.args.history.now c.args.work.now c.make_owed.new.bank c.requires.stands c.make_owed.ensures.grows (no_names c.args.work.now.bank c.make_owed.new.bank c.make_owed.ensures.names)
