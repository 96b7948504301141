use Rattle.nq_bank.specs.Content.{term_at}
use Rattle.nq_replay.proofs.UncountedLemmas.{grown_refl}
use Rattle.nq_measures.proofs.DescentLemmas.{denied_room}
use Rattle.nq_measures.proofs.descents.test_of.Goals as goal

pub returns-then-guard-clause-grows : goal.returns-then-guard-clause-grows
returns-then-guard-clause-grows c = grown_refl c.args.history.now c.args.work.now c.requires.stands

pub deny-requires-clause-room : goal.deny-requires-clause-room
deny-requires-clause-room c = denied_room c.args.guard.holds (term_at c.args.work.now.bank c.args.guard.test) c.if-guard.false c.requires.shallow
