use Rattle.nq_tactic.proofs.KnownLemmas.{remembered, not_remembered}
use Rattle.nq_tactic.proofs.kinds.remember.Goals as goal

pub returns-clause-grows : goal.returns-clause-grows
returns-clause-grows c = remembered c.args.history.now c.args.work.now c.push_known.new.known (record { function = c.args.f; line = c.args.line }) c.requires.stands c.requires.function c.requires.line c.in_ok-push_known.ensures.ok

pub returns-in_err-push_known-clause-grows : goal.returns-in_err-push_known-clause-grows
returns-in_err-push_known-clause-grows c = not_remembered c.args.history.now c.args.work.now c.push_known.new.known c.requires.stands c.in_err-push_known.ensures.err
