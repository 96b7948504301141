use Rattle.nq_bank.proofs.Growth.{IsNamed-grown}
use Rattle.nq_kernel.proofs.GrowingLemmas.{WorkGrows-trans}
use Rattle.nq_search.proofs.SearchingLemmas.{ready_grown}
use Rattle.nq_tactic.proofs.falls.learn_owed.Goals as goal

pub learn_goals-requires-clause-can : goal.learn_goals-requires-clause-can
learn_goals-requires-clause-can c = ready_grown c.args.history.now c.args.work.now c.owed_falls.new.work c.requires.can.stands c.owed_falls.ensures.grows c.ready_histories.ensures.grown c.args.hints.now c.requires.can

pub learn_goals-requires-clause-function : goal.learn_goals-requires-clause-function
learn_goals-requires-clause-function c = IsNamed-grown c.args.work.now.bank c.owed_falls.new.work.bank c.args.f c.owed_falls.ensures.grows.bank c.requires.function

pub returns-clause-grows : goal.returns-clause-grows
returns-clause-grows c = WorkGrows-trans c.args.history.now c.args.work.now c.owed_falls.new.work c.learn_goals.new.work c.owed_falls.ensures.grows c.learn_goals.ensures.grows
