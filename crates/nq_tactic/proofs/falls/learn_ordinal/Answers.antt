use Rattle.std.proofs.Common.{subst}
use Rattle.std.specs.Prelude.{IfSome}
use Rattle.nq_bank.proofs.Growth.{IsNamed-grown}
use Rattle.nq_kernel.proofs.GrowingLemmas.{WorkGrows-trans}
use Rattle.nq_lines.specs.Lines.{IsTermIn}
use Rattle.nq_lines.proofs.TermLemmas.{term_grown}
use Rattle.nq_search.proofs.SearchingLemmas.{ready_grown}
use Rattle.nq_tactic.proofs.falls.learn_ordinal.Goals as goal

pub learn_owed_after-requires-clause-can : goal.learn_owed_after-requires-clause-can
learn_owed_after-requires-clause-can c = ready_grown c.args.history.now c.args.work.now c.owed_ordinal.new.work c.requires.can.stands c.owed_ordinal.ensures.grows c.ready_histories.ensures.grown c.args.hints.now c.requires.can

pub learn_owed_after-requires-clause-function : goal.learn_owed_after-requires-clause-function
learn_owed_after-requires-clause-function c = IsNamed-grown c.args.work.now.bank c.owed_ordinal.new.work.bank c.args.f c.owed_ordinal.ensures.grows.bank c.requires.function

pub learn_owed_after-requires-clause-call : goal.learn_owed_after-requires-clause-call
learn_owed_after-requires-clause-call c = term_grown c.args.history.now c.args.work.now c.owed_ordinal.new.work c.args.call c.requires.can.stands c.owed_ordinal.ensures.grows c.requires.call

pub learn_owed_after-requires-clause-goal : goal.learn_owed_after-requires-clause-goal
learn_owed_after-requires-clause-goal c = subst (λ o. IfSome o (IsTermIn c.args.history.now c.owed_ordinal.new.work)) c.in-Some.is c.in_ok-goal.ensures.goal

pub learn_owed-requires-clause-can : goal.learn_owed-requires-clause-can
learn_owed-requires-clause-can c = ready_grown c.args.history.now c.args.work.now c.owed_ordinal.new.work c.requires.can.stands c.owed_ordinal.ensures.grows c.ready_histories.ensures.grown c.args.hints.now c.requires.can

pub learn_owed-requires-clause-function : goal.learn_owed-requires-clause-function
learn_owed-requires-clause-function c = IsNamed-grown c.args.work.now.bank c.owed_ordinal.new.work.bank c.args.f c.owed_ordinal.ensures.grows.bank c.requires.function

pub learn_owed-requires-clause-call : goal.learn_owed-requires-clause-call
learn_owed-requires-clause-call c = term_grown c.args.history.now c.args.work.now c.owed_ordinal.new.work c.args.call c.requires.can.stands c.owed_ordinal.ensures.grows c.requires.call

pub returns-in-Some-clause-grows : goal.returns-in-Some-clause-grows
returns-in-Some-clause-grows c = WorkGrows-trans c.args.history.now c.args.work.now c.owed_ordinal.new.work c.learn_owed_after.new.work c.owed_ordinal.ensures.grows c.learn_owed_after.ensures.grows

pub returns-in-None-clause-grows : goal.returns-in-None-clause-grows
returns-in-None-clause-grows c = WorkGrows-trans c.args.history.now c.args.work.now c.owed_ordinal.new.work c.learn_owed.new.work c.owed_ordinal.ensures.grows c.learn_owed.ensures.grows
