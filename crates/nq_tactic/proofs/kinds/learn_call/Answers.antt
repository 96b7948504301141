use Rattle.std.proofs.Common.{subst}
use Rattle.std.specs.Prelude.{IfSome}
use Rattle.nq_bank.proofs.Growth.{IsNamed-grown}
use Rattle.nq_kernel.proofs.GrowingLemmas.{WorkGrows-trans}
use Rattle.nq_lines.specs.Lines.{IsTermIn}
use Rattle.nq_search.proofs.SearchingLemmas.{ready_grown}
use Rattle.nq_tactic.proofs.kinds.learn_call.Goals as goal

pub learn_told-requires-clause-can : goal.learn_told-requires-clause-can
learn_told-requires-clause-can c = ready_grown c.args.history.now c.args.work.now c.one_call.new.work c.requires.can.stands c.one_call.ensures.grows c.ready_histories.ensures.grown c.args.hints.now c.requires.can

pub learn_told-requires-clause-function : goal.learn_told-requires-clause-function
learn_told-requires-clause-function c = IsNamed-grown c.args.work.now.bank c.one_call.new.work.bank c.args.f c.one_call.ensures.grows.bank c.requires.function

pub learn_told-requires-clause-goal : goal.learn_told-requires-clause-goal
learn_told-requires-clause-goal c = subst (λ o. IfSome o (IsTermIn c.args.history.now c.one_call.new.work)) c.in-Some.is c.in_ok-t.ensures.call

pub returns-in-Some-clause-grows : goal.returns-in-Some-clause-grows
returns-in-Some-clause-grows c = WorkGrows-trans c.args.history.now c.args.work.now c.one_call.new.work c.learn_told.new.work c.one_call.ensures.grows c.learn_told.ensures.grows
