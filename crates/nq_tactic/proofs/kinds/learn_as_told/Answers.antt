use Rattle.std.proofs.Common.{subst}
use Rattle.std.specs.Prelude.{IfSome}
use Rattle.nq_bank.proofs.Growth.{IsNamed-grown}
use Rattle.nq_kernel.proofs.GrowingLemmas.{WorkGrows-trans}
use Rattle.nq_lines.specs.Facts.{IsFact}
use Rattle.nq_tactic.proofs.TacticLemmas.{fact_stands}
use Rattle.nq_tactic.proofs.kinds.learn_as_told.Goals as goal

pub told_kind-requires-clause-ready : goal.told_kind-requires-clause-ready
told_kind-requires-clause-ready c = c.own_terms.ensures c.args.work.now.bank c.args.history.now c.requires.ready

pub remember-requires-clause-function : goal.remember-requires-clause-function
remember-requires-clause-function c = IsNamed-grown c.args.work.now.bank c.told_kind.new.work.bank c.args.f c.told_kind.ensures.grows.bank c.requires.function

pub remember-requires-clause-line : goal.remember-requires-clause-line
remember-requires-clause-line c = fact_stands c.told_kind.new.work c.in-Some.told.line _ (subst (λ o. IfSome o (IsFact c.args.history.now c.told_kind.new.work)) c.in-Some.is c.in_ok-told.ensures.fact).holds

pub returns-in-Some-clause-grows : goal.returns-in-Some-clause-grows
returns-in-Some-clause-grows c = WorkGrows-trans c.args.history.now c.args.work.now c.told_kind.new.work c.remember.new.work c.told_kind.ensures.grows c.remember.ensures.grows
