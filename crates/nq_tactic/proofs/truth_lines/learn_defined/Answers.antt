use Rattle.std.proofs.Common.{subst}
use Rattle.std.specs.Prelude.{IfSome}
use Rattle.nq_bank.proofs.Growth.{IsNamed-grown}
use Rattle.nq_kernel.proofs.GrowingLemmas.{WorkGrows-trans}
use Rattle.nq_lines.specs.Facts.{IsFact}
use Rattle.nq_search.proofs.SearchingLemmas.{ready_grown}
use Rattle.nq_tactic.proofs.truth_lines.learn_defined.Goals as goal

pub row_fact-requires-clause-ready : goal.row_fact-requires-clause-ready
row_fact-requires-clause-ready c = c.own_terms.ensures c.args.work.now.bank c.args.history.now c.requires.can.ready

pub learn_by_definition-requires-clause-can : goal.learn_by_definition-requires-clause-can
learn_by_definition-requires-clause-can c = ready_grown c.args.history.now c.args.work.now c.row_fact.new.work c.requires.can.stands c.row_fact.ensures.grows c.ready_histories.ensures.grown c.args.hints.now c.requires.can

pub learn_by_definition-requires-clause-function : goal.learn_by_definition-requires-clause-function
learn_by_definition-requires-clause-function c = IsNamed-grown c.args.work.now.bank c.row_fact.new.work.bank c.args.f c.row_fact.ensures.grows.bank c.requires.function

pub learn_by_definition-requires-clause-definition : goal.learn_by_definition-requires-clause-definition
learn_by_definition-requires-clause-definition c = subst (λ o. IfSome o (IsFact c.args.history.now c.row_fact.new.work)) c.in-Some.is c.in_ok-definition.ensures.fact

pub returns-in-Some-clause-grows : goal.returns-in-Some-clause-grows
returns-in-Some-clause-grows c = WorkGrows-trans c.args.history.now c.args.work.now c.row_fact.new.work c.learn_by_definition.new.work c.row_fact.ensures.grows c.learn_by_definition.ensures.grows
