use Rattle.std.proofs.Common.{subst}
use Rattle.std.specs.Prelude.{IfSome}
use Rattle.nq_kernel.proofs.GrowingLemmas.{WorkGrows-trans}
use Rattle.nq_lines.specs.Facts.{IsFact}
use Rattle.nq_lines.proofs.FactLemmas.{own_terms_grown}
use Rattle.nq_lines.proofs.TermLemmas.{term_grown}
use Rattle.nq_rewrite.proofs.kinds.kind_fact.Goals as goal

pub kind_by_definition-requires-clause-definition : goal.kind_by_definition-requires-clause-definition
kind_by_definition-requires-clause-definition c = subst (λ o. IfSome o (IsFact c.args.history.now c.row_fact.new.work)) c.in-Some.is c.in_ok-definition.ensures.fact

pub kind_by_definition-requires-clause-term : goal.kind_by_definition-requires-clause-term
kind_by_definition-requires-clause-term c = term_grown c.args.history.now c.args.work.now c.row_fact.new.work c.args.t c.requires.stands c.row_fact.ensures.grows c.requires.term

pub returns-in-Some-clause-grows : goal.returns-in-Some-clause-grows
returns-in-Some-clause-grows c = WorkGrows-trans c.args.history.now c.args.work.now c.row_fact.new.work c.kind_by_definition.new.work c.row_fact.ensures.grows c.kind_by_definition.ensures.grows

pub kind_by_event-requires-clause-ready : goal.kind_by_event-requires-clause-ready
kind_by_event-requires-clause-ready c = own_terms_grown c.args.history.now c.args.work.now c.row_fact.new.work c.row_fact.ensures.grows c.requires.stands c.requires.ready

pub kind_by_event-requires-clause-term : goal.kind_by_event-requires-clause-term
kind_by_event-requires-clause-term c = term_grown c.args.history.now c.args.work.now c.row_fact.new.work c.args.t c.requires.stands c.row_fact.ensures.grows c.requires.term

pub returns-in-None-clause-grows : goal.returns-in-None-clause-grows
returns-in-None-clause-grows c = WorkGrows-trans c.args.history.now c.args.work.now c.row_fact.new.work c.kind_by_event.new.work c.row_fact.ensures.grows c.kind_by_event.ensures.grows
