use Rattle.std.proofs.Common.{subst}
use Rattle.std.specs.Prelude.{IfSome}
use Rattle.nq_kernel.proofs.GrowingLemmas.{WorkGrows-trans}
use Rattle.nq_lines.specs.Facts.{IsFact}
use Rattle.nq_lines.proofs.LineLemmas.{line_grown}
use Rattle.nq_lines.proofs.TermLemmas.{term_grown}
use Rattle.nq_rewrite.proofs.true_calls.instance_by_known.Goals as goal

pub instance_by_definition-requires-clause-line : goal.instance_by_definition-requires-clause-line
instance_by_definition-requires-clause-line c = line_grown c.args.history.now c.args.work.now c.row_fact.new.work c.args.line c.requires.stands c.row_fact.ensures.grows c.requires.line

pub instance_by_definition-requires-clause-definition : goal.instance_by_definition-requires-clause-definition
instance_by_definition-requires-clause-definition c = subst (λ o. IfSome o (IsFact c.args.history.now c.row_fact.new.work)) c.in-Some.is c.in_ok-definition.ensures.fact

pub instance_by_definition-requires-clause-term : goal.instance_by_definition-requires-clause-term
instance_by_definition-requires-clause-term c = term_grown c.args.history.now c.args.work.now c.row_fact.new.work c.args.t c.requires.stands c.row_fact.ensures.grows c.requires.term

pub returns-in-Some-clause-grows : goal.returns-in-Some-clause-grows
returns-in-Some-clause-grows c = WorkGrows-trans c.args.history.now c.args.work.now c.row_fact.new.work c.instance_by_definition.new.work c.row_fact.ensures.grows c.instance_by_definition.ensures.grows
