use Rattle.std.proofs.Common.{subst}
use Rattle.std.specs.Prelude.{IfSome}
use Rattle.nq_bank.specs.Content.{term_at}
use Rattle.nq_kernel.proofs.GrowingLemmas.{WorkGrows-trans}
use Rattle.nq_instances.proofs.PartLemmas.{line_there, derived_before, opening_now}
use Rattle.nq_lines.specs.Facts.{IsOpening}
use Rattle.nq_instances.proofs.parts.opened.Goals as goal

pub opened_by-requires-clause-fact : goal.opened_by-requires-clause-fact
opened_by-requires-clause-fact c = line_there c.args.history.now c.args.work.now c.opening.new.work c.opening.ensures.grows c.args.fact c.requires.stands c.requires.fact

pub opened_by-requires-clause-body : goal.opened_by-requires-clause-body
opened_by-requires-clause-body c = opening_now c.args.history.now c.args.work.now c.opening.new.work c.args.fact c.in-Some.body c.opening.ensures.grows c.requires.fact (subst (λ o. IfSome o (IsOpening c.args.history.now c.opening.new.work (term_at c.args.work.now.bank c.args.fact.term))) c.in-Some.is c.in_ok-body.ensures.opening)

pub returns-in-Some-clause-fact : goal.returns-in-Some-clause-fact
returns-in-Some-clause-fact c = derived_before c.args.history.now c.args.work.now c.opening.new.work c.opened_by.new.work c.args.fact c.opened_by.result c.opening.ensures.grows c.requires.stands c.requires.fact c.opened_by.ensures.fact

pub returns-in-Some-clause-grows : goal.returns-in-Some-clause-grows
returns-in-Some-clause-grows c = (WorkGrows-trans c.args.history.now c.args.work.now c.opening.new.work c.opened_by.new.work c.opening.ensures.grows c.opened_by.ensures.grows)
