use Rattle.nq_bank.proofs.Standing.{id_grown}
use Rattle.nq_kernel.proofs.GrowingLemmas.{WorkGrows-trans}
use Rattle.nq_lines.proofs.TermLemmas.{term_grown}
use Rattle.nq_lines.proofs.law.variable_parts.Goals as goal

pub returns-in_err-x-clause-grows : goal.returns-in_err-x-clause-grows
returns-in_err-x-clause-grows c = (WorkGrows-trans c.args.history.now c.args.work.now c.variable.new.work c.variable-2.new.work c.variable.ensures.grows c.variable-2.ensures.grows)

pub returns-in_err-y-clause-grows : goal.returns-in_err-y-clause-grows
returns-in_err-y-clause-grows c = (WorkGrows-trans c.args.history.now c.args.work.now c.variable.new.work c.variable-3.new.work c.variable.ensures.grows (WorkGrows-trans c.args.history.now c.variable.new.work c.variable-2.new.work c.variable-3.new.work c.variable-2.ensures.grows c.variable-3.ensures.grows))

pub returns-clause-grows : goal.returns-clause-grows
returns-clause-grows c = (WorkGrows-trans c.args.history.now c.args.work.now c.variable.new.work c.variable-3.new.work c.variable.ensures.grows (WorkGrows-trans c.args.history.now c.variable.new.work c.variable-2.new.work c.variable-3.new.work c.variable-2.ensures.grows c.variable-3.ensures.grows))

pub returns-clause-parts : goal.returns-clause-parts
returns-clause-parts c = record {
  test = id_grown c.variable.new.work.bank c.variable-3.new.work.bank c.in_ok-p.p _ (WorkGrows-trans c.args.history.now c.variable.new.work c.variable-2.new.work c.variable-3.new.work c.variable-2.ensures.grows c.variable-3.ensures.grows).bank c.in_ok-p.ensures.variable;
  first = id_grown c.variable-2.new.work.bank c.variable-3.new.work.bank c.in_ok-x.x _ c.variable-3.ensures.grows.bank c.in_ok-x.ensures.variable;
  second = c.in_ok-y.ensures.variable;
}

pub returns-clause-over : goal.returns-clause-over
returns-clause-over c = record { test = (term_grown c.args.history.now c.variable.new.work c.variable-3.new.work c.in_ok-p.p c.variable.ensures.grows.stands (WorkGrows-trans c.args.history.now c.variable.new.work c.variable-2.new.work c.variable-3.new.work c.variable-2.ensures.grows c.variable-3.ensures.grows) c.in_ok-p.ensures.over); first = (term_grown c.args.history.now c.variable-2.new.work c.variable-3.new.work c.in_ok-x.x c.variable-2.ensures.grows.stands c.variable-3.ensures.grows c.in_ok-x.ensures.over); second = c.in_ok-y.ensures.over }
