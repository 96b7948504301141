use Rattle.std.proofs.Common.{sym, subst}
use Rattle.nq_kernel.proofs.GrowingLemmas.{WorkGrows-refl}
use Rattle.nq_reduce.specs.Clauses.{AreLiterals}
use Rattle.nq_reduce.proofs.rows.shown_by.Goals as goal

pub returns-in_err-literals-clause-grows : goal.returns-in_err-literals-clause-grows
returns-in_err-literals-clause-grows c = WorkGrows-refl c.args.history.now c.args.work.now c.requires.can.stands

pub shown_among-requires-clause-literals : goal.shown_among-requires-clause-literals
shown_among-requires-clause-literals c = subst (AreLiterals c.args.history.now c.args.work.now c.args.line) (sym c.as_slice.ensures.value) c.in_ok-literals.ensures.literals
