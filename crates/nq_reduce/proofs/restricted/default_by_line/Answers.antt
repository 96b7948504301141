use Rattle.nq_kernel.proofs.GrowingLemmas.{WorkGrows-refl}
use Rattle.std.proofs.Common.{subst, sym}
use Rattle.nq_reduce.specs.Clauses.{AreLiterals}
use Rattle.nq_reduce.proofs.restricted.default_by_line.Goals as goal

pub returns-in_err-literals-clause-grows : goal.returns-in_err-literals-clause-grows
returns-in_err-literals-clause-grows c = WorkGrows-refl c.args.history.now c.args.work.now c.requires.can.stands

pub default_by_cases-requires-clause-literals : goal.default_by_cases-requires-clause-literals
default_by_cases-requires-clause-literals c = subst (AreLiterals c.args.history.now c.args.work.now c.args.line) (sym c.as_slice.ensures.value) c.in_ok-literals.ensures.literals
