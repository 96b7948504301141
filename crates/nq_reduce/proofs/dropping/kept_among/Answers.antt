use Rattle.std.proofs.Common.{sym, subst}
use Rattle.nq_kernel.proofs.GrowingLemmas.{WorkGrows-refl}
use Rattle.nq_reduce.specs.Clauses.{AreLiterals}
use Rattle.nq_reduce.proofs.DroppingLemmas.{only_in}
use Rattle.nq_reduce.proofs.dropping.kept_among.Goals as goal

pub literals_of-requires-clause-line : goal.literals_of-requires-clause-line
literals_of-requires-clause-line c = only_in c.args.history.now c.args.work.now c.args.line c.args.goal.now c.requires.goal c.requires.line

pub returns-in_err-literals-clause-grows : goal.returns-in_err-literals-clause-grows
returns-in_err-literals-clause-grows c = WorkGrows-refl c.args.history.now c.args.work.now c.requires.can.stands

pub kept_alone-requires-clause-literals : goal.kept_alone-requires-clause-literals
kept_alone-requires-clause-literals c = subst (AreLiterals c.args.history.now c.args.work.now c.args.line) (sym c.as_slice.ensures.value) c.in_ok-literals.ensures.literals
