use Rattle.std.proofs.Common.{subst, sym}
use Rattle.std.specs.Prelude.{All}
use Rattle.nq_kernel.proofs.GrowingLemmas.{WorkGrows-refl}
use Rattle.nq_lines.specs.Lines.{IsTermIn}
use Rattle.nq_arithmetic.proofs.guards.sum_shown.Goals as goal

pub returns-in_err-all-clause-grows : goal.returns-in_err-all-clause-grows
returns-in_err-all-clause-grows c = WorkGrows-refl c.args.history.now c.args.work.now c.requires.stands

pub refuted-requires-clause-literals : goal.refuted-requires-clause-literals
refuted-requires-clause-literals c = subst (All (IsTermIn c.args.history.now c.args.work.now)) (sym c.as_slice.ensures.value) c.in_ok-all.ensures.literals
