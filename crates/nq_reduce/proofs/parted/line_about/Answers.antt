use Rattle.std.specs.Prelude.{All}
use Rattle.std.proofs.Common.{sym, subst}
use Rattle.nq_kernel.proofs.GrowingLemmas.{WorkGrows-refl}
use Rattle.nq_lines.specs.Lines.{IsTermIn}
use Rattle.nq_reduce.proofs.parted.line_about.Goals as goal

pub returns-in_err-literals-clause-grows : goal.returns-in_err-literals-clause-grows
returns-in_err-literals-clause-grows c = WorkGrows-refl c.args.history.now c.args.work.now c.requires.stands

pub last_right-requires-clause-literals : goal.last_right-requires-clause-literals
last_right-requires-clause-literals c = subst (All (IsTermIn c.args.history.now c.args.work.now)) (sym c.as_slice.ensures.value) c.in_ok-literals.ensures.literals.there

pub returns-clause-grows : goal.returns-clause-grows
returns-clause-grows c = WorkGrows-refl c.args.history.now c.args.work.now c.requires.stands
