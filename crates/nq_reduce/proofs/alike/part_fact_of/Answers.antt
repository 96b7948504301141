use Rattle.nq_kernel.proofs.GrowingLemmas.{WorkGrows-refl}
use Rattle.std.proofs.Common.{subst, sym}
use Rattle.std.specs.Prelude.{All}
use Rattle.nq_lines.specs.Lines.{IsTermIn}
use Rattle.nq_reduce.proofs.alike.part_fact_of.Goals as goal

pub returns-in_err-literals-clause-grows : goal.returns-in_err-literals-clause-grows
returns-in_err-literals-clause-grows c = WorkGrows-refl c.args.history.now c.args.work.now c.requires.can.stands

pub made_pattern-requires-clause-literals : goal.made_pattern-requires-clause-literals
made_pattern-requires-clause-literals c = subst (All (IsTermIn c.args.history.now c.args.work.now)) (sym c.as_slice.ensures.value) c.in_ok-literals.ensures.literals.there

pub returns-clause-grows : goal.returns-clause-grows
returns-clause-grows c = WorkGrows-refl c.args.history.now c.args.work.now c.requires.can.stands
