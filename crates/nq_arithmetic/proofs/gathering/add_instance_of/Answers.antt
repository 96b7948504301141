use Rattle.std.proofs.Common.{subst, sym}
use Rattle.std.specs.Prelude.{All}
use Rattle.nq_kernel.proofs.GrowingLemmas.{WorkGrows-refl}
use Rattle.nq_lines.specs.Lines.{IsTermIn}
use Rattle.nq_arithmetic.specs.Claims.{IsAssumptionIn}
use Rattle.nq_arithmetic.proofs.gathering.add_instance_of.Goals as goal

pub returns-then-not-is_wanted-clause-grows : goal.returns-then-not-is_wanted-clause-grows
returns-then-not-is_wanted-clause-grows c = WorkGrows-refl c.args.history.now c.args.work.now c.requires.stands

pub literals_with-requires-clause-assumptions : goal.literals_with-requires-clause-assumptions
literals_with-requires-clause-assumptions c = subst (All (IsAssumptionIn c.args.history.now c.args.work.now)) (sym c.as_slice-2.ensures.value) c.requires.found

pub returns-in_err-literals-clause-grows : goal.returns-in_err-literals-clause-grows
returns-in_err-literals-clause-grows c = WorkGrows-refl c.args.history.now c.args.work.now c.requires.stands

pub add_met-requires-clause-literals : goal.add_met-requires-clause-literals
add_met-requires-clause-literals c = subst (All (IsTermIn c.args.history.now c.args.work.now)) (sym c.as_slice-3.ensures.value) c.in_ok-literals.ensures.literals

pub add_met-requires-clause-assumption : goal.add_met-requires-clause-assumption
add_met-requires-clause-assumption c = record { claim = c.requires.claim; source = c.requires.instance }
