use Rattle.nq_bank.proofs.Growth.{IsNamed-grown}
use Rattle.nq_kernel.proofs.GrowingLemmas.{WorkGrows-trans}
use Rattle.nq_tactic.proofs.TacticLemmas.{found_stands}
use Rattle.nq_tactic.proofs.truth_lines.learn_goal.Goals as goal

pub remember-requires-clause-function : goal.remember-requires-clause-function
remember-requires-clause-function c = IsNamed-grown c.args.work.now.bank c.seek.new.work.bank c.args.f c.seek.ensures.grows.bank c.requires.function

pub remember-requires-clause-line : goal.remember-requires-clause-line
remember-requires-clause-line c = found_stands c.seek.new.work _ c.in_ok-line.field-0 c.in-Some.line c.in-Some.is c.in_ok-line.ensures.found

pub returns-in-Some-clause-grows : goal.returns-in-Some-clause-grows
returns-in-Some-clause-grows c = WorkGrows-trans c.args.history.now c.args.work.now c.seek.new.work c.remember.new.work c.seek.ensures.grows c.remember.ensures.grows
