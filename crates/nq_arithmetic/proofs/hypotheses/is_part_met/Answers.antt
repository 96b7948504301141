use Rattle.nq_kernel.proofs.GrowingLemmas.{WorkGrows-refl}
use Rattle.nq_arithmetic.proofs.Lemmas.{all_grown}
use Rattle.nq_arithmetic.proofs.hypotheses.is_part_met.Goals as goal

pub returns-then-is_call_of-clause-grows : goal.returns-then-is_call_of-clause-grows
returns-then-is_call_of-clause-grows c = WorkGrows-refl c.args.history.now c.args.work.now c.requires.stands

pub is_claim_met-requires-clause-literals : goal.is_claim_met-requires-clause-literals
is_claim_met-requires-clause-literals c = all_grown c.args.history.now c.args.work.now c.claim_of.new.work c.requires.stands c.claim_of.ensures.grows c.args.literals.now c.requires.literals
