use Rattle.nq_kernel.proofs.GrowingLemmas.{WorkGrows-trans}
use Rattle.nq_arithmetic.proofs.Lemmas.{all_grown, operands_grown, assumptions_grown}
use Rattle.nq_arithmetic.proofs.gathering.add_fact.Goals as goal

pub returns-then-is_assumed-clause-found : goal.returns-then-is_assumed-clause-found
returns-then-is_assumed-clause-found c = assumptions_grown c.args.history.now c.args.work.now c.claim_at.new.work c.requires.stands c.claim_at.ensures.grows c.args.found.now.items c.requires.found

pub add_met-requires-clause-literals : goal.add_met-requires-clause-literals
add_met-requires-clause-literals c = all_grown c.args.history.now c.args.work.now c.claim_at.new.work c.requires.stands c.claim_at.ensures.grows c.args.literals.now c.requires.literals

pub add_met-requires-clause-found : goal.add_met-requires-clause-found
add_met-requires-clause-found c = assumptions_grown c.args.history.now c.args.work.now c.claim_at.new.work c.requires.stands c.claim_at.ensures.grows c.args.found.now.items c.requires.found

pub add_met-requires-clause-assumption : goal.add_met-requires-clause-assumption
add_met-requires-clause-assumption c = record { claim = c.in_ok-claim.ensures.claim; source = operands_grown c.args.history.now c.args.work.now c.claim_at.new.work c.requires.stands c.claim_at.ensures.grows c.args.at c.requires.at }

pub returns-else-is_assumed-clause-grows : goal.returns-else-is_assumed-clause-grows
returns-else-is_assumed-clause-grows c = (WorkGrows-trans c.args.history.now c.args.work.now c.claim_at.new.work c.add_met.new.work c.claim_at.ensures.grows c.add_met.ensures.grows)
