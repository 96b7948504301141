use Rattle.nq_lines.proofs.TermLemmas.{term_grown}
use Rattle.nq_arithmetic.proofs.claims.claim_with_denial.Goals as goal

pub returns-clause-claim : goal.returns-clause-claim
returns-clause-claim c = record { test = term_grown c.args.history.now c.args.work.now c.deny.new.work c.args.t c.requires.stands c.deny.ensures.grows c.requires.term; denial = c.in_ok-denial.ensures.over }
