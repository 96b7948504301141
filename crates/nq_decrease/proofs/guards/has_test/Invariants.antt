-- The tests so far.
use Rattle.std.proofs.Common.{◌≡◌, take}
use Rattle.nq_bank.specs.Content.{term_at, terms_at}
use Rattle.nq_proof.specs.Clauses.{has_term}
use Rattle.nq_decrease.specs.Guards.{test_of}
use Rattle.nq_decrease.proofs.guards.has_test.Given as goal

abbrev pub invariant-loop-u : goal.invariant-loop-u
invariant-loop-u l = l.found ≡ has_term (test_of l.guard (term_at l.bank l.y)) (terms_at l.bank (take l.u-index l.tests))
