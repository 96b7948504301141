-- The tests so far.
use Rattle.std.proofs.Common.{◌≡◌, take}
use Rattle.nq_bank.specs.Content.{term_at, terms_at}
use Rattle.nq_proof.specs.Clauses.{has_term}
use Rattle.nq_decrease.specs.OwnGuards.{own_test}
use Rattle.nq_decrease.proofs.own_guards.has_own_test.Given as goal

abbrev pub invariant-loop-u : goal.invariant-loop-u
invariant-loop-u l = l.found ≡ has_term (own_test l.bank l.test (term_at l.bank l.y)) (terms_at l.bank (take l.u-index l.tests))
