-- The terms so far.
use Rattle.std.proofs.Common.{◌≡◌, take}
use Rattle.nq_bank.specs.Content.{term_at, terms_at}
use Rattle.nq_proof.specs.Clauses.{has_term}
use Rattle.nq_stuck.proofs.lists.contains.Given as goal

abbrev pub invariant-loop-u : goal.invariant-loop-u
invariant-loop-u l = l.found ≡ has_term (term_at l.bank l.t) (terms_at l.bank (take l.u-index l.terms))
