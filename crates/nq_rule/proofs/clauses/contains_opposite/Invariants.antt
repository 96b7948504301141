-- The terms so far.
use Rattle.std.proofs.Common.{◌≡◌, take}
use Rattle.nq_bank.specs.Content.{terms_at}
use Rattle.nq_proof.specs.Clauses.{has_opposite}
use Rattle.nq_rule.proofs.clauses.contains_opposite.Given as goal

abbrev pub invariant-loop-t : goal.invariant-loop-t
invariant-loop-t l = l.found ≡ has_opposite (terms_at l.bank (take l.t-index l.these)) (terms_at l.bank l.terms)
