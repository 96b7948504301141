-- The terms so far.
use Rattle.std.proofs.Common.{◌≡◌, take}
use Rattle.std.specs.Prelude.{All}
use Rattle.nq_bank.specs.Content.{Stands, terms_at}
use Rattle.nq_proof.specs.Clauses.{distinct}
use Rattle.nq_quick.proofs.others.distinct_terms.Given as goal

abbrev pub invariant-loop-u : goal.invariant-loop-u
invariant-loop-u l = record { clause : terms_at l.bank l.kept.items ≡ distinct (terms_at l.bank (take l.u-index l.terms)); stand : All (Stands l.bank) l.kept.items }
