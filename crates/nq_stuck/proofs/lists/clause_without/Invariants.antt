-- The terms so far.
use Rattle.std.proofs.Common.{◌≡◌, take}
use Rattle.std.specs.Prelude.{All}
use Rattle.nq_bank.specs.Content.{Stands, term_at, terms_at}
use Rattle.nq_proof.specs.Clauses.{without}
use Rattle.nq_stuck.proofs.lists.clause_without.Given as goal

abbrev pub invariant-loop-u : goal.invariant-loop-u
invariant-loop-u l = record { clause : terms_at l.bank l.kept.items ≡ without (term_at l.bank l.t) (terms_at l.bank (take l.u-index l.terms)); stand : All (Stands l.bank) l.kept.items }
