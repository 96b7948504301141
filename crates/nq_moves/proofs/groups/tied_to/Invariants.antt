-- The terms so far.
use Rattle.std.proofs.Common.{◌≡◌, take}
use Rattle.std.specs.Prelude.{All}
use Rattle.nq_bank.specs.Content.{Stands, terms_at}
use Rattle.nq_goals.specs.Dropping.{tied}
use Rattle.nq_moves.proofs.groups.tied_to.Given as goal

abbrev pub invariant-loop-t : goal.invariant-loop-t
invariant-loop-t l = record { clause : terms_at l.bank l.kept.items ≡ tied (terms_at l.bank l.these) (terms_at l.bank (take l.t-index l.terms)); stand : All (Stands l.bank) l.kept.items }
