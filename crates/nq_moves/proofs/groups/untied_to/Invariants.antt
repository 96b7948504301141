-- The terms so far.
use Rattle.std.proofs.Common.{◌≡◌, take}
use Rattle.std.specs.Prelude.{All}
use Rattle.nq_bank.specs.Content.{Stands, terms_at}
use Rattle.nq_goals.specs.Dropping.{untied}
use Rattle.nq_moves.proofs.groups.untied_to.Given as goal

abbrev pub invariant-loop-t : goal.invariant-loop-t
invariant-loop-t l = record { clause : terms_at l.bank l.kept.items ≡ untied (terms_at l.bank l.these) (terms_at l.bank (take l.t-index l.terms)); stand : All (Stands l.bank) l.kept.items }
