-- The answer so far is that of the terms so far.
use Rattle.std.proofs.Common.{◌≡◌, take}
use Rattle.nq_bank.specs.Content.{term_at, terms_at}
use Rattle.nq_goals.specs.Dropping.{is_tied}
use Rattle.nq_moves.proofs.sharing.is_tied.Given as goal

abbrev pub invariant-loop-u : goal.invariant-loop-u
invariant-loop-u l = l.found ≡ is_tied (terms_at l.bank (take l.u-index l.these)) (term_at l.bank l.t)
