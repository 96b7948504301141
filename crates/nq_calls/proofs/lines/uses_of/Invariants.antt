-- The formals so far.
use Rattle.std.proofs.Common.{◌≡◌, take}
use Rattle.nq_bank.specs.Content.{term_at}
use Rattle.nq_bank.specs.Shells.{texts_at}
use Rattle.nq_calls.specs.Falls.{uses_of}
use Rattle.nq_calls.proofs.lines.uses_of.Given as goal

abbrev pub invariant-loop-formal : goal.invariant-loop-formal
invariant-loop-formal l = l.uses.items ≡ uses_of (texts_at l.bank (take l.formal-index l.formals)) (term_at l.bank l.measure)
