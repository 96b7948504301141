use Rattle.std.proofs.Common.{◌≡◌, drop}
use Rattle.nq_bank.specs.Content.{terms_at, text_at}
use Rattle.nq_event.specs.Definitions.{has_variable}
use Rattle.nq_event.proofs.inductions.have_variable.Given as goal

abbrev pub invariant-loop-t : goal.invariant-loop-t
invariant-loop-t l = has_variable (text_at l.bank l.variable) (terms_at l.bank l.terms) ≡ has_variable (text_at l.bank l.variable) (terms_at l.bank (drop l.t-index l.terms))
