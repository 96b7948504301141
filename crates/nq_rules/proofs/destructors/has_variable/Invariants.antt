-- No term so far is the variable.
use Rattle.std.proofs.Common.{◌≡◌, drop}
use Rattle.nq_bank.specs.Content.{terms_at, text_at}
use Rattle.nq_rules.specs.Variables.{has_variable}
use Rattle.nq_rules.proofs.destructors.has_variable.Given as goal

abbrev pub invariant-loop-t : goal.invariant-loop-t
invariant-loop-t l = has_variable (text_at l.bank l.x) (terms_at l.bank l.terms) ≡ has_variable (text_at l.bank l.x) (terms_at l.bank (drop l.t-index l.terms))
