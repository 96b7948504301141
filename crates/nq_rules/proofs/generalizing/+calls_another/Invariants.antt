-- No argument so far calls another function.
use Rattle.std.proofs.Common.{◌≡◌, drop}
use Rattle.nq_bank.specs.Content.{terms_at}
use Rattle.nq_rules.proofs.PartLemmas.{any_calls_another}
use Rattle.nq_rules.proofs.generalizing.+calls_another.Given as goal

abbrev pub decreases-calls_another : goal.decreases-calls_another
decreases-calls_another l = l.t.0

abbrev pub invariant-loop-a : goal.invariant-loop-a
invariant-loop-a l = any_calls_another (terms_at l.bank (drop l.a-index l.a-items)) ≡ any_calls_another (terms_at l.bank l.a-items)
