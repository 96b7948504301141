-- The destructor call becomes none of the calls so far.
use Rattle.std.proofs.Common.{take}
use Rattle.nq_bank.specs.Content.{term_at, terms_at, text_at}
use Rattle.nq_eliminate.specs.Serving.{ServesNoneOf}
use Rattle.nq_eliminate.proofs.serving.find_call.Given as goal

abbrev pub invariant-loop-u : goal.invariant-loop-u
invariant-loop-u l = ServesNoneOf (text_at l.bank l.rule.name) (terms_at l.bank l.goal) (terms_at l.bank l.destructors) (terms_at l.bank (take l.u-index l.calls)) (term_at l.bank l.d)
