-- The destructor calls so far become none of the calls.
use Rattle.std.proofs.Common.{take}
use Rattle.nq_logic.specs.Terms.{Each}
use Rattle.nq_bank.specs.Content.{terms_at, text_at}
use Rattle.nq_eliminate.specs.Serving.{ServesNoneOf}
use Rattle.nq_eliminate.proofs.serving.find_destructor.Given as goal

abbrev pub invariant-loop-d : goal.invariant-loop-d
invariant-loop-d l = Each (ServesNoneOf (text_at l.bank l.rule.name) (terms_at l.bank l.goal) (terms_at l.bank l.destructors) (terms_at l.bank l.calls)) (terms_at l.bank (take l.d-index l.these))
