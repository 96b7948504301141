use Rattle.std.proofs.Common.{sym, ◌∙◌, subst}
use Rattle.std.specs.Prelude.{IfOk}
use Rattle.nq_logic.specs.Words.{call1}
use Rattle.nq_bank.specs.Content.{term_at, IsIdOf}
use Rattle.nq_value.proofs.MakingLemmas.{zero_is, minus_shallow}
use Rattle.nq_value.proofs.making.minus_zero.Goals as goal

pub ground_call-requires-clause-shallow : goal.ground_call-requires-clause-shallow
ground_call-requires-clause-shallow c = minus_shallow (term_at c.num.new.self c.in_ok-zero.zero) c.in_ok-zero.ensures.ok.id.denotes

pub returns-clause-ok : goal.returns-clause-ok
returns-clause-ok c =
    subst (λ t. IfOk c.ground_call.result (λ made. IsIdOf c.ground_call.new.bank made (call1 "MINUS" t)))
    (c.in_ok-zero.ensures.ok.id.denotes ∙ sym zero_is) c.ground_call.ensures.ok
