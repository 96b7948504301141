use Rattle.std.proofs.Common.{arith}
use Rattle.nq_value.proofs.MakingLemmas.{truth_value, numeral_value, minus_zero_value}
use Rattle.nq_value.proofs.making.answer_of.Goals as goal

pub returns-in_ok-truth_value-in-Truth-clause-stands :
    goal.returns-in_ok-truth_value-in-Truth-clause-stands
returns-in_ok-truth_value-in-Truth-clause-stands c =
    truth_value c.truth_value.new.bank c.in_ok-truth_value-in-Truth.field-0 c.in-Truth.holds c.in_ok-truth_value-in-Truth.ensures.ok

pub returns-in_ok-num-in-Number-clause-stands : goal.returns-in_ok-num-in-Number-clause-stands
returns-in_ok-num-in-Number-clause-stands c =
    numeral_value c.num.new.self c.in_ok-num-in-Number.field-0 c.in-Number.n (omega arith) c.in_ok-num-in-Number.ensures.ok.id

pub returns-in_ok-minus_zero-in-MinusZero-clause-stands :
    goal.returns-in_ok-minus_zero-in-MinusZero-clause-stands
returns-in_ok-minus_zero-in-MinusZero-clause-stands c =
    minus_zero_value c.minus_zero.new.bank c.in_ok-minus_zero-in-MinusZero.field-0 c.in_ok-minus_zero-in-MinusZero.ensures.ok
