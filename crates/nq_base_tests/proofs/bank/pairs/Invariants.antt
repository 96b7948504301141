use Rattle.nq_bank.specs.Content.{Grows}
use Rattle.nq_base_tests.proofs.bank.pairs.Given as goal

abbrev pub invariant-loop-i : goal.invariant-loop-i
invariant-loop-i l = Grows l.initial.bank l.bank
