-- The literals so far are there.
use Rattle.std.proofs.Common.{◌≡◌, ◌++◌, take}
use Rattle.nq_bank.specs.Content.{terms_at}
use Rattle.nq_answers.specs.Goals.{more_literals}
use Rattle.nq_first_goal.proofs.texts.more_literals.Given as goal

abbrev pub invariant-loop-literal : goal.invariant-loop-literal
invariant-loop-literal l = l.text.items ≡ l.fn.text.items ++ more_literals (terms_at l.bank (take l.literal-index l.literals))
