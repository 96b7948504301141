-- The answer so far is that of the literals so far.
use Rattle.std.proofs.Common.{◌≡◌, take}
use Rattle.nq_bank.specs.Content.{term_at, terms_at}
use Rattle.nq_goals.specs.Generalizing.{is_on_both_sides_of_one}
use Rattle.nq_generalize.proofs.twice.is_on_both_sides_of_one.Given as goal

abbrev pub invariant-loop-literal : goal.invariant-loop-literal
invariant-loop-literal l = l.found ≡ is_on_both_sides_of_one (term_at l.bank l.a) (terms_at l.bank (take l.literal-index l.goal))
