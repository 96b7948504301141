-- What stands for the variable stands in a place that is left.
use Rattle.std.proofs.Common.{◌≡◌}
use Rattle.nq_logic.specs.Terms.{value_at}
use Rattle.nq_logic.specs.Admissible.{matched}
use Rattle.nq_bank.specs.Content.{text_at, terms_at}
use Rattle.nq_bank.specs.Shells.{texts_at}
use Rattle.nq_calls.proofs.FallLemmas.{matched_from}
use Rattle.nq_measures.proofs.sizes.argument_for.Given as goal

abbrev pub invariant-loop-place : goal.invariant-loop-place
invariant-loop-place l =
    value_at (matched_from l.bank l.formals l.arguments l.place) (text_at l.bank l.x) ≡ value_at (matched (texts_at l.bank l.formals) (terms_at l.bank l.arguments)) (text_at l.bank l.x)
