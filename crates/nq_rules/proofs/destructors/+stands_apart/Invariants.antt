-- In no argument so far the variable stands apart.
use Rattle.std.proofs.Common.{◌≡◌, drop}
use Rattle.std.specs.List.{list_any}
use Rattle.nq_bank.specs.Content.{text_at, terms_at}
use Rattle.nq_rules.proofs.DestructorLemmas.{apart}
use Rattle.nq_rules.proofs.destructors.+stands_apart.Given as goal

abbrev pub decreases-stands_apart : goal.decreases-stands_apart
decreases-stands_apart l = l.t.0

abbrev pub invariant-loop-a : goal.invariant-loop-a
invariant-loop-a l = list_any (apart (text_at l.bank l.x)) (terms_at l.bank (drop l.a-index l.arguments)) ≡ list_any (apart (text_at l.bank l.x)) (terms_at l.bank l.arguments)
