-- No argument so far holds a destructor call.
use Rattle.std.proofs.Common.{◌≡◌, drop}
use Rattle.std.specs.List.{list_any}
use Rattle.nq_bank.specs.Content.{text_at, terms_at}
use Rattle.nq_rules.proofs.DestructorLemmas.{holds}
use Rattle.nq_rules.proofs.destructors.+has_destructor_call.Given as goal

abbrev pub decreases-has_destructor_call : goal.decreases-has_destructor_call
decreases-has_destructor_call l = l.t.0

abbrev pub invariant-loop-a : goal.invariant-loop-a
invariant-loop-a l = list_any (holds (text_at l.bank l.x)) (terms_at l.bank (drop l.a-index l.arguments)) ≡ list_any (holds (text_at l.bank l.x)) (terms_at l.bank l.arguments)
