-- Each literal so far is right.
use Rattle.std.specs.Prelude.{◌<◌, ℕ, get_or}
use Rattle.nq_bank.specs.declared.node.TermId.{TermId}
use Rattle.nq_bank.specs.Content.{term_at, terms_at}
use Rattle.nq_history.specs.Events.{events_at}
use Rattle.nq_types.specs.Shown.{IsAllowed, allowed_literals}
use Rattle.nq_types.proofs.judging.are_right.Given as goal

abbrev pub invariant-loop-literal : goal.invariant-loop-literal
invariant-loop-literal l =
    (k : ℕ) (d : TermId) → k < l.literal-index → IsAllowed l.bank (allowed_literals (events_at l.bank l.history) l.set.0 (terms_at l.bank l.assumed) (term_at l.bank l.t)) (get_or l.literals k d)
