-- Each id so far is among these.
use Rattle.std.proofs.Common.{◌<◌, ℕ, get_or}
use Rattle.nq_logic.specs.Terms.{IsAmong}
use Rattle.nq_bank.specs.declared.node.TermId.{TermId}
use Rattle.nq_bank.specs.Content.{term_at, terms_at}
use Rattle.nq_elim.proofs.lists.are_among.Given as goal

abbrev pub invariant-loop-t : goal.invariant-loop-t
invariant-loop-t l = (k : ℕ) (d : TermId) → k < l.t-index → IsAmong (term_at l.bank (get_or l.ids k d)) (terms_at l.bank l.these)
