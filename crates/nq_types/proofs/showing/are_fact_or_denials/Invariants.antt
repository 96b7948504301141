-- Each literal so far is right.
use Rattle.std.specs.Prelude.{◌<◌, ◌∷◌, ℕ, get_or}
use Rattle.nq_bank.specs.declared.node.TermId.{TermId}
use Rattle.nq_bank.specs.Content.{term_at, terms_at}
use Rattle.nq_types.specs.Shown.{IsAllowed}
use Rattle.nq_types.specs.TypeSets.{denials}
use Rattle.nq_types.proofs.showing.are_fact_or_denials.Given as goal

abbrev pub invariant-loop-literal : goal.invariant-loop-literal
invariant-loop-literal l = (k : ℕ) (d : TermId) → k < l.literal-index → IsAllowed l.bank (term_at l.bank l.fact ∷ denials (terms_at l.bank l.assumed)) (get_or l.literals k d)
