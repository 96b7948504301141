-- Which other terms of a proposition are still neither true nor false.
use Rattle.std.specs.Prelude.{◌≡◌, ◌<◌, ◌⊎◌, false, List, [], ◌∷◌, All, ⊤}
use Rattle.nq_logic.specs.Terms.{Term, IsAmong}
use Rattle.nq_logic.specs.Sizes.{depth_of, depth_limit}
use Rattle.nq_proof.specs.Clauses.{has_term}
use Rattle.nq_bank.specs.declared.node.TermId.{TermId}
use Rattle.nq_bank.specs.Content.{Content, Stands, term_at, terms_at}
use Rattle.nq_history.specs.declared.entry.Entry.{Entry}
use Rattle.nq_quick.specs.declared.assignments.Assignment.{Assignment}
use Rattle.nq_fragments.specs.Propositions.{Proposition, proposition_of, others_in}
use Rattle.nq_fragments.specs.Tautologies.{IsSmallTautology}
use Rattle.nq_quick.specs.Lines.{denial}
use Rattle.nq_quick.specs.Decisions.{AssignmentStands, IsInHistory, trues_at, denials_at}

-- none of the terms stands twice
abbrev pub AreDifferent : List Term → Type 0
AreDifferent [] = ⊤
AreDifferent (t ∷ ts) = (has_term t ts ≡ false) × AreDifferent ts

-- Each other term of the proposition is one of the atoms or is denied. The atoms are other terms of it; none is true yet, and
-- each has room under a NOT.
pub record Covers (atoms trues denials : List Term) (p : Proposition) : Type 0 where
  pub others : (u : Term) → IsAmong u atoms → IsAmong u (others_in p)
  pub different : AreDifferent atoms
  pub apart : (u : Term) → IsAmong u atoms → has_term u trues ≡ false
  pub shallow : (u : Term) → IsAmong u atoms → depth_of u < depth_limit
  pub covered : (u : Term) → IsAmong u (others_in p) → IsAmong u atoms ⊎ IsAmong (denial (has_term u trues) u) denials

-- t is a tautology, and its other terms are these and those that the assignment makes true or false
pub record CanProve (bank : Content) (history : List Entry) (t : TermId) (others : List TermId) (a : Assignment) : Type 0 where
  pub goal : Stands bank t
  pub over : IsInHistory bank history t
  pub tautology : IsSmallTautology (term_at bank t)
  pub atoms : All (Stands bank) others
  pub assignment : AssignmentStands bank a
  pub covers : Covers (terms_at bank others) (trues_at bank a) (denials_at bank a) (proposition_of (term_at bank t))
