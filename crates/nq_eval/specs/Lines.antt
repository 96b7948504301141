-- Lines of equations.
use Rattle.std.specs.Prelude.{◌≡◌, ◌≤◌, ℕ, List, [], ◌∷◌, Option, Some}
use Rattle.nq_logic.specs.Words.{equal_term}
use Rattle.nq_logic.specs.Sizes.{depth_of}
use Rattle.nq_proof.specs.Clauses.{Clause}
use Rattle.nq_proof.specs.Paths.{replaced_at}
use Rattle.nq_bank.specs.declared.node.TermId.{TermId}
use Rattle.nq_bank.specs.Content.{Content, Stands, term_at}
use Rattle.nq_history.specs.declared.entry.Entry.{Entry}
use Rattle.nq_rule.specs.Conclusions.{IsDeep}
use Rattle.nq_kernel.specs.declared.work.Work.{Work}
use Rattle.nq_kernel.specs.Over.{TermIsIn}
use Rattle.nq_kernel.specs.Growing.{WorkGrows, LineHolds}
use Rattle.nq_fragments.specs.Outcomes.{term_depth}
use Rattle.nq_eval.specs.declared.lines.Change.{Change}

-- no term of the clause is too deep
pub record IsShallow (clause : Option Clause) : Type 0 where
  pub not_deep : IsDeep clause → ⊥

-- the work grew, and no step was counted
pub record GrowsUncounted (history : List Entry) (old new : Work) : Type 0 where
  pub grows : WorkGrows history old new
  pub uncounted : new.counter ≡ old.counter

-- the term stands, is over the history's functions, and may have a value
pub record IsUsable (bank : Content) (history : List Entry) (t : TermId) : Type 0 where
  pub stands : Stands bank t
  pub over : TermIsIn bank history t
  pub shallow : depth_of (term_at bank t) ≤ term_depth

-- line n has the equation of t and u, and nothing else
abbrev pub Equates : Work → ℕ → TermId → TermId → Type 0
Equates work n t u = LineHolds work n (equal_term (term_at work.bank t) (term_at work.bank u) ∷ [])

-- in the equation of left and before a part is at the path, and with the other term there it is that of left and after
pub record CanChange (bank : Content) (history : List Entry) (path : List ℕ) (c : Change) : Type 0 where
  pub left : IsUsable bank history c.left
  pub before : IsUsable bank history c.before
  pub after : IsUsable bank history c.after
  pub part : IsUsable bank history c.part
  pub other : IsUsable bank history c.other
  pub at : replaced_at path (term_at bank c.other) (equal_term (term_at bank c.left) (term_at bank c.before)) ≡ Some (term_at bank c.part, equal_term (term_at bank c.left) (term_at bank c.after))
