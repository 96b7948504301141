-- Goals in which new variables took the places of terms.
use Rattle.std.specs.Prelude.{◌≡◌, ℕ, List, [], ◌∷◌, map}
use Rattle.nq_logic.specs.Terms.{Name, Term, IsAmong}
use Rattle.nq_logic.specs.Admissible.{AreDistinct}
use Rattle.nq_bank.specs.declared.node.TermId.{TermId}
use Rattle.nq_bank.specs.Content.{terms_at}
use Rattle.nq_clause.specs.declared.substitution.Pair.{Pair}
use Rattle.nq_clause.specs.Substitution.{substitution_at}
use Rattle.nq_proof.specs.Clauses.{Clause, distinct}
use Rattle.nq_history.specs.declared.entry.Entry.{Entry}
use Rattle.nq_kernel.specs.declared.work.Work.{Work}
use Rattle.nq_lines.specs.Lines.{LineHasOnly}
use Rattle.nq_lines.specs.Instances.{ArePairsIn}
use Rattle.nq_moves.specs.declared.moved.Moved.{Moved}
use Rattle.nq_goals.specs.Replacing.{exchanged}
use Rattle.nq_goals.specs.Generalizing.{exchange_of}
use Rattle.nq_moves.specs.Found.{goals_at, GoalsStand}
use Rattle.nq_moves.specs.Laws.{AreNew, terms_for}

-- no variable of these stands in one of the literals
abbrev pub AreNewIn : List Name → Clause → Type 0
AreNewIn xs c = (t : Term) → IsAmong t c → AreNew xs t

-- line n has the literals, where the other line has them with new variables in the places of terms
abbrev pub ComesBack : Work → Work → List Pair → ℕ → ℕ → Type 0
ComesBack old new pairs line n =
    (xs : List Name) (ts : List Term) (c : Clause) → substitution_at old.bank pairs ≡ terms_for xs ts → AreDistinct xs → AreNewIn xs c →
    LineHasOnly old line (map (exchanged (exchange_of ts xs)) c) → LineHasOnly new n c

-- the move leads to the goal with new variables in the places of terms
pub record IsRenamed (history : List Entry) (work : Work) (goal : List TermId) (moved : Moved) : Type 0 where
  pub names : List Name
  pub terms : List Term
  pub stand : GoalsStand work.bank moved.children.items
  pub leads : goals_at work.bank moved.children.items ≡ distinct (map (exchanged (exchange_of terms names)) (terms_at work.bank goal)) ∷ []
  pub pairs : substitution_at work.bank moved.why.pairs.items ≡ terms_for names terms
  pub over : ArePairsIn history work moved.why.pairs.items
  pub apart : AreDistinct names
  pub new : AreNewIn names (terms_at work.bank goal)
