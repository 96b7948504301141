-- The goals to which eliminations lead, and the ways back.
use Rattle.std.specs.Prelude.{◌≡◌, List, [], ◌∷◌, map, All, Vec}
use Rattle.std.specs.declared.alloc.Global.{Global}
use Rattle.nq_logic.specs.Admissible.{AreDistinct}
use Rattle.nq_bank.specs.declared.node.TermId.{TermId}
use Rattle.nq_bank.specs.Content.{terms_at}
use Rattle.nq_clause.specs.Substitution.{substitution_at}
use Rattle.nq_proof.specs.Clauses.{Clause}
use Rattle.nq_history.specs.declared.entry.Entry.{Entry}
use Rattle.nq_kernel.specs.declared.work.Work.{Work}
use Rattle.nq_kernel.specs.Growing.{WorkStands, WorkGrows}
use Rattle.nq_kernel.specs.Over.{pair_names}
use Rattle.nq_lines.specs.Lines.{IsTermIn}
use Rattle.nq_lines.specs.Instances.{ArePairsIn}
use Rattle.nq_goals.specs.Replacing.{exchanged}
use Rattle.nq_moves.specs.declared.naming.Renaming.{Renaming}
use Rattle.nq_moves.specs.Naming.{exchange_by}
use Rattle.nq_moves.specs.Renamed.{AreNewIn}
use Rattle.nq_moves.specs.Ways.{IsMove}
use Rattle.nq_elim.specs.declared.making.Elimination.{Elimination}
use Rattle.nq_elim.specs.Cases.{next_ids}
use Rattle.nq_elim.specs.Reasons.{IsReason, whole_at}

-- the ids of some goals
abbrev pub ids_of : List (Vec TermId Global) → List (List TermId)
ids_of goals = map (λ goal. goal.items) goals

-- the clause with new variables in the places of terms
pub record IsRenamedClause (history : List Entry) (work : Work) (c : Clause) (r : Renaming) : Type 0 where
  pub over : ArePairsIn history work r.pairs.items
  pub apart : AreDistinct (pair_names (substitution_at work.bank r.pairs.items))
  pub new : AreNewIn (pair_names (substitution_at work.bank r.pairs.items)) c
  pub renamed : terms_at work.bank r.literals.items ≡ map (exchanged (exchange_by (substitution_at work.bank r.pairs.items))) c
  pub literals_in : All (IsTermIn history work) r.literals.items

-- From lines of the goals comes a line of the goal: the first goal is that to which a move led from the goal beside the denied facts
-- and the literals of the cases, with new variables in the places of terms; the others are those of the cases.
pub record IsEliminationWay (history : List Entry) (work : Work) (goal : List TermId) (e : Elimination) : Type 0 where
  pub reason : IsReason history work goal e.reason
  pub renaming : IsRenamedClause history work (whole_at work.bank e.reason) e.renaming
  pub moved : IsMove history work e.renaming.literals.items e.moved
  pub first : List TermId
  pub moved_to : ids_of e.moved.children.items ≡ first ∷ []
  pub nexts_are : ids_of e.nexts.items ≡ first ∷ next_ids e.reason.cases.items goal
  pub nexts_in : All (λ next. All (IsTermIn history work) next.items) e.nexts.items

-- a way back serves however the work grows
abbrev pub EliminationsLast : Type 0
EliminationsLast =
    (history : List Entry) (old new : Work) (goal : List TermId) (e : Elimination) → WorkStands history old → WorkGrows history old new → All (IsTermIn history old) goal →
    IsEliminationWay history old goal e → IsEliminationWay history new goal e
