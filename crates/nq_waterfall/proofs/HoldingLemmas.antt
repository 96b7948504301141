-- A goal is derivable of which a line has only literals.
use Rattle.std.proofs.Common.{ℕ, List, [], ◌∷◌, refl, inl, inr}
use Rattle.nq_logic.specs.Terms.{Term, IsAmong, Each}
use Rattle.nq_logic.specs.Formulas.{clause}
use Rattle.nq_logic.specs.Derivations.{Derivable}
use Rattle.nq_logic.specs.Laws.{IsClause}
use Rattle.nq_logic.proofs.Clauses.{more_literals}
use Rattle.nq_bank.specs.declared.node.TermId.{TermId}
use Rattle.nq_bank.specs.Content.{terms_at}
use Rattle.nq_bank.proofs.NodesLemmas.{All-head, All-tail}
use Rattle.nq_history.specs.declared.entry.Entry.{Entry}
use Rattle.nq_history.specs.Events.{events_at}
use Rattle.nq_kernel.specs.declared.work.Work.{Work}
use Rattle.nq_kernel.specs.Ready.{WorkHolds}
use Rattle.nq_kernel.specs.ReadyLaws.{ReadyGrown, GrownWorkHolds}
use Rattle.nq_lines.specs.Lines.{IsTermIn, LineHasOnly}
use Rattle.nq_waterfall.specs.Ready.{IsGoalIn, HoldingLaws}

pub goal_over : (history : List Entry) (work : Work) (goal : List TermId) → IsGoalIn history work goal → IsClause (events_at work.bank history) (terms_at work.bank goal)
goal_over history work [] h = tt
goal_over history work (t ∷ goal) h = ((All-head (IsTermIn history work) t goal h).over.over, goal_over history work goal (All-tail (IsTermIn history work) t goal h))

each_of : (c d : List Term) → ((t : Term) → IsAmong t c → IsAmong t d) → Each (λ p. IsAmong p d) c
each_of [] d f = tt
each_of (x ∷ c) d f = (f x (inl refl), each_of c d (λ t m. f t (inr m)))

pub goal_derivable : (history : List Entry) (work : Work) (goal : List TermId) (line : ℕ) → WorkHolds history work → IsGoalIn history work goal → LineHasOnly work line (terms_at work.bank goal) → Derivable (events_at work.bank history) (clause (terms_at work.bank goal))
goal_derivable history work goal line holds over has =
    more_literals (events_at work.bank history) has.literals (terms_at work.bank goal) (holds line has.literals has.stands) (goal_over history work goal over) (each_of has.literals (terms_at work.bank goal) has.only)

pub holding_laws : ReadyGrown → GrownWorkHolds → HoldingLaws
holding_laws ready grown = record {
  ready = ready;
  grown = grown;
  derivable = λ history work goal line holds over has. goal_derivable history work goal line holds over has;
}
