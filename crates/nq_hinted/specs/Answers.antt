-- What is answered of a lemma with hints.
use Rattle.std.specs.Prelude.{◌≡◌, ℕ, true, [], ◌∷◌, All, List, Option, Some, None}
use Rattle.nq_bank.specs.declared.node.TermId.{TermId}
use Rattle.nq_bank.specs.Content.{Content, Stands, term_at, terms_at}
use Rattle.nq_clause.specs.Substitution.{substitution_at}
use Rattle.nq_proof.specs.Rules.{is_substitution}
use Rattle.nq_history.specs.declared.entry.Entry.{Entry}
use Rattle.nq_history.specs.declared.hints.Hints.{Hints}
use Rattle.nq_history.specs.declared.hints.Instance.{Instance}
use Rattle.nq_history.specs.Hints.{HintsStand}
use Rattle.nq_history.specs.Events.{events_at}
use Rattle.nq_event.specs.EventsAt.{hints_at}
use Rattle.nq_kernel.specs.declared.work.Work.{Work}
use Rattle.nq_lines.specs.Lines.{LineHasOnly}
use Rattle.nq_proof.specs.Clauses.{distinct}
use Rattle.nq_logic.specs.Terms.{Term}
use Rattle.nq_fragments.specs.Fragments.{IsInNoFragment}
use Rattle.nq_kernel.specs.Growing.{WorkStands}
use Rattle.nq_kernel.specs.Over.{TermIsIn}
use Rattle.nq_kernel.specs.Ready.{IsReady}
use Rattle.nq_lines.specs.Instances.{ArePairsIn}
use Rattle.nq_goals.specs.Hints.{first_goal}
use Rattle.nq_goals.specs.Decided.{IsHinted}

-- the variables of the instance are distinct
abbrev pub HasDistinctPairs : Content → Instance → Type 0
HasDistinctPairs bank i = is_substitution (substitution_at bank i.pairs.items) ≡ true

-- so are those of each instance of the hints, as they are where the hints are lawful
abbrev pub HaveDistinctPairs : Content → List Instance → Type 0
HaveDistinctPairs bank instances = All (HasDistinctPairs bank) instances

-- the lemma is in no fragment, and the instances of its hints have distinct variables
pub record CanBeHinted (history : List Entry) (hints : Hints) (work : Work) (goal : TermId) : Type 0 where
  pub stands : WorkStands history work
  pub ready : IsReady (events_at work.bank history)
  pub goal_stands : Stands work.bank goal
  pub over : TermIsIn work.bank history goal
  pub outside : IsInNoFragment (events_at work.bank history) (term_at work.bank goal)
  pub hints_stand : HintsStand work.bank hints
  pub pairs : All (λ i. ArePairsIn history work i.pairs.items) hints.instances.items

-- these are the literals of the lemma's first goal
pub record HasFirstGoal (history : List Entry) (hints : Hints) (bank : Content) (goal first : TermId) (rest : List TermId) : Type 0 where
  pub first_stands : Stands bank first
  pub rest_stand : All (Stands bank) rest
  pub literals : (term_at bank first ∷ terms_at bank rest) ≡ first_goal (events_at bank history) (hints_at bank hints) (term_at bank goal)

-- the lemma is hinted, and the line has only the lemma
pub record IsHintedLine (history : List Entry) (hints : Hints) (old new : Work) (goal : TermId) (line : ℕ) : Type 0 where
  pub hinted : IsHinted (events_at old.bank history) (hints_at old.bank hints) (term_at old.bank goal)
  pub holds : LineHasOnly new line (term_at old.bank goal ∷ [])

-- none where the lemma is not hinted, and else a line
abbrev pub IsHintedAnswer : List Entry → Hints → Work → Work → TermId → Option ℕ → Type 0
IsHintedAnswer history hints old new goal None = HaveDistinctPairs old.bank hints.instances.items → IsHinted (events_at old.bank history) (hints_at old.bank hints) (term_at old.bank goal) → ⊥
IsHintedAnswer history hints old new goal (Some line) = IsHintedLine history hints old new goal line

-- line n has only a lemma, of which these are the literals of the first goal: those that stand before the lemma, without later copies
abbrev pub UnwindsTo : Work → (List Term → List Term) → List Term → ℕ → Type 0
UnwindsTo new before goal n = (lemma : Term) → goal ≡ distinct (before (lemma ∷ [])) → LineHasOnly new n (lemma ∷ [])
