-- The further literals of a fact, as cases.
use Rattle.std.specs.Prelude.{◌≡◌, ℕ, Bool, true, false, List, ◌∷◌, map}
use Rattle.nq_logic.specs.Terms.{Term}
use Rattle.nq_logic.specs.Words.{not_term}
use Rattle.nq_bank.specs.declared.node.TermId.{TermId}
use Rattle.nq_bank.specs.Content.{Content, term_at}
use Rattle.nq_proof.specs.Clauses.{Clause}
use Rattle.nq_history.specs.declared.entry.Entry.{Entry}
use Rattle.nq_kernel.specs.declared.work.Work.{Work}
use Rattle.nq_lines.specs.Lines.{IsTermIn, LineHasOnly}
use Rattle.nq_elim.specs.declared.cases.Case.{Case}

-- one of the two is the NOT of the other
abbrev pub AreOpposed : Bool → Term → Term → Type 0
AreOpposed true literal other = literal ≡ not_term other
AreOpposed false literal other = other ≡ not_term literal

-- a literal and its opposite, over the history
pub record CaseStands (history : List Entry) (work : Work) (c : Case) : Type 0 where
  pub literal : IsTermIn history work c.literal
  pub other : IsTermIn history work c.other
  pub opposed : AreOpposed c.denied (term_at work.bank c.literal) (term_at work.bank c.other)

-- the literals
abbrev pub literals_at : Content → List Case → Clause
literals_at bank cases = map (λ c. term_at bank c.literal) cases

-- the goal of a case has the opposite beside the goal's literals
abbrev pub next_ids : List Case → List TermId → List (List TermId)
next_ids cases goal = map (λ c. c.other ∷ goal) cases

abbrev pub case_goals : Content → List Case → Clause → List Clause
case_goals bank cases goal = map (λ c. term_at bank c.other ∷ goal) cases

-- line n is another without the literal, where a line has the opposite
abbrev pub CaseCloses : Work → Work → Case → ℕ → ℕ → ℕ → Type 0
CaseCloses old new c line other n =
    (these : List Term) → LineHasOnly old line (term_at old.bank c.literal ∷ these) → LineHasOnly old other (term_at old.bank c.other ∷ these) → LineHasOnly new n these
