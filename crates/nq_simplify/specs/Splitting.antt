-- A literal with an IF, split in two goals.
use Rattle.std.specs.Prelude.{◌≡◌, ℕ, List, [], ◌∷◌, Some}
use Rattle.nq_logic.specs.Terms.{Term, IsAmong}
use Rattle.nq_logic.specs.Words.{not_term, if_term, equal_term}
use Rattle.nq_bank.specs.declared.node.TermId.{TermId}
use Rattle.nq_bank.specs.Content.{term_at}
use Rattle.nq_proof.specs.Paths.{replaced_at}
use Rattle.nq_history.specs.declared.entry.Entry.{Entry}
use Rattle.nq_kernel.specs.declared.work.Work.{Work}
use Rattle.nq_lines.specs.Lines.{AreAmong, LineHasOnly, IsTermIn}
use Rattle.nq_cases.specs.declared.choosing.Choice.{Choice}

-- the choice is one of t
pub record IsChoiceIn (history : List Entry) (work : Work) (t : TermId) (c : Choice) : Type 0 where
  pub whole : IsTermIn history work c.whole
  pub test : IsTermIn history work c.test
  pub first_branch : IsTermIn history work c.first_branch
  pub second_branch : IsTermIn history work c.second_branch
  pub first : IsTermIn history work c.first
  pub second : IsTermIn history work c.second
  pub is : term_at work.bank c.whole ≡ if_term (term_at work.bank c.test) (term_at work.bank c.first_branch) (term_at work.bank c.second_branch)
  pub at_first : replaced_at c.path.items (term_at work.bank c.first_branch) (term_at work.bank t) ≡ Some (term_at work.bank c.whole, term_at work.bank c.first)
  pub at_second : replaced_at c.path.items (term_at work.bank c.second_branch) (term_at work.bank t) ≡ Some (term_at work.bank c.whole, term_at work.bank c.second)

-- the lines say which branch the IF is equal to, where its test holds and where it doesn't
pub record RowsShow (work : Work) (c : Choice) (first second : ℕ) : Type 0 where
  pub at_first : LineHasOnly work first (equal_term (term_at work.bank c.whole) (term_at work.bank c.first_branch) ∷ not_term (term_at work.bank c.test) ∷ [])
  pub at_second : LineHasOnly work second (equal_term (term_at work.bank c.whole) (term_at work.bank c.second_branch) ∷ term_at work.bank c.test ∷ [])

-- the lines say which choice t is equal to, where its test holds and where it doesn't
pub record LinesShow (work : Work) (t : TermId) (c : Choice) (first second : ℕ) : Type 0 where
  pub at_first : LineHasOnly work first (equal_term (term_at work.bank t) (term_at work.bank c.first) ∷ not_term (term_at work.bank c.test) ∷ [])
  pub at_second : LineHasOnly work second (equal_term (term_at work.bank t) (term_at work.bank c.second) ∷ term_at work.bank c.test ∷ [])

-- the next goal is the goal with two literals in the place of t
pub record IsPut (t q l : Term) (goal next : List Term) : Type 0 where
  pub there : IsAmong t goal
  pub test : IsAmong q next
  pub choice : IsAmong l next
  pub less : AreAmong next (q ∷ l ∷ goal)
  pub rest : AreAmong goal (t ∷ next)
