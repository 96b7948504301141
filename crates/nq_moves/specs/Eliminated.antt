-- Goals in which a variable gave way to what a rule says that it is made of.
use Rattle.std.specs.Prelude.{◌≡◌, ℕ, List, [], ◌∷◌, ◌++◌, map, All, Some}
use Rattle.nq_logic.specs.Terms.{Name, Term, Variable, substituted}
use Rattle.nq_logic.specs.Admissible.{AreDistinct}
use Rattle.nq_logic.specs.Words.{not_term, equal_term}
use Rattle.nq_bank.specs.declared.node.TermId.{TermId}
use Rattle.nq_bank.specs.Content.{Content, Stands, IsNamed, text_at, term_at, terms_at}
use Rattle.nq_clause.specs.Substitution.{substitution_at}
use Rattle.nq_proof.specs.Clauses.{Clause, distinct}
use Rattle.nq_history.specs.declared.entry.Entry.{Entry}
use Rattle.nq_kernel.specs.declared.work.Work.{Work}
use Rattle.nq_lines.specs.Lines.{IsTermIn, LineHasOnly}
use Rattle.nq_lines.specs.Instances.{ArePairsIn}
use Rattle.nq_goals.specs.Eliminating.{hypothesis_goal}
use Rattle.nq_goals.specs.Generalizing.{exchange_of}
use Rattle.nq_goals.specs.Replacing.{exchanged}
use Rattle.nq_moves.specs.declared.moved.Eliminated.{Eliminated}
use Rattle.nq_moves.specs.declared.moved.Moved.{Moved}
use Rattle.nq_moves.specs.Dropped.{HoldChildren}
use Rattle.nq_moves.specs.Found.{goals_at, GoalsStand}
use Rattle.nq_moves.specs.Laws.{terms_for}
use Rattle.nq_moves.specs.Renamed.{AreNewIn}

-- the goal where the hypotheses hold
abbrev pub stated_goal : Content → List TermId → Eliminated → Clause
stated_goal bank goal e = terms_at bank goal ++ map not_term (terms_at bank e.hypotheses.items)

-- the same where the equation holds too
abbrev pub whole_goal : Content → List TermId → Eliminated → Clause
whole_goal bank goal e = not_term (term_at bank e.equation) ∷ stated_goal bank goal e

-- the goal with the new variables, and with what the variable is made of in its place
abbrev pub made_goal : Content → Eliminated → Clause
made_goal bank e = distinct (map (substituted ((text_at bank e.name, term_at bank e.made_of) ∷ [])) (terms_at bank e.renamed.items))

-- a goal for each hypothesis, and the one where they hold
abbrev pub eliminated_goals : Content → List TermId → Eliminated → List Clause
eliminated_goals bank goal e = map (hypothesis_goal (terms_at bank goal)) (terms_at bank e.hypotheses.items) ++ (made_goal bank e ∷ [])

-- the first of these lines have only literals of these goals
pub record HoldFirst (work : Work) (goals : List Clause) (lines : List ℕ) : Type 0 where
  pub rest : List Clause
  pub hold : HoldChildren work (goals ++ rest) lines

-- what was kept serves to go back from lines of these goals
pub record IsElimination (history : List Entry) (work : Work) (goal : List TermId) (e : Eliminated) : Type 0 where
  pub names : List Name
  pub terms : List Term
  pub name : IsNamed work.bank e.name
  pub variable : IsTermIn history work e.variable
  pub variable_is : term_at work.bank e.variable ≡ Variable (text_at work.bank e.name)
  pub made_of : IsTermIn history work e.made_of
  pub equation : IsTermIn history work e.equation
  pub hypotheses : All (IsTermIn history work) e.hypotheses.items
  pub says : LineHasOnly work e.line (term_at work.bank e.equation ∷ map not_term (terms_at work.bank e.hypotheses.items))
  pub denial : Stands work.bank e.denial
  pub denies : term_at work.bank e.denial ≡ not_term (equal_term (term_at work.bank e.made_of) (term_at work.bank e.variable))
  pub renamed : All (IsTermIn history work) e.renamed.items
  pub renaming : term_at work.bank e.denial ∷ terms_at work.bank e.renamed.items ≡ map (exchanged (exchange_of terms names)) (whole_goal work.bank goal e)
  pub pairs : substitution_at work.bank e.pairs.items ≡ terms_for names terms
  pub over : ArePairsIn history work e.pairs.items
  pub apart : AreDistinct names
  pub new : AreNewIn names (whole_goal work.bank goal e)

-- the move leads to the goals of an elimination
pub record IsEliminated (history : List Entry) (work : Work) (goal : List TermId) (moved : Moved) : Type 0 where
  pub elimination : Eliminated
  pub kept : moved.why.eliminated ≡ Some elimination
  pub serves : IsElimination history work goal elimination
  pub leads : goals_at work.bank moved.children.items ≡ eliminated_goals work.bank goal elimination
  pub stand : GoalsStand work.bank moved.children.items
