-- Instances of elimination rules over ids, and what their ELIM leads to.
use Rattle.std.specs.Prelude.{◌≡◌, true, false, List, [], ◌∷◌, map, All, Vec}
use Rattle.std.specs.declared.alloc.Global.{Global}
use Rattle.nq_logic.specs.Terms.{Name, Term, Variable, Each, IsAmong}
use Rattle.nq_logic.specs.Histories.{History}
use Rattle.nq_logic.specs.Values.{is_value}
use Rattle.nq_logic.specs.Words.{not_term, equal_term}
use Rattle.nq_bank.specs.declared.node.TermId.{TermId}
use Rattle.nq_bank.specs.Content.{Content, IsNamed, text_at, term_at, terms_at}
use Rattle.nq_proof.specs.Clauses.{Clause}
use Rattle.nq_history.specs.declared.entry.Entry.{Entry}
use Rattle.nq_kernel.specs.declared.work.Work.{Work}
use Rattle.nq_lines.specs.Lines.{IsTermIn, LineHasOnly}
use Rattle.nq_events.specs.Events.{Hints}
use Rattle.nq_goals.specs.Eliminating.{Eliminating, EliminateCandidate, EliminateMove, destructors_of, eliminated_goal, hypotheses_of, whole_of}
use Rattle.nq_goals.specs.Generalizing.{exchange_of}
use Rattle.nq_goals.specs.Replacing.{exchanged}
use Rattle.nq_moves.specs.Eliminated.{made_goal}
use Rattle.nq_moves.specs.Found.{goals_at}
use Rattle.nq_moves.specs.Naming.{occurs_in_one}
use Rattle.nq_moves.specs.declared.moved.Eliminated.{Eliminated}
use Rattle.nq_moves.specs.declared.moved.Moved.{Moved}
use Rattle.nq_eliminate.specs.declared.instances.Instance.{Instance}

-- the equation of an elimination
abbrev pub equation_of : Eliminating → Term
equation_of e = equal_term (whole_of e) (Variable e.variable)

-- the ids are those of the elimination's terms, and the line has its equation under its hypotheses
pub record IsInstance (history : List Entry) (work : Work) (e : Eliminating) (r : Instance) : Type 0 where
  pub name : IsNamed work.bank r.name
  pub named : text_at work.bank r.name ≡ e.variable
  pub variable : IsTermIn history work r.variable
  pub variable_is : term_at work.bank r.variable ≡ Variable e.variable
  pub others : All (IsTermIn history work) r.others.items
  pub others_are : terms_at work.bank r.others.items ≡ map Variable e.others
  pub whole : IsTermIn history work r.whole
  pub whole_is : term_at work.bank r.whole ≡ whole_of e
  pub calls : All (IsTermIn history work) r.calls.items
  pub calls_are : terms_at work.bank r.calls.items ≡ destructors_of e
  pub hypotheses : All (IsTermIn history work) r.hypotheses.items
  pub hypotheses_are : terms_at work.bank r.hypotheses.items ≡ hypotheses_of e
  pub says : LineHasOnly work r.line (equation_of e ∷ map not_term (hypotheses_of e))

-- The elimination's terms have no variables but the eliminated one and the others. Its destructor calls are no values, and stand in its
-- equation within the whole alone.
pub record IsPlain (e : Eliminating) : Type 0 where
  pub values : Each (λ t. is_value t ≡ false) (destructors_of e)
  pub variables : (y : Name) → occurs_in_one y (whole_of e ∷ equation_of e ∷ hypotheses_of e) ≡ true → IsAmong y (e.variable ∷ e.others)
  pub within : (xs : List Name) → exchanged (exchange_of (destructors_of e) xs) (not_term (equation_of e)) ≡ not_term (equal_term (exchanged (exchange_of (destructors_of e) xs) (whole_of e)) (Variable e.variable))

-- it is the instance of an elimination
pub record IsInstanceOfOne (history : List Entry) (work : Work) (r : Instance) : Type 0 where
  pub chosen : Eliminating
  pub plain : IsPlain chosen
  pub instance : IsInstance history work chosen r

-- what was kept leads to the goals of an ELIM without facts
pub record IsChosen (h : History) (hints : Hints) (path : List Clause) (goal : Clause) (bank : Content) (d : Eliminated) : Type 0 where
  pub chosen : Eliminating
  pub candidate : EliminateCandidate h hints goal chosen
  pub hypotheses : terms_at bank d.hypotheses.items ≡ hypotheses_of chosen
  pub made : made_goal bank d ≡ eliminated_goal path goal chosen []

-- the move leads from the goal on the path to the goals of an ELIM
pub record Eliminates (h : History) (hints : Hints) (old new : Content) (path : List (Vec TermId Global)) (goal : List TermId) (moved : Moved) : Type 0 where
  pub leads : EliminateMove h hints (goals_at old path) (terms_at old goal) (goals_at new moved.children.items)

-- what was kept is that of each elimination of which this is the instance
pub record IsChosenOf (history : List Entry) (old new : Work) (path : List (Vec TermId Global)) (goal : List TermId) (r : Instance) (d : Eliminated) : Type 0 where
  pub each : (h : History) (hints : Hints) (e : Eliminating) → EliminateCandidate h hints (terms_at old.bank goal) e → IsPlain e → IsInstance history old e r → IsChosen h hints (goals_at old.bank path) (terms_at old.bank goal) new.bank d

-- so is the move
pub record EliminatesOf (history : List Entry) (old new : Work) (path : List (Vec TermId Global)) (goal : List TermId) (r : Instance) (moved : Moved) : Type 0 where
  pub each : (h : History) (hints : Hints) (e : Eliminating) → EliminateCandidate h hints (terms_at old.bank goal) e → IsPlain e → IsInstance history old e r → Eliminates h hints old.bank new.bank path goal moved
