-- Rules of axioms and lemmas that have a candidate in a goal, or none.
use Rattle.std.specs.Prelude.{◌≡◌, ◌⊎◌, true, ◌&&◌, List, [], ◌∷◌, ◌++◌, ⊤}
use Rattle.nq_logic.specs.Terms.{Name, Term, Variable, IsAmong}
use Rattle.nq_logic.specs.Words.{equal_term}
use Rattle.nq_logic.specs.Histories.{History, RuleClass, Event, AddShell, Declaration, Defines, Axiom, Lemma, Toggle}
use Rattle.nq_logic.specs.Ground.{all_events}
use Rattle.nq_logic.specs.RuleShapes.{rule_parts}
use Rattle.nq_bank.specs.declared.node.Sym.{Sym}
use Rattle.nq_bank.specs.declared.node.TermId.{TermId}
use Rattle.nq_bank.specs.Content.{Content, IsNamed, Stands, term_at, text_at}
use Rattle.nq_proof.specs.Clauses.{Clause}
use Rattle.nq_events.specs.Events.{Hints}
use Rattle.nq_goals.specs.Eliminating.{ElimRule, Eliminating, EliminateCandidate, event_rules, has_elim, rule_of_parts}
use Rattle.nq_goals.specs.Hints.{is_enabled_for}
use Rattle.nq_eliminate.specs.Serving.{IsRuleIn, IsServedBy, NoneServe, destructors_in}
use Rattle.nq_eliminate.specs.declared.finding.Candidate.{Candidate}
use Rattle.nq_eliminate.specs.declared.rules.Rule.{Rule}
use Rattle.nq_eliminate.specs.declared.serving.Served.{Served}

-- the rule of a term whose ids these are
abbrev pub rule_at : Content → Term → Rule → ElimRule
rule_at bank t r = record { hypotheses = (rule_parts t).hypotheses; made_of = term_at bank r.made_of; variable = text_at bank r.name }

-- the rule of a term, where it has one, is of these sides
pub record IsRule (bank : Content) (t : Term) (r : Rule) : Type 0 where
  pub is : IsRuleIn bank r
  pub conclusion : (rule_parts t).conclusion ≡ equal_term (term_at bank r.made_of) (Variable (text_at bank r.name))
  pub rule : rule_of_parts (rule_parts t) ≡ rule_at bank t r ∷ []

-- the term has no rule
abbrev pub HasNoRule : Term → Type 0
HasNoRule t = (rule : ElimRule) → IsAmong rule (rule_of_parts (rule_parts t)) → ⊥

-- no destructor call of the term's rule becomes one of the calls
abbrev pub TermServesNone : Clause → List Term → Term → Type 0
TermServesNone goal us t = (rule : ElimRule) → IsAmong rule (rule_of_parts (rule_parts t)) → NoneServe rule.variable goal rule.made_of us

-- the same of the term of an axiom or a lemma of the class that is enabled
abbrev pub EventServesNone : History → Hints → Clause → List Term → Event → Type 0
EventServesNone h hints goal us (AddShell s) = ⊤
EventServesNone h hints goal us (Declaration f n) = ⊤
EventServesNone h hints goal us (Defines d) = ⊤
EventServesNone h hints goal us (Axiom n classes t) = (has_elim classes && is_enabled_for h hints n) ≡ true → TermServesNone goal us t
EventServesNone h hints goal us (Lemma n classes t) = (has_elim classes && is_enabled_for h hints n) ≡ true → TermServesNone goal us t
EventServesNone h hints goal us (Toggle n old disabled) = ⊤

-- the rule of the term has a destructor call that becomes a call of the goal
pub record TermServes (bank : Content) (goal : Clause) (t : Term) (served : Served) : Type 0 where
  pub rule : IsRule bank t served.rule
  pub by : IsServedBy bank goal (destructors_in (text_at bank served.rule.name) (term_at bank served.rule.made_of)) (destructors_in (text_at bank served.rule.name) (term_at bank served.rule.made_of)) served.rule served

-- the same of an axiom or a lemma of the class that is enabled
pub record RuleServes (bank : Content) (h : History) (hints : Hints) (goal : Clause) (n : Name) (classes : List RuleClass) (t : Term) (served : Served) : Type 0 where
  pub enabled : (has_elim classes && is_enabled_for h hints n) ≡ true
  pub serves : TermServes bank goal t served

-- the candidate of an axiom or a lemma of this name and term
abbrev pub candidate_by : Sym → TermId → Served → Candidate
candidate_by name term served = record { name = name; term = term; served = served }

-- the same of one of these events
pub record IsCandidate (bank : Content) (h : History) (hints : Hints) (goal : Clause) (es : List Event) (c : Candidate) : Type 0 where
  pub name : IsNamed bank c.name
  pub term : Stands bank c.term
  pub classes : List RuleClass
  pub among : IsAmong (Axiom (text_at bank c.name) classes (term_at bank c.term)) es ⊎ IsAmong (Lemma (text_at bank c.name) classes (term_at bank c.term)) es
  pub serves : RuleServes bank h hints goal (text_at bank c.name) classes (term_at bank c.term) c.served

-- the rules of axioms and lemmas
abbrev pub own_rules : History → Hints → Event → List ElimRule
own_rules h hints (AddShell s) = []
own_rules h hints (Declaration f n) = []
own_rules h hints (Defines d) = []
own_rules h hints (Axiom n classes t) = event_rules h hints (Axiom n classes t)
own_rules h hints (Lemma n classes t) = event_rules h hints (Lemma n classes t)
own_rules h hints (Toggle n old disabled) = []

abbrev pub events_own_rules : History → Hints → List Event → List ElimRule
events_own_rules h hints [] = []
events_own_rules h hints (e ∷ es) = own_rules h hints e ++ events_own_rules h hints es

-- no enabled rule of an axiom or a lemma has a candidate in the goal
pub record HasNoneOfEvents (h : History) (hints : Hints) (goal : Clause) : Type 0 where
  pub none : (e : Eliminating) → IsAmong e.rule (events_own_rules h hints (all_events h)) → EliminateCandidate h hints goal e → ⊥

-- no rule has a candidate in the goal
pub record HasNoElimination (h : History) (hints : Hints) (goal : Clause) : Type 0 where
  pub none : (e : Eliminating) → EliminateCandidate h hints goal e → ⊥
