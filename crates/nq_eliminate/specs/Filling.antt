-- What the instance of the rule of an axiom or a lemma is made of, over ids.
use Rattle.std.specs.Prelude.{◌≡◌, ℕ, All, List, ◌∷◌, Some, map}
use Rattle.nq_logic.specs.RuleShapes.{rule_parts}
use Rattle.nq_logic.specs.Terms.{Term, Variable}
use Rattle.nq_logic.specs.Words.{equal_term}
use Rattle.nq_bank.specs.declared.node.TermId.{TermId}
use Rattle.nq_bank.specs.Content.{Content, IsNamed, term_at, terms_at, text_at}
use Rattle.nq_bank.specs.Parts.{parts_of}
use Rattle.nq_clause.specs.Substitution.{substitution_at}
use Rattle.nq_events.specs.Events.{Hints}
use Rattle.nq_goals.specs.Eliminating.{Eliminating, destructors as calls_of_rule, destructors_of, hypotheses_of, renaming_of, whole_of}
use Rattle.nq_goals.specs.NewVariables.{clause_variables, new_variables}
use Rattle.nq_history.specs.declared.entry.Entry.{Entry}
use Rattle.nq_history.specs.Events.{events_at}
use Rattle.nq_kernel.specs.declared.work.Work.{Work}
use Rattle.nq_lines.specs.Instances.{ArePairsIn}
use Rattle.nq_lines.specs.Lines.{IsTermIn}
use Rattle.nq_proof.specs.Rules.{event_term}
use Rattle.nq_eliminate.specs.Finding.{IsCandidate}
use Rattle.nq_eliminate.specs.Naming.{images_for}
use Rattle.nq_eliminate.specs.declared.finding.Candidate.{Candidate}
use Rattle.nq_eliminate.specs.declared.rule_instances.Filled.{Filled}
use Rattle.nq_eliminate.specs.declared.rule_instances.Filling.{Filling}
use Rattle.nq_eliminate.specs.declared.serving.Served.{Served}

-- it is a candidate, with some hints
pub record IsCandidateIn (history : List Entry) (work : Work) (goal : List TermId) (c : Candidate) : Type 0 where
  pub hints : Hints
  pub is : IsCandidate work.bank (events_at work.bank history) hints (terms_at work.bank goal) (events_at work.bank history) c

-- What each of these becomes, where the arguments of a destructor call become those of a call; so many new variables are taken in turn,
-- which the goal does not have.
abbrev pub images_named : Content → List TermId → Served → List Term → ℕ → List Term
images_named bank goal served own count = images_for (parts_of (term_at bank served.destructor)) (parts_of (term_at bank served.call)) own (map Variable (new_variables (clause_variables (terms_at bank goal)) count))

-- it has the terms of the elimination's rule, its variables and the pairs of these
pub record IsFilling (history : List Entry) (work : Work) (e : Eliminating) (p : Filling) : Type 0 where
  pub name : IsNamed work.bank p.name
  pub event : event_term (text_at work.bank p.name) (events_at work.bank history) ≡ Some (term_at work.bank p.term)
  pub term : IsTermIn history work p.term
  pub conclusion : (rule_parts (term_at work.bank p.term)).conclusion ≡ equal_term e.rule.made_of (Variable e.rule.variable)
  pub under : (rule_parts (term_at work.bank p.term)).hypotheses ≡ e.rule.hypotheses
  pub made_of : IsTermIn history work p.made_of
  pub made_of_is : term_at work.bank p.made_of ≡ e.rule.made_of
  pub destructors : All (IsTermIn history work) p.destructors.items
  pub destructors_are : terms_at work.bank p.destructors.items ≡ calls_of_rule e.rule
  pub hypotheses : All (IsTermIn history work) p.hypotheses.items
  pub hypotheses_are : terms_at work.bank p.hypotheses.items ≡ e.rule.hypotheses
  pub named : All (IsTermIn history work) p.named.items
  pub named_are : terms_at work.bank p.named.items ≡ map Variable (e.variable ∷ e.others)
  pub pairs : ArePairsIn history work p.pairs.items
  pub pairs_are : substitution_at work.bank p.pairs.items ≡ renaming_of e

-- so it is of some elimination
pub record IsFillingOfOne (history : List Entry) (work : Work) (p : Filling) : Type 0 where
  pub chosen : Eliminating
  pub is : IsFilling history work chosen p

-- the terms of the elimination
pub record IsFilled (history : List Entry) (work : Work) (e : Eliminating) (m : Filled) : Type 0 where
  pub whole : IsTermIn history work m.whole
  pub whole_is : term_at work.bank m.whole ≡ whole_of e
  pub calls : All (IsTermIn history work) m.calls.items
  pub calls_are : terms_at work.bank m.calls.items ≡ destructors_of e
  pub hypotheses : All (IsTermIn history work) m.hypotheses.items
  pub hypotheses_are : terms_at work.bank m.hypotheses.items ≡ hypotheses_of e
