-- Why a variable can give way.
use Rattle.std.specs.Prelude.{◌≡◌, List, ◌∷◌, ◌++◌, map, All}
use Rattle.nq_logic.specs.Words.{not_term}
use Rattle.nq_bank.specs.declared.node.TermId.{TermId}
use Rattle.nq_bank.specs.Content.{Content, term_at, terms_at}
use Rattle.nq_proof.specs.Clauses.{Clause}
use Rattle.nq_history.specs.declared.entry.Entry.{Entry}
use Rattle.nq_kernel.specs.declared.work.Work.{Work}
use Rattle.nq_lines.specs.Lines.{IsTermIn, LineHasOnly}
use Rattle.nq_lines.specs.declared.facts.Fact.{Fact}
use Rattle.nq_elim.specs.declared.reasons.Reason.{Reason}
use Rattle.nq_elim.specs.Cases.{CaseStands}

-- the line of the fact has only it and these
pub record FactHolds (history : List Entry) (work : Work) (these : Clause) (f : Fact) : Type 0 where
  pub term : IsTermIn history work f.term
  pub says : LineHasOnly work f.line (term_at work.bank f.term ∷ these)

-- the denials of facts
abbrev pub denied_at : Content → List Fact → Clause
denied_at bank facts = map (λ f. not_term (term_at bank f.term)) facts

-- the line of each fact has only it, the literals of the cases, and those of the goal
pub record IsReason (history : List Entry) (work : Work) (goal : List TermId) (r : Reason) : Type 0 where
  pub equation : IsTermIn history work r.equation
  pub cases : All (CaseStands history work) r.cases.items
  pub rest_is : r.rest.items ≡ map (λ c. c.literal) r.cases.items ++ goal
  pub facts : All (FactHolds history work (terms_at work.bank r.rest.items)) r.facts.items

-- the denials of the facts, and then the rest
abbrev pub whole_at : Content → Reason → Clause
whole_at bank r = denied_at bank r.facts.items ++ terms_at bank r.rest.items
