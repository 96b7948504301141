-- Inductions by one case, over ids, and what is found of them.
use Rattle.std.specs.Prelude.{◌≡◌, true, false, All, None, Some, List, [], ◌∷◌, length}
use Rattle.nq_logic.specs.Terms.{Name, Term, IsAmong, Substitution}
use Rattle.nq_logic.specs.Histories.{History}
use Rattle.nq_logic.specs.Laws.{InductionCase}
use Rattle.nq_bank.specs.declared.node.TermId.{TermId}
use Rattle.nq_bank.specs.Content.{Content, Stands, text_at, term_at, terms_at}
use Rattle.nq_clause.specs.Substitution.{PairStands, substitution_at}
use Rattle.nq_goals.specs.Replacing.{parts_in}
use Rattle.nq_events.specs.Events.{Hints}
use Rattle.nq_goals.specs.Moves.{HasNoCandidate}
use Rattle.nq_goals.specs.Normal.{IsNormal}
use Rattle.nq_goals.specs.Inducting.{Scheme, IsScheme, goals_of_scheme, suggesting_in, base_case, step_case}
use Rattle.nq_logic.specs.Histories as logic
use Rattle.nq_logic.specs.Numerals.{number_of}
use Rattle.nq_logic.specs.Admissible.{Call, calls_of}
use Rattle.nq_events.specs.Inductions.{suggests_by, suggests_induction}
use Rattle.nq_event.specs.declared.definitions.Definition.{Definition}
use Rattle.nq_event.specs.Definitions.{definition_at}
use Rattle.nq_calls.specs.Mentions.{IsApart}
use Rattle.nq_tracer.specs.Cases.{case_by, case_of}
use Rattle.nq_tracer.specs.declared.drafts.Draft.{Draft}
use Rattle.nq_tracer.specs.declared.nexts.Nexts.{Nexts}

-- the case that a draft stands for
abbrev pub draft_at : Content → Draft → InductionCase
draft_at bank r = record { test = term_at bank r.test; substitutions = substitution_at bank r.pairs.items ∷ [] }

pub record DraftStands (bank : Content) (r : Draft) : Type 0 where
  pub test : Stands bank r.test
  pub pairs : All (PairStands bank) r.pairs.items

-- the term stands in the other, perhaps as itself
pub record IsPartAt (bank : Content) (whole t : TermId) : Type 0 where
  pub stands : Stands bank t
  pub among : IsAmong (term_at bank t) (parts_in (term_at bank whole))

-- the term stands in a literal of the goal, perhaps as itself
pub record IsPartIn (bank : Content) (goal : List TermId) (t : TermId) : Type 0 where
  pub literal : TermId
  pub among : IsAmong literal goal
  pub part : IsPartAt bank literal t

-- these two are the goals of an induction on the goal by a scheme that these calls suggest
pub record IsInductionBy (h : History) (calls goal : List Term) (base step : Term) : Type 0 where
  pub scheme : Scheme
  pub suggested : IsScheme h calls scheme
  pub next : (base ∷ []) ∷ (step ∷ []) ∷ [] ≡ goals_of_scheme goal scheme

-- the same by a scheme that the calls of the goal suggest
abbrev pub IsInduction : History → List Term → Term → Term → Type 0
IsInduction h goal base step = IsInductionBy h (suggesting_in h goal) goal base step

-- the call suggests an induction, and these two are the goals of one by any calls among which it is
pub record IsInductionOf (h : History) (call : Term) (goal : List Term) (base step : Term) : Type 0 where
  pub suggests : suggests_induction h call ≡ true
  pub by : (calls : List Term) → IsAmong call calls → IsInductionBy h calls goal base step

pub record NextsStand (bank : Content) (n : Nexts) : Type 0 where
  pub base : Stands bank n.base
  pub step : Stands bank n.step

-- the goals are those of the case that this call gives
pub record LeadsFrom (formals : List Name) (m : Term) (here : Substitution) (call : Call) (p : Term) (bank : Content) (n : Nexts) : Type 0 where
  pub base : term_at bank n.base ≡ base_case p (case_by formals m here call ∷ [])
  pub step : term_at bank n.step ≡ step_case p (case_by formals m here call)

-- the goals are those of the case that some call in the body gives
pub record LeadsBy (d : logic.Definition) (m : Term) (arguments : List Term) (p : Term) (bank : Content) (n : Nexts) : Type 0 where
  pub call : Call
  pub among : IsAmong call (calls_of d.function d.body)
  pub base : term_at bank n.base ≡ base_case p (case_of d m arguments call ∷ [])
  pub step : term_at bank n.step ≡ step_case p (case_of d m arguments call)

-- The term is a call that suggests an induction by the measure of the definition, with an argument for each formal. The function
-- builds no numeral.
pub record IsSuggestedBy (bank : Content) (d : Definition) (measure t : TermId) (arguments : List TermId) : Type 0 where
  pub apart : IsApart (text_at bank d.name)
  pub count : length arguments ≡ length d.formals.now
  pub call : number_of (term_at bank t) ≡ None
  pub suggests : suggests_by (definition_at bank d) (Some (term_at bank measure)) (terms_at bank arguments) ≡ true

-- no hint forbids an induction, or says by which call it goes
pub record IsFree (hints : Hints) : Type 0 where
  pub allowed : hints.no_induct ≡ false
  pub free : hints.induct ≡ None

-- only an induction leads on from the goal, and the hints leave it free
pub record IsDue (h : History) (hints : Hints) (goal : List Term) : Type 0 where
  pub hints_free : IsFree hints
  pub normal : IsNormal h hints goal
  pub none : HasNoCandidate h hints goal
