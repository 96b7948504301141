-- How a recursive definition is tried.
use Rattle.std.specs.Prelude.{◌≡◌, Bool, true, List, [], ◌∷◌, length, map, All, IfNone, MatchOption, Option, Some, None, slice_get}
use Rattle.nq_logic.specs.Terms.{Each, Name, Symbol, Term}
use Rattle.nq_logic.specs.Ground.{symbols_of}
use Rattle.nq_logic.specs.Histories.{History}
use Rattle.nq_logic.specs.Names.{are_distinct}
use Rattle.nq_logic.specs.Admissible.{HasVariables, IsAdmissible, mentions}
use Rattle.nq_bank.specs.declared.node.Sym.{Sym}
use Rattle.nq_bank.specs.declared.node.TermId.{TermId}
use Rattle.nq_bank.specs.Content.{Content, Stands, term_at, terms_at, text_at}
use Rattle.nq_bank.specs.Shells.{texts_at}
use Rattle.nq_history.specs.declared.entry.Entry.{Entry}
use Rattle.nq_history.specs.Events.{events_at}
use Rattle.nq_kernel.specs.Over.{IsTermOf, IsVariable}
use Rattle.nq_log.specs.States.{Claim}
use Rattle.nq_block.specs.Closings.{FunctionNames, IsFree, recursion_at}
use Rattle.nq_measures.specs.declared.finding.Admitting.{Admitting}
use Rattle.nq_measures.specs.declared.left.Left.{Left}
use Rattle.nq_measures.specs.Admitting.{NoneIsStructural}
use Rattle.nq_language.specs.Printing.{printed}
use Rattle.nq_events.specs.AllowedEvents.{plain_definition}
use Rattle.nq_comment.specs.Reports.{Trial}
use Rattle.nq_comment.specs.ReportViews.{trials_of}
use Rattle.nq_answers.specs.Goals.{goal_text}
use Rattle.nq_answers.specs.Measuring.{AreTrials}
use Rattle.nq_spelling.specs.SpelledEvents.{IsSpelledDefinition}
use Rattle.nq_answers.specs.Steps.{measured_definition}
use Rattle.nq_run.specs.declared.recursions.Kept.{Kept}
use Rattle.nq_run.specs.declared.recursions.TriedRecursion.{TriedRecursion}
use Rattle.nq_run.specs.Outcome.{AreBlocks}

-- a definition that calls its own function, and that nothing keeps from being tried
pub record CanTry (h : History) (name : Name) (formals : List Name) (body : Term) : Type 0 where
  pub free : IsFree h name
  pub spelled : IsSpelledDefinition h name formals body
  pub variables : Each IsVariable formals
  pub distinct : are_distinct formals ≡ true
  pub closed : HasVariables formals body
  pub recursive : mentions name body ≡ true

-- a term that may be tried as a measure
pub record IsTriedTerm (symbols : List Symbol) (formals : List Name) (t : Term) : Type 0 where
  pub of : IsTermOf IsVariable symbols t
  pub within : HasVariables formals t

-- the definition and the measures that are tried of it stand in the bank
pub record IsTriable (bank : Content) (history : List Entry) (name : Sym) (formals : List Sym) (body : TermId) (tried : List TermId) : Type 0 where
  pub function : FunctionNames bank name formals body
  pub can : CanTry (events_at bank history) (text_at bank name) (texts_at bank formals) (term_at bank body)
  pub stand : All (Stands bank) tried
  pub terms : Each (IsTriedTerm ((text_at bank name, length (texts_at bank formals)) ∷ symbols_of (events_at bank history)) (texts_at bank formals)) (terms_at bank tried)

-- the measure at its place among those that were tried admits the definition
pub record IsKept (bank : Content) (history : List Entry) (name : Sym) (formals : List Sym) (body : TermId) (tried : List TermId) (kept : Kept) : Type 0 where
  pub stands : Stands bank kept.measure
  pub told : slice_get (terms_at bank tried) kept.place ≡ Some (term_at bank kept.measure)
  pub admissible : IsAdmissible (events_at bank history) (measured_definition (text_at bank name) (texts_at bank formals) (term_at bank body) (term_at bank kept.measure))

-- what of a measure that was found is kept
abbrev pub kept_of : Admitting → Kept
kept_of found = record { place = found.place; measure = found.measure }

-- what a definition claims of which this measure is kept
abbrev pub kept_claims : Content → Sym → List Sym → TermId → Option Kept → List Claim
kept_claims bank name formals body None = []
kept_claims bank name formals body (Some kept) = recursion_at bank name formals body kept.measure ∷ []

-- what is left of a measure stands in the bank
pub record LeftStands (bank : Content) (left : Left) : Type 0 where
  pub measure : Stands bank left.measure
  pub literals : All (Stands bank) left.literals.items

-- what is told of a measure that is not proved
abbrev pub trial_at : Content → Left → Trial
trial_at bank left = record { measure = printed (term_at bank left.measure); goal = goal_text (terms_at bank left.literals.items); out_of_steps = left.out_of_steps }

abbrev pub trials_at : Content → List Left → List Trial
trials_at bank left = map (trial_at bank) left

-- The try of a recursive definition: the bank as it was, the measure that admits the definition, what is told of each that was
-- tried where none does, and the block of its claim.
pub record IsSought (bank : Content) (history : List Entry) (name : Sym) (formals : List Sym) (body : TermId) (tried : List TermId) (logging : Bool) (r : TriedRecursion) : Type 0 where
  pub same : r.bank ≡ bank
  pub kept : MatchOption r.kept (NoneIsStructural history bank name formals body tried) (IsKept bank history name formals body tried)
  pub told : IfNone r.kept (AreTrials (events_at bank history) (plain_definition (text_at bank name) (texts_at bank formals) (term_at bank body)) (terms_at bank tried) (trials_of r.trials.items))
  pub written : logging ≡ true → AreBlocks (events_at bank history) (kept_claims bank name formals body r.kept) r.block
