-- A measure under which a definition is admitted.
use Rattle.std.specs.Prelude.{◌≡◌, ℕ, ⊤, false, Option, ◌≤◌, ◌∷◌, [], true, All, Some, None, List, length, slice_get}
use Rattle.nq_logic.specs.Terms.{Name, Term, IsAmong, Each, substituted}
use Rattle.nq_logic.specs.Words.{call1}
use Rattle.nq_logic.specs.Sizes.{depth_of}
use Rattle.nq_logic.specs.Ground.{symbols_of}
use Rattle.nq_logic.specs.Names.{is_in_use}
use Rattle.nq_logic.specs.Admissible.{mentions, matched, Call, HasVariables, IsMeasure, calls_of, obligation}
use Rattle.nq_bank.specs.declared.node.Sym.{Sym}
use Rattle.nq_bank.specs.declared.node.TermId.{TermId}
use Rattle.nq_bank.specs.Content.{Content, Stands, IsNamed, text_at, term_at, terms_at}
use Rattle.nq_bank.specs.Shells.{texts_at}
use Rattle.nq_arith.specs.Structural.{IsStructural}
use Rattle.nq_proof.specs.Clauses.{Clause}
use Rattle.nq_proof.specs.Laws.{LinesHold}
use Rattle.nq_proof.specs.Rules.{has_only}
use Rattle.nq_history.specs.declared.entry.Entry.{Entry}
use Rattle.nq_history.specs.Events.{events_at}
use Rattle.nq_kernel.specs.declared.work.Work.{Work}
use Rattle.nq_kernel.specs.Meaning.{clause_at}
use Rattle.nq_kernel.specs.Over.{IsVariable, IsTermOf, TermIsIn}
use Rattle.nq_kernel.specs.Ready.{body_depth}
use Rattle.nq_calls.specs.declared.calls.Site.{Site}
use Rattle.nq_measures.specs.declared.finding.Admitting.{Admitting}
use Rattle.nq_measures.specs.Trials.{IsEvidence, size_of_variable}

-- the line shows that the measure falls at the call, and the measure there does not mention the function
pub record IsFall (lines : ℕ → Option Clause) (f : Name) (xs : List Name) (m : Term) (c : Call) (line : ℕ) : Type 0 where
  pub older : mentions f (substituted (matched xs c.arguments) m) ≡ false
  pub less : has_only (lines line) (obligation f xs m c.tests c.arguments) ≡ true

-- each call has such a line, in their order
abbrev pub AreFalls : (ℕ → Option Clause) → Name → List Name → Term → List Call → List ℕ → Type 0
AreFalls lines f xs m [] [] = ⊤
AreFalls lines f xs m [] (r ∷ rs) = ⊥
AreFalls lines f xs m (c ∷ calls) [] = ⊥
AreFalls lines f xs m (c ∷ calls) (r ∷ rs) = IsFall lines f xs m c r × AreFalls lines f xs m calls rs

-- a function that is not in use, with a body over it and the history's functions that is not too deep
pub record IsNewFunction (history : List Entry) (bank : Content) (f : Sym) (formals : List Sym) (body : TermId) : Type 0 where
  pub function : IsNamed bank f
  pub formals_named : All (IsNamed bank) formals
  pub body_stands : Stands bank body
  pub unused : is_in_use (text_at bank f) (events_at bank history) ≡ false
  pub over : IsTermOf IsVariable ((text_at bank f, length (texts_at bank formals)) ∷ symbols_of (events_at bank history)) (term_at bank body)
  pub shallow : depth_of (term_at bank body) ≤ body_depth

-- where the size of each formal is tried the definition is not structural in the history
abbrev pub NoneIsStructural : List Entry → Content → Sym → List Sym → TermId → List TermId → Type 0
NoneIsStructural history bank f formals body tried =
    Each (λ x. IsAmong (size_of_variable x) (terms_at bank tried)) (texts_at bank formals) →
    IsStructural (events_at bank history) (record { function = text_at bank f; formals = texts_at bank formals; body = term_at bank body; measure = None }) → ⊥

-- the lines of one of the measures that were tried, over the work's own bank
pub record IsFoundAmong (work : Work) (f : Sym) (formals : List Sym) (sites : List Site) (tried : List TermId) (found : Admitting) : Type 0 where
  pub told : slice_get tried found.place ≡ Some found.measure
  pub evidence : IsEvidence work f formals found.measure sites (record { ordinal = found.ordinal; falls = found.falls })

-- The measure is the one at its place, and over the history's functions. One line shows that it is an ordinal, and one for each
-- call of the function in the body that it falls there.
pub record IsAdmitting (history : List Entry) (old : Content) (work : Work) (f : Sym) (formals : List Sym) (body : TermId) (tried : List TermId) (found : Admitting) : Type 0 where
  pub told : slice_get (terms_at old tried) found.place ≡ Some (term_at old found.measure)
  pub measure_stands : Stands old found.measure
  pub measure_over : TermIsIn old history found.measure
  pub is_ordinal : has_only (clause_at work.bank work.log found.ordinal) (call1 "ORDINALP" (term_at old found.measure) ∷ []) ≡ true
  pub each_falls : AreFalls (clause_at work.bank work.log) (text_at old f) (texts_at old formals) (term_at old found.measure) (calls_of (text_at old f) (term_at old body)) found.falls.items

-- Where the lines hold that were found, and the measure has no other variables than the formals, it is one of the definition.
abbrev pub AdmittingIsMeasure : Type 0
AdmittingIsMeasure =
    (history : List Entry) (old : Content) (work : Work) (f : Sym) (formals : List Sym) (body : TermId) (tried : List TermId) (found : Admitting) → IsNewFunction history old f formals body → IsAdmitting history old work f formals body tried found →
    LinesHold (events_at old history) (clause_at work.bank work.log) → HasVariables (texts_at old formals) (term_at old found.measure) →
    IsMeasure (events_at old history) (record { function = text_at old f; formals = texts_at old formals; body = term_at old body; measure = Some (term_at old found.measure) }) (term_at old found.measure)
