-- What the lines of a scheme stand on, and steps before their lines are finished.
use Rattle.std.specs.Prelude.{[], ◌∷◌, List, All, IfSome}
use Rattle.nq_logic.specs.Words.{call1}
use Rattle.nq_bank.specs.Content.{term_at}
use Rattle.nq_rule.specs.declared.induction.InductionStep.{InductionStep}
use Rattle.nq_history.specs.declared.entry.Entry.{Entry}
use Rattle.nq_history.specs.Events.{events_at}
use Rattle.nq_kernel.specs.declared.work.Work.{Work}
use Rattle.nq_kernel.specs.Growing.{LineStands}
use Rattle.nq_kernel.specs.Ready.{IsReady}
use Rattle.nq_lines.specs.Lines.{IsTermIn, LineHasOnly}
use Rattle.nq_lines.specs.Instances.{ArePairsIn}
use Rattle.nq_lines.specs.OwnTerms.{HasOwnTerms}
use Rattle.nq_lines.specs.declared.facts.Fact.{Fact}
use Rattle.nq_induct.specs.Claims.{IsShownTruth}
use Rattle.nq_schemes.specs.Known.{IsNameOf, IsOpenedIn}
use Rattle.nq_schemes.specs.declared.basis.SizedVariable.{SizedVariable}
use Rattle.nq_schemes.specs.declared.basis.Basis.{Basis}

-- the variable of this name, over the history
abbrev pub IsSizedIn : List Entry → Work → SizedVariable → Type 0
IsSizedIn history work v = IsNameOf history work v.variable v.name

-- the line has only that the term, which is over the history, is an ordinal
pub record IsOrdinalIn (history : List Entry) (work : Work) (f : Fact) : Type 0 where
  pub term : IsTermIn history work f.term
  pub line : LineHasOnly work f.line (call1 "ORDINALP" (term_at work.bank f.term) ∷ [])

-- the calls and the variable are over the history, which is ready, with axioms and lemmas over its own functions, and a line shows
-- that the measure is an ordinal
pub record IsBasisIn (history : List Entry) (work : Work) (b : Basis) : Type 0 where
  pub opened : All (IsOpenedIn history work) b.opened.items
  pub sized : IfSome b.sized (IsSizedIn history work)
  pub measure : IsTermIn history work b.measure
  pub ordinal : LineHasOnly work b.ordinal (call1 "ORDINALP" (term_at work.bank b.measure) ∷ [])
  pub shown : IsShownTruth history work b.shown
  pub ready : IsReady (events_at work.bank history)
  pub own : HasOwnTerms (events_at work.bank history)

-- the step's line stands, and its pairs are distinct variables with terms over the history
pub record IsStartIn (history : List Entry) (work : Work) (s : InductionStep) : Type 0 where
  pub line : LineStands work s.line
  pub pairs : ArePairsIn history work s.pairs.items

-- the term is over the history, and the line stands
pub record IsDeniedIn (history : List Entry) (work : Work) (f : Fact) : Type 0 where
  pub term : IsTermIn history work f.term
  pub line : LineStands work f.line
