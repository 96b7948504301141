-- Schemes of induction whose lines stand.
use Rattle.std.specs.Prelude.{List, [], ◌∷◌, All}
use Rattle.nq_logic.specs.Words.{call1}
use Rattle.nq_bank.specs.declared.node.TermId.{TermId}
use Rattle.nq_bank.specs.Content.{term_at}
use Rattle.nq_rule.specs.declared.induction.InductionStep.{InductionStep}
use Rattle.nq_rule.specs.Inductions.{fall_literals}
use Rattle.nq_history.specs.declared.entry.Entry.{Entry}
use Rattle.nq_kernel.specs.declared.work.Work.{Work}
use Rattle.nq_lines.specs.Lines.{IsTermIn, LineHasOnly}
use Rattle.nq_lines.specs.Instances.{ArePairsIn}
use Rattle.nq_induct.specs.declared.scheme.Case.{Case}
use Rattle.nq_induct.specs.declared.scheme.Scheme.{Scheme}

-- distinct variables with terms in their places, and a line that has only that the measure falls there, or that the test fails
pub record IsStepIn (history : List Entry) (work : Work) (measure test : TermId) (s : InductionStep) : Type 0 where
  pub pairs : ArePairsIn history work s.pairs.items
  pub falls : LineHasOnly work s.line (fall_literals work.bank measure test s.pairs.items)

-- so at each substitution of the case
pub record IsCaseIn (history : List Entry) (work : Work) (measure : TermId) (c : Case) : Type 0 where
  pub test : IsTermIn history work c.test
  pub steps : All (IsStepIn history work measure c.test) c.steps.items

-- a line has only that the measure is an ordinal, and the measure falls at each substitution of each case where its test holds
pub record IsSchemeIn (history : List Entry) (work : Work) (s : Scheme) : Type 0 where
  pub measure : IsTermIn history work s.measure
  pub ordinal : LineHasOnly work s.ordinal (call1 "ORDINALP" (term_at work.bank s.measure) ∷ [])
  pub cases : All (IsCaseIn history work s.measure) s.cases.items
