-- Work of which only some lines are kept.
use Rattle.std.specs.Prelude.{◌≡◌, ℕ, List, [], Some}
use Rattle.nq_bank.specs.Content.{Content, Grows}
use Rattle.nq_steps.specs.NewNames.{AddsSymbols}
use Rattle.nq_history.specs.declared.entry.Entry.{Entry}
use Rattle.nq_kernel.specs.declared.rule.Rule.{Rule}
use Rattle.nq_kernel.specs.declared.rule.Line.{Line}
use Rattle.nq_kernel.specs.declared.work.Work.{Work}
use Rattle.nq_kernel.specs.Lines.{rule_of}
use Rattle.nq_kernel.specs.Meaning.{RuleStands, clause_at}
use Rattle.nq_kernel.specs.Over.{IsVariable, RuleIsIn, RulesAreOver}
use Rattle.nq_kernel.specs.Growing.{LogGrows, WorkStands}
use Rattle.nq_needed.specs.declared.shortening.Shortened.{Shortened}

-- what the rule of each line names stands in the bank, and its terms are over the history's functions
pub record RulesStandIn (bank : Content) (history : List Entry) (log : List Line) : Type 0 where
  pub stand : (n : ℕ) (rule : Rule) → rule_of log n ≡ Some rule → RuleStands bank rule
  pub over : (n : ℕ) (rule : Rule) → rule_of log n ≡ Some rule → RuleIsIn bank history rule

-- The bank grew, and no step was counted. The log is one that the history's rules allow from its first line on, and its line
-- has the clause that the line had.
pub record IsShortened (history : List Entry) (old : Work) (line : ℕ) (new : Shortened) : Type 0 where
  pub bank : Grows old.bank new.work.bank
  pub names : AddsSymbols old.bank new.work.bank
  pub log : LogGrows new.work.bank history [] new.work.log
  pub rules : RulesAreOver IsVariable new.work.bank history 0 new.work.log
  pub counter : new.work.counter ≡ old.counter
  pub stands : WorkStands history new.work
  pub clause : clause_at new.work.bank new.work.log new.line ≡ clause_at old.bank old.log line
