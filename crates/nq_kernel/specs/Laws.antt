-- Lines are derivable: the line of an allowed rule where the lines before it are, and so each line of a log.
use Rattle.std.specs.Prelude.{◌≡◌, List, [], Some}
use Rattle.nq_logic.specs.Terms.{Term, IsTerm, Each}
use Rattle.nq_logic.specs.Formulas.{clause}
use Rattle.nq_logic.specs.Ground.{symbols_of}
use Rattle.nq_logic.specs.Derivations.{Derivable}
use Rattle.nq_bank.specs.Content.{Content}
use Rattle.nq_proof.specs.Closed.{IsClosed}
use Rattle.nq_proof.specs.Laws.{LemmasHold, LinesHold}
use Rattle.nq_proof.specs.Rules.{rule_terms}
use Rattle.nq_history.specs.declared.entry.Entry.{Entry}
use Rattle.nq_history.specs.Events.{events_at}
use Rattle.nq_kernel.specs.declared.rule.Rule.{Rule}
use Rattle.nq_kernel.specs.declared.rule.Line.{Line}
use Rattle.nq_kernel.specs.Meaning.{rule_at, clause_at, conclusion_at}
use Rattle.nq_kernel.specs.Over.{IsVariable, RulesAreOver}
use Rattle.nq_kernel.specs.Growing.{LogGrows}

-- Where each lemma of the history and each standing line is derivable, so is the clause that a rule over the history's
-- functions gives. The history's events speak of its own functions alone.
abbrev pub SoundLine : Type 0
SoundLine =
    (bank : Content) (history : List Entry) (log : List Line) (rule : Rule) (c : List Term) → IsClosed (events_at bank history) → LemmasHold (events_at bank history) →
    LinesHold (events_at bank history) (clause_at bank log) → Each (IsTerm (symbols_of (events_at bank history))) (rule_terms (rule_at bank rule)) →
    conclusion_at bank history log rule ≡ Some c → Derivable (events_at bank history) (clause c)

-- So each standing line of a log is derivable that grew from the empty log by rules over the history's functions.
abbrev pub SoundLog : Type 0
SoundLog =
    (bank : Content) (history : List Entry) (log : List Line) → IsClosed (events_at bank history) → LemmasHold (events_at bank history) →
    LogGrows bank history [] log → RulesAreOver IsVariable bank history 0 log → LinesHold (events_at bank history) (clause_at bank log)
