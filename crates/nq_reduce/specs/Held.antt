-- Terms that lines show where others are assumed.
use Rattle.std.specs.Prelude.{List, ◌∷◌}
use Rattle.nq_logic.specs.Terms.{Term}
use Rattle.nq_bank.specs.Content.{term_at}
use Rattle.nq_history.specs.declared.entry.Entry.{Entry}
use Rattle.nq_kernel.specs.declared.work.Work.{Work}
use Rattle.nq_lines.specs.Lines.{IsTermIn, LineHasOnly}
use Rattle.nq_lines.specs.declared.facts.Fact.{Fact}
use Rattle.nq_reduce.specs.Rewriting.{denials}

-- the line shows the term where these are assumed
pub record IsHeld (history : List Entry) (work : Work) (assumed : List Term) (f : Fact) : Type 0 where
  pub term : IsTermIn history work f.term
  pub line : LineHasOnly work f.line (term_at work.bank f.term ∷ denials assumed)
