-- Equations that are turned, and those that are assumed.
use Rattle.std.specs.Prelude.{List}
use Rattle.nq_logic.specs.Terms.{IsAmong}
use Rattle.nq_logic.specs.Words.{equal_term}
use Rattle.nq_bank.specs.declared.node.TermId.{TermId}
use Rattle.nq_bank.specs.Content.{IsIdOf, term_at, terms_at}
use Rattle.nq_history.specs.declared.entry.Entry.{Entry}
use Rattle.nq_kernel.specs.declared.work.Work.{Work}
use Rattle.nq_lines.specs.Lines.{IsTermIn}
use Rattle.nq_lines.specs.declared.facts.Sides.{Sides}

-- the id is that of the equation with the sides exchanged
pub record IsTurned (history : List Entry) (work : Work) (sides : Sides) (t : TermId) : Type 0 where
  pub there : IsTermIn history work t
  pub is : IsIdOf work.bank t (equal_term (term_at work.bank sides.right) (term_at work.bank sides.left))

-- the term is one of the assumptions
pub record IsAssumed (history : List Entry) (work : Work) (assumed : List TermId) (a : TermId) : Type 0 where
  pub among : IsAmong (term_at work.bank a) (terms_at work.bank assumed)
  pub over : IsTermIn history work a
