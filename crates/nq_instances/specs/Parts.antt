-- What is taken out of a term that a line shows.
use Rattle.std.specs.Prelude.{◌≡◌, ◌<◌, List, ◌∷◌}
use Rattle.nq_logic.specs.Terms.{Name, Term, Function, Applied}
use Rattle.nq_bank.specs.declared.node.TermId.{TermId}
use Rattle.nq_bank.specs.Content.{term_at}
use Rattle.nq_rule.specs.declared.branching.Branches.{Branches}
use Rattle.nq_history.specs.declared.entry.Entry.{Entry}
use Rattle.nq_kernel.specs.declared.work.Work.{Work}
use Rattle.nq_kernel.specs.Growing.{LineStands}
use Rattle.nq_lines.specs.Lines.{IsTermIn, LineHasOnly, MakesOf}
use Rattle.nq_lines.specs.Branches.{if_at}
use Rattle.nq_lines.specs.declared.facts.Fact.{Fact}
use Rattle.nq_lines.specs.declared.facts.Sides.{Sides}

-- the term is the call of f on these sides, which stand before it
pub record AreSides (history : List Entry) (work : Work) (f : Name) (t : TermId) (sides : Sides) : Type 0 where
  pub whole : term_at work.bank t ≡ Applied (Applied (Function f) (term_at work.bank sides.left)) (term_at work.bank sides.right)
  pub left : IsTermIn history work sides.left
  pub right : IsTermIn history work sides.right
  pub left_before : sides.left.0 < t.0
  pub right_before : sides.right.0 < t.0

-- the term is the IF of these parts
pub record IsIfOf (history : List Entry) (work : Work) (t : TermId) (parts : Branches) : Type 0 where
  pub whole : term_at work.bank t ≡ if_at work.bank parts
  pub test : IsTermIn history work parts.test
  pub first : IsTermIn history work parts.first
  pub second : IsTermIn history work parts.second

-- the term is over the history, and the line stands
pub record IsLine (history : List Entry) (work : Work) (f : Fact) : Type 0 where
  pub term : IsTermIn history work f.term
  pub line : LineStands work f.line

-- the second line is the first with the one term for the other
pub record Derives (history : List Entry) (old new : Work) (f r : Fact) : Type 0 where
  pub is : IsLine history new r
  pub makes : MakesOf old new (term_at old.bank f.term) (term_at new.bank r.term) f.line r.line

-- the last line has its term, from lines that have the first two
pub record DerivesWith (history : List Entry) (old new : Work) (f k r : Fact) : Type 0 where
  pub is : IsLine history new r
  pub makes : (these : List Term) → LineHasOnly old f.line (term_at old.bank f.term ∷ these) → LineHasOnly old k.line (term_at old.bank k.term ∷ these) → LineHasOnly new r.line (term_at new.bank r.term ∷ these)
