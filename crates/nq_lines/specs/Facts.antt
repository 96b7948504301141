-- Terms that lines show, and what takes a pattern to a term.
use Rattle.std.specs.Prelude.{◌≡◌, ◌<◌, ℕ, List, ◌∷◌, []}
use Rattle.nq_logic.specs.Terms.{Term, Substitution, substituted}
use Rattle.nq_logic.specs.Words.{equal_term}
use Rattle.nq_bank.specs.declared.node.TermId.{TermId}
use Rattle.nq_bank.specs.Content.{Content, Stands, term_at}
use Rattle.nq_clause.specs.Binding.{BindsOnce, BindsOnly}
use Rattle.nq_history.specs.declared.entry.Entry.{Entry}
use Rattle.nq_kernel.specs.declared.work.Work.{Work}
use Rattle.nq_kernel.specs.Growing.{LineHolds}
use Rattle.nq_lines.specs.Lines.{IsTermIn, LineHasOnly}
use Rattle.nq_lines.specs.declared.facts.Fact.{Fact}
use Rattle.nq_lines.specs.declared.facts.Sides.{Sides}

-- the term is the line's one literal
pub record IsOnlyLiteral (work : Work) (line : ℕ) (t : TermId) : Type 0 where
  pub stands : Stands work.bank t
  pub holds : LineHolds work line (term_at work.bank t ∷ [])

-- the line has only the term, which is over the history
pub record IsFact (history : List Entry) (work : Work) (f : Fact) : Type 0 where
  pub term : IsTermIn history work f.term
  pub holds : LineHolds work f.line (term_at work.bank f.term ∷ [])

-- the line has only the equation of a term and this one
pub record IsOpening (history : List Entry) (work : Work) (t : Term) (f : Fact) : Type 0 where
  pub term : IsTermIn history work f.term
  pub line : LineHasOnly work f.line (equal_term t (term_at work.bank f.term) ∷ [])

-- the term is the equation of these sides
pub record IsEquation (history : List Entry) (work : Work) (t : TermId) (sides : Sides) : Type 0 where
  pub whole : term_at work.bank t ≡ equal_term (term_at work.bank sides.left) (term_at work.bank sides.right)
  pub left : IsTermIn history work sides.left
  pub right : IsTermIn history work sides.right

-- the term is the equation of these sides, which stand before it
pub record HasSides (bank : Content) (t : TermId) (sides : Sides) : Type 0 where
  pub whole : term_at bank t ≡ equal_term (term_at bank sides.left) (term_at bank sides.right)
  pub left : sides.left.0 < t.0
  pub right : sides.right.0 < t.0

-- s has variables of the pattern, each once, and takes the pattern to the term
pub record IsInstanceBy (s : Substitution) (pattern t : Term) : Type 0 where
  pub once : BindsOnce s
  pub only : BindsOnly s pattern
  pub gives : substituted s pattern ≡ t
