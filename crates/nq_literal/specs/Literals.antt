-- Literals that are rewritten under the negations of others.
use Rattle.std.specs.Prelude.{◌≡◌, ℕ, List, ◌∷◌, Option, Some, None}
use Rattle.nq_logic.specs.Terms.{Term, IsAmong}
use Rattle.nq_logic.specs.Words.{not_term, equal_term}
use Rattle.nq_bank.specs.declared.node.TermId.{TermId}
use Rattle.nq_bank.specs.Content.{term_at, terms_at}
use Rattle.nq_history.specs.declared.entry.Entry.{Entry}
use Rattle.nq_kernel.specs.declared.work.Work.{Work}
use Rattle.nq_lines.specs.Lines.{IsTermIn, LineHasOnly}
use Rattle.nq_simplify.specs.declared.rewriter.NewLiteral.{NewLiteral}
use Rattle.nq_reduce.specs.declared.results.Rewritten.{Rewritten}

-- the line has only the equation of the two terms and these, or without a line the terms are one
abbrev pub IsShownBeside : Work → List Term → Term → Term → Option ℕ → Type 0
IsShownBeside work these old new None = new ≡ old
IsShownBeside work these old new (Some n) = LineHasOnly work n (equal_term old new ∷ these)

-- the old term is rewritten to this one, where one of these holds or they are equal
pub record IsRewrittenBeside (history : List Entry) (work : Work) (these : List Term) (old : Term) (r : Rewritten) : Type 0 where
  pub new : IsTermIn history work r.term
  pub shown : IsShownBeside work these old (term_at work.bank r.term) r.line

-- what was rewritten beside the NOT of the NOT of a literal is so beside the literal
abbrev pub Undenies : List Entry → Work → Work → Term → Term → Rewritten → Rewritten → Type 0
Undenies history before after literal old r s =
    (these : List Term) → IsRewrittenBeside history before (not_term (not_term literal) ∷ these) old r → IsRewrittenBeside history after (literal ∷ these) old s

-- the NOT of this term is among the literals
pub record IsDeniedIn (history : List Entry) (work : Work) (others : List TermId) (a : TermId) : Type 0 where
  pub term : IsTermIn history work a
  pub among : IsAmong (not_term (term_at work.bank a)) (terms_at work.bank others)

-- the literal is what the rewriting gives, with its line
pub record IsFoundIn (new : Rewritten) (r : NewLiteral) : Type 0 where
  pub term : r.term ≡ new.term
  pub line : new.line ≡ Some r.line
