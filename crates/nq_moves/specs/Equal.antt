-- Terms that equal others by the equation of two terms, of which one takes the other's place, under a hypothesis.
use Rattle.std.specs.Prelude.{◌≡◌, ◌<◌, ℕ, nat_eq, Some, List, [], ◌∷◌}
use Rattle.std.specs.declared.hash.FoldHasher.{FoldHasher}
use Rattle.std.specs.declared.hash.BuildHasherDefault.{BuildHasherDefault}
use Rattle.std.specs.HashMap.{get, HashMap}
use Rattle.nq_logic.specs.Numerals.{numeral_limit}
use Rattle.nq_logic.specs.Words.{equal_term, numeral}
use Rattle.nq_bank.specs.declared.node.TermId.{TermId}
use Rattle.nq_bank.specs.Content.{Content, Stands, term_at}
use Rattle.nq_history.specs.declared.entry.Entry.{Entry}
use Rattle.nq_kernel.specs.declared.work.Work.{Work}
use Rattle.nq_lines.specs.declared.calls.Equated.{Equated}
use Rattle.nq_lines.specs.Lines.{LineHasOnly, IsTermIn}
use Rattle.nq_goals.specs.Replacing.{Exchange, exchanged}
use Rattle.nq_moves.specs.declared.equal.Swap.{Swap}

-- the one term in place of the other
abbrev pub swap_at : Content → Swap → Exchange
swap_at bank w = (term_at bank w.from, term_at bank w.into) ∷ []

-- The line says that the two terms are equal, under the hypothesis. The term that is replaced stands in no numeral.
pub record SwapStands (history : List Entry) (work : Work) (w : Swap) : Type 0 where
  pub from : Stands work.bank w.from
  pub into : IsTermIn history work w.into
  pub hypothesis : Stands work.bank w.hypothesis
  pub numerals : (n : ℕ) → n < numeral_limit → exchanged (swap_at work.bank w) (numeral n) ≡ numeral n
  pub says : LineHasOnly work w.line (equal_term (term_at work.bank w.from) (term_at work.bank w.into) ∷ term_at work.bank w.hypothesis ∷ [])

-- e is s with the one term in place of the other, and its line says that they are equal, under the hypothesis
pub record IsEqual (history : List Entry) (work : Work) (w : Swap) (s : TermId) (e : Equated) : Type 0 where
  pub stands : Stands work.bank s
  pub over : IsTermIn history work e.term
  pub is : term_at work.bank e.term ≡ exchanged (swap_at work.bank w) (term_at work.bank s)
  pub says : LineHasOnly work e.line (equal_term (term_at work.bank s) (term_at work.bank e.term) ∷ term_at work.bank w.hypothesis ∷ [])

abbrev pub Equals : Type 0
Equals = HashMap ℕ Equated (BuildHasherDefault FoldHasher)

-- what is known of each term is equal to it
pub record HasEquals (history : List Entry) (work : Work) (w : Swap) (known : Equals) : Type 0 where
  pub right : (t : TermId) (e : Equated) → get nat_eq known t.0 ≡ Some e → IsEqual history work w t e
