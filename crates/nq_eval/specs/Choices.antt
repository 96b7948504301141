-- Choices between two terms, and the pairs by which the rows of IF speak of them.
use Rattle.std.specs.Prelude.{◌≡◌, List, [], ◌∷◌, codes}
use Rattle.nq_logic.specs.Terms.{Term, Substitution}
use Rattle.nq_logic.specs.Words.{if_term}
use Rattle.nq_bank.specs.declared.node.TermId.{TermId}
use Rattle.nq_bank.specs.Content.{Content, term_at}
use Rattle.nq_history.specs.declared.entry.Entry.{Entry}
use Rattle.nq_eval.specs.Lines.{IsUsable}

-- the terms in place of X, Y and Z
abbrev pub for_choice : Term → Term → Term → Substitution
for_choice v x y = (codes "X", v) ∷ (codes "Y", x) ∷ (codes "Z", y) ∷ []

-- u is IF of these, and all of them may have values
pub record IsUsableChoice (bank : Content) (history : List Entry) (u v x y : TermId) : Type 0 where
  pub whole : IsUsable bank history u
  pub test : IsUsable bank history v
  pub first : IsUsable bank history x
  pub second : IsUsable bank history y
  pub is : term_at bank u ≡ if_term (term_at bank v) (term_at bank x) (term_at bank y)
