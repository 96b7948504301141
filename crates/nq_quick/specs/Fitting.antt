-- Terms that are no instance of a pattern.
use Rattle.std.specs.Prelude.{◌≡◌}
use Rattle.nq_logic.specs.Terms.{Substitution, substituted}
use Rattle.nq_bank.specs.declared.node.TermId.{TermId}
use Rattle.nq_bank.specs.Content.{Content, term_at}

-- no terms in place of the pattern's variables make the term
pub record FitsNone (bank : Content) (pattern t : TermId) : Type 0 where
  pub none : (pairs : Substitution) → substituted pairs (term_at bank pattern) ≡ term_at bank t → ⊥
