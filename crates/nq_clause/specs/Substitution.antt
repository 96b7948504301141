-- The substitution of pairs of ids, and what is known of its results.
use Rattle.std.specs.Prelude.{◌≡◌, ℕ, nat_eq, Some, List, map}
use Rattle.std.specs.declared.hash.FoldHasher.{FoldHasher}
use Rattle.std.specs.declared.hash.BuildHasherDefault.{BuildHasherDefault}
use Rattle.std.specs.HashMap.{get, HashMap}
use Rattle.nq_logic.specs.Terms.{Substitution, substituted}
use Rattle.nq_bank.specs.declared.node.TermId.{TermId}
use Rattle.nq_bank.specs.Content.{Content, Stands, IsNamed, IsIdOf, text_at, term_at}
use Rattle.nq_clause.specs.declared.substitution.Pair.{Pair}

-- the terms of the pairs in place of their variables
abbrev pub substitution_at : Content → List Pair → Substitution
substitution_at bank pairs = map (λ p. (text_at bank p.variable, term_at bank p.term)) pairs

-- the variable and the term of the pair stand in the bank
pub record PairStands (bank : Content) (p : Pair) : Type 0 where
  pub variable : IsNamed bank p.variable
  pub term : Stands bank p.term

-- ids by the places of terms
abbrev pub Ids : Type 0
Ids = HashMap ℕ TermId (BuildHasherDefault FoldHasher)

-- each id is that of the term of the place, with terms in place of variables
pub record HasIds (bank : Content) (s : Substitution) (known : Ids) : Type 0 where
  pub stands : (t id : TermId) → get nat_eq known t.0 ≡ Some id → Stands bank t
  pub right : (t id : TermId) → get nat_eq known t.0 ≡ Some id → IsIdOf bank id (substituted s (term_at bank t))
