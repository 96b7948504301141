-- Ids of terms and of what stands in their places, and the ids of terms with those in their places.
use Rattle.std.specs.Prelude.{◌≡◌, nat_eq, Some, List, map}
use Rattle.std.specs.HashMap.{get}
use Rattle.nq_logic.specs.Terms.{Term}
use Rattle.nq_bank.specs.declared.node.TermId.{TermId}
use Rattle.nq_bank.specs.Content.{Content, Stands, IsIdOf, term_at}
use Rattle.nq_clause.specs.Substitution.{Ids}
use Rattle.nq_goals.specs.Replacing.{Exchange, exchanged_for}
use Rattle.nq_moves.specs.declared.exchanging.Exchanging.{Exchanging}

abbrev pub exchange_at : Content → List Exchanging → Exchange
exchange_at bank es = map (λ e. (term_at bank e.from, term_at bank e.into)) es

pub record ExchangeStands (bank : Content) (e : Exchanging) : Type 0 where
  pub from : Stands bank e.from
  pub into : Stands bank e.into

-- each id is that of what a function gives for the term of the place
pub record HasImages (bank : Content) (image : Term → Term) (known : Ids) : Type 0 where
  pub stands : (t id : TermId) → get nat_eq known t.0 ≡ Some id → Stands bank t
  pub right : (t id : TermId) → get nat_eq known t.0 ≡ Some id → IsIdOf bank id (image (term_at bank t))

-- what stands in the place of the term
pub record StandsFor (bank : Content) (es : List Exchanging) (t id : TermId) : Type 0 where
  pub stands : Stands bank id
  pub is : (other : Term) → exchanged_for (exchange_at bank es) (term_at bank t) other ≡ term_at bank id

-- the term is none of the exchanged ones
abbrev pub Stays : Content → List Exchanging → TermId → Type 0
Stays bank es t = (other : Term) → exchanged_for (exchange_at bank es) (term_at bank t) other ≡ other
