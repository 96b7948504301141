-- Clauses of ids, as what a rule gives.
use Rattle.std.specs.Prelude.{◌≡◌, ◌<◌, List, Option, Some, All}
use Rattle.nq_logic.specs.Terms.{Term, IsAmong}
use Rattle.nq_bank.specs.declared.node.TermId.{TermId}
use Rattle.nq_bank.specs.Content.{Content, Stands, terms_at}
use Rattle.nq_logic.specs.Sizes.{depth_of, depth_limit}
use Rattle.nq_proof.specs.Clauses.{Clause}

-- these ids stand and denote the clause
pub record Concludes (bank : Content) (ids : List TermId) (clause : Option Clause) : Type 0 where
  pub stand : All (Stands bank) ids
  pub concluded : clause ≡ Some (terms_at bank ids)

-- one of the terms is too deep
pub record HasDeep (terms : Clause) : Type 0 where
  pub term : Term
  pub among : IsAmong term terms
  pub deep : depth_limit < depth_of term

-- the clause has a term that is too deep
pub record IsDeep (clause : Option Clause) : Type 0 where
  pub terms : Clause
  pub concluded : clause ≡ Some terms
  pub deep : HasDeep terms
