-- The lemmas that are instances of an earlier axiom or lemma.
use Rattle.std.specs.Prelude.{◌≡◌, Some}
use Rattle.nq_logic.specs.Terms.{Name, Substitution, Term, substituted}
use Rattle.nq_logic.specs.Histories.{History}
use Rattle.nq_proof.specs.Rules.{event_term}

-- the term is that of an axiom or lemma of the history, with terms in place of its variables
pub record IsEarlierInstance (h : History) (t : Term) : Type 0 where
  pub name : Name
  pub pattern : Term
  pub event : event_term name h ≡ Some pattern
  pub pairs : Substitution
  pub instance_is : substituted pairs pattern ≡ t
