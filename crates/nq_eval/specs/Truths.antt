-- Values that are true, and F.
use Rattle.std.specs.Prelude.{◌≡◌, List, true}
use Rattle.nq_logic.specs.Words.{false_term, equal_term}
use Rattle.nq_bank.specs.declared.node.TermId.{TermId}
use Rattle.nq_bank.specs.Content.{Content, term_at}
use Rattle.nq_proof.specs.Values.{is_true}
use Rattle.nq_history.specs.declared.entry.Entry.{Entry}
use Rattle.nq_eval.specs.Lines.{IsUsable}
use Rattle.nq_fragments.specs.Outcomes.{is_small}
use Rattle.nq_eval.specs.declared.truths.Denied.{Denied}

-- the term is a value that is not too deep, and isn't F
pub record IsTruth (bank : Content) (history : List Entry) (v : TermId) : Type 0 where
  pub usable : IsUsable bank history v
  pub small : is_small (term_at bank v) ≡ true
  pub is_true : is_true (term_at bank v) ≡ true

-- the term is F
pub record IsFalsity (bank : Content) (history : List Entry) (f : TermId) : Type 0 where
  pub usable : IsUsable bank history f
  pub is : term_at bank f ≡ false_term

-- F, the equation of v and F, and that of the equation and F
pub record IsDenied (bank : Content) (history : List Entry) (v : TermId) (d : Denied) : Type 0 where
  pub falsity : IsFalsity bank history d.falsity
  pub equation : IsUsable bank history d.equation
  pub equation_is : term_at bank d.equation ≡ equal_term (term_at bank v) false_term
  pub whole : IsUsable bank history d.whole
  pub whole_is : term_at bank d.whole ≡ equal_term (equal_term (term_at bank v) false_term) false_term
