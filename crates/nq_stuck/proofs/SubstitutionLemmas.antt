-- Candidates of SUBST, literal by literal.
use Rattle.std.proofs.Common.{◌≡◌, ℕ, zero, suc, false, refl, sym, ap, ◌∙◌}
use Rattle.nq_logic.specs.Terms.{Term}
use Rattle.nq_logic.specs.Words.{numeral}
use Rattle.nq_goals.specs.Substituting.{from_sides}
use Rattle.nq_stuck.specs.Candidates.{has_one}

none_of_numeral : (l : Term) (n : ℕ) (t : Term) → false ≡ has_one (from_sides l (numeral n) t)
unfolding numeral
none_of_numeral l zero t = refl
none_of_numeral l (suc n) t = refl

pub none_of_number : (l : Term) (n : ℕ) (s t : Term) → s ≡ numeral n → false ≡ has_one (from_sides l s t)
none_of_number l n s t e = none_of_numeral l n t ∙ sym (ap (λ z. has_one (from_sides l z t)) e)
