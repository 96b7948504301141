-- What the first pass answers, as the answer of a prover.
use Rattle.std.proofs.Common.{◌≡◌, true, ◌&&◌, ◌||◌, false, Option, [], ◌∷◌, refl, ap, ap₂, ◌∙◌, inl, inr}
use Rattle.nq_logic.specs.Terms.{Term, IsAmong}
use Rattle.nq_proof.specs.Clauses.{Clause, has_term, is_within}
use Rattle.nq_proof.specs.Rules.{has_only}
use Rattle.nq_rule.proofs.LiteralLemmas.{true_same}
use Rattle.nq_quick.specs.Lines.{AreAmong, HasOnly}

among_has : (t u : Term) → IsAmong t (u ∷ []) → has_term t (u ∷ []) ≡ true
among_has t u (inl e) = ap (λ b. b || false) (true_same t u e)
among_has t u (inr m) = absurd m

only_within : (c : Clause) (u : Term) → AreAmong c (u ∷ []) → is_within c (u ∷ []) ≡ true
only_within [] u among = refl
only_within (t ∷ c) u among = ap₂ (λ a b. a && b) (among_has t u (among t (inl refl))) (only_within c u (λ p m. among p (inr m)))

-- a line that has only a term is told as such by the test
pub only_told : (o : Option Clause) (u : Term) → HasOnly o (u ∷ []) → has_only o (u ∷ []) ≡ true
only_told o u only = ap (λ (c : Option Clause). has_only c (u ∷ [])) only.stands ∙ only_within only.literals u only.only
