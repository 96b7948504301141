-- The test that a line has only some literals, and what it tests.
use Rattle.std.proofs.Common.{◌≡◌, ◌∙◌, Bool, true, false, ◌&&◌, ◌||◌, Option, Some, None, [], ◌∷◌, refl, ap, ap₂, inl, inr}
use Rattle.nq_logic.specs.Terms.{Term, IsAmong}
use Rattle.nq_logic.proofs.Lists.{each_at}
use Rattle.nq_proof.specs.Clauses.{Clause, has_term, is_within}
use Rattle.nq_proof.specs.Rules.{has_only}
use Rattle.nq_proof.proofs.Tests.{within_each}
use Rattle.nq_rule.proofs.LiteralLemmas.{true_same}
use Rattle.nq_lines.specs.Lines.{AreAmong, HasOnly}

-- a clause has only these terms where the test says so
pub only_of : (o : Option Clause) (these : Clause) → has_only o these ≡ true → HasOnly o these
only_of None these e = absurd cc
only_of (Some c) these e = record { literals = c; stands = refl; only = λ t m. each_at (λ p. IsAmong p these) t c (within_each c these e) m }

or_true : (a b : Bool) → b ≡ true → a || b ≡ true
or_true true b e = refl
or_true false b e = e

-- a term among others is found among them
pub has_true : (t : Term) (these : Clause) → IsAmong t these → has_term t these ≡ true
has_true t [] m = absurd m
has_true t (u ∷ these) (inl e) = ap (λ b. b || has_term t these) (true_same t u e)
has_true t (u ∷ these) (inr m) = or_true _ _ (has_true t these m)

within_true : (c these : Clause) → AreAmong c these → is_within c these ≡ true
within_true [] these among = refl
within_true (t ∷ c) these among = ap₂ (λ a b. a && b) (has_true t these (among t (inl refl))) (within_true c these (λ p m. among p (inr m)))

-- and the test says so where it has only these
pub only_true : (o : Option Clause) (these : Clause) → HasOnly o these → has_only o these ≡ true
only_true o these only = ap (λ (c : Option Clause). has_only c these) only.stands ∙ within_true only.literals these only.only
