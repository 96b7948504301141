-- What closing lines lead to.
use Rattle.std.proofs.Common.{◌≡◌, ℕ, Bool, true, false, [], ◌∷◌, refl, sym, ap, ◌∙◌}
use Rattle.std.specs.Prelude.{Option, Some, None, ◌&&◌, not}
use Rattle.nq_logtext.specs.Reading.{◌>>=◌}
use Rattle.nq_logtext.specs.Fields.{number, name}
use Rattle.nq_logic.specs.Terms.{Name, Term}
use Rattle.nq_logic.specs.Histories.{Axiom, Lemma}
use Rattle.nq_logic.specs.Names.{is_in_use}
use Rattle.nq_proof.specs.Rules.{has_only}
use Rattle.nq_log.specs.Sizes.{is_small}
use Rattle.nq_log.specs.States.{State, Claim, Adds, term_at, clause_at, only_when}
use Rattle.nq_log.specs.Logs.{claimed}
use Rattle.nq_log.specs.ClosingLines.{has_room, is_free, is_plain, axiom_claim, lemma_claim}
use Rattle.nq_check.specs.Claims.{has_place}

and_true : (b : Bool) → (b && true) ≡ b
and_true true = refl
and_true false = refl

and_false : (b : Bool) → (b && false) ≡ false
and_false true = refl
and_false false = refl

-- whether the name may be added is told apart from the rest
apart : (plain room free rest : Bool) → (plain && room && free && rest) ≡ ((plain && rest) && (room && free))
apart true true true rest = sym (and_true rest)
apart true true false rest = sym (and_false rest)
apart true false free rest = sym (and_false rest)
apart false room free rest = refl

pub joined : (a b c : Bool) → (a && b && c) ≡ (a && (b && c))
joined true b c = refl
joined false b c = refl

-- the condition of a line that adds an event
module _ (s : State) (n : Name) (rest : Bool) (claim : Claim) where
  free_is : claimed (only_when (is_free s n && rest) claim) ≡ claimed (only_when ((is_plain s.block && rest) && has_place s.history n) claim)
  free_is = ap (λ b. claimed (only_when b claim)) (apart (is_plain s.block) (has_room s.history) (not (is_in_use n s.history)) rest)

  pub free_denied : (is_plain s.block && rest) ≡ false → claimed (only_when (is_free s n && rest) claim) ≡ None
  free_denied e = free_is ∙ ap (λ b. claimed (only_when (b && has_place s.history n) claim)) e

  pub free_led : (is_plain s.block && rest) ≡ true → claimed (only_when (is_free s n && rest) claim) ≡ claimed (only_when (has_place s.history n) claim)
  free_led e = free_is ∙ ap (λ b. claimed (only_when (b && has_place s.history n) claim)) e

-- ---- AXIOMATIZE

module _ (s : State) (n : Name) (t : ℕ) where
  pub axiom_unknown : term_at s.block t ≡ None → claimed (axiom_claim s (name n ∷ number t ∷ [])) ≡ None
  axiom_unknown e = ap (λ (o : Option Term). claimed (o >>= λ t. only_when (is_free s n && is_small t) (Adds (Axiom n [] t)))) e

  axiom_found : (term : Term) → term_at s.block t ≡ Some term → claimed (axiom_claim s (name n ∷ number t ∷ [])) ≡ claimed (only_when (is_free s n && is_small term) (Adds (Axiom n [] term)))
  axiom_found term e = ap (λ (o : Option Term). claimed (o >>= λ t. only_when (is_free s n && is_small t) (Adds (Axiom n [] t)))) e

  pub axiom_denied : (term : Term) → term_at s.block t ≡ Some term → (is_plain s.block && is_small term) ≡ false → claimed (axiom_claim s (name n ∷ number t ∷ [])) ≡ None
  axiom_denied term e told = axiom_found term e ∙ free_denied s n (is_small term) (Adds (Axiom n [] term)) told

  pub axiom_led : (term : Term) → term_at s.block t ≡ Some term → (is_plain s.block && is_small term) ≡ true →
      claimed (axiom_claim s (name n ∷ number t ∷ [])) ≡ claimed (only_when (has_place s.history n) (Adds (Axiom n [] term)))
  axiom_led term e told = axiom_found term e ∙ free_led s n (is_small term) (Adds (Axiom n [] term)) told

-- ---- LEMMA

module _ (s : State) (n : Name) (t l : ℕ) where
  pub lemma_unknown : term_at s.block t ≡ None → claimed (lemma_claim s (name n ∷ number t ∷ number l ∷ [])) ≡ None
  lemma_unknown e = ap (λ (o : Option Term). claimed (o >>= λ t. only_when (is_free s n && is_small t && has_only (clause_at s.block l) (t ∷ [])) (Adds (Lemma n [] t)))) e

  lemma_found : (term : Term) → term_at s.block t ≡ Some term →
      claimed (lemma_claim s (name n ∷ number t ∷ number l ∷ [])) ≡ claimed (only_when (is_free s n && (is_small term && has_only (clause_at s.block l) (term ∷ []))) (Adds (Lemma n [] term)))
  lemma_found term e =
      ap (λ (o : Option Term). claimed (o >>= λ t. only_when (is_free s n && is_small t && has_only (clause_at s.block l) (t ∷ [])) (Adds (Lemma n [] t)))) e
      ∙ ap (λ b. claimed (only_when b (Adds (Lemma n [] term)))) (joined (is_free s n) (is_small term) (has_only (clause_at s.block l) (term ∷ [])))

  pub lemma_denied : (term : Term) → term_at s.block t ≡ Some term → (is_plain s.block && is_small term && has_only (clause_at s.block l) (term ∷ [])) ≡ false →
      claimed (lemma_claim s (name n ∷ number t ∷ number l ∷ [])) ≡ None
  lemma_denied term e told =
      lemma_found term e
      ∙ free_denied s n (is_small term && has_only (clause_at s.block l) (term ∷ [])) (Adds (Lemma n [] term)) (sym (joined (is_plain s.block) (is_small term) (has_only (clause_at s.block l) (term ∷ []))) ∙ told)

  pub lemma_led : (term : Term) → term_at s.block t ≡ Some term → (is_plain s.block && is_small term && has_only (clause_at s.block l) (term ∷ [])) ≡ true →
      claimed (lemma_claim s (name n ∷ number t ∷ number l ∷ [])) ≡ claimed (only_when (has_place s.history n) (Adds (Lemma n [] term)))
  lemma_led term e told =
      lemma_found term e
      ∙ free_led s n (is_small term && has_only (clause_at s.block l) (term ∷ [])) (Adds (Lemma n [] term)) (sym (joined (is_plain s.block) (is_small term) (has_only (clause_at s.block l) (term ∷ []))) ∙ told)
