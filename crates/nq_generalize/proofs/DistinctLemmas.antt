-- Terms without later copies have none.
use Rattle.std.proofs.Common.{◌≡◌, Bool, true, false, if◌then◌else◌, List, [], ◌∷◌, refl, sym, ap, ◌∙◌, subst}
use Rattle.nq_logic.specs.Terms.{Term}
use Rattle.nq_proof.specs.Clauses.{Clause, same_term, without, distinct}
use Rattle.nq_proof.proofs.Tests.{same_true}

abbrev unless : Bool → Term → Clause → Clause
unless b u c = if b then c else u ∷ c

without_twice : (t : Term) (c : Clause) → without t (without t c) ≡ without t c
without_twice t [] = refl
without_twice t (u ∷ c) = by_test (without_twice t c) (same_term t u) refl
  where
    by_test : without t (without t c) ≡ without t c → (b : Bool) → same_term t u ≡ b → without t (unless b u (without t c)) ≡ unless b u (without t c)
    by_test rest true e = rest
    by_test rest false e = ap (λ b. unless b u (without t (without t c))) e ∙ ap (λ d. u ∷ d) rest

without_both : (t u : Term) (c : Clause) → without t (without u c) ≡ without u (without t c)
without_both t u [] = refl
without_both t u (v ∷ c) = by_tests (without_both t u c) (same_term t v) (same_term u v) refl refl
  where
    by_tests : without t (without u c) ≡ without u (without t c) → (a b : Bool) → same_term t v ≡ a → same_term u v ≡ b → without t (unless b v (without u c)) ≡ without u (unless a v (without t c))
    by_tests rest true true e f = rest
    by_tests rest true false e f = ap (λ b. unless b v (without t (without u c))) e ∙ rest
    by_tests rest false true e f = rest ∙ sym (ap (λ b. unless b v (without u (without t c))) f)
    by_tests rest false false e f =
        ap (λ b. unless b v (without t (without u c))) e ∙ (ap (λ d. v ∷ d) rest ∙ sym (ap (λ b. unless b v (without u (without t c))) f))

distinct_without : (t : Term) (c : Clause) → distinct (without t c) ≡ without t (distinct c)
distinct_without t [] = refl
distinct_without t (u ∷ c) = by_test (distinct_without t c) (same_term t u) refl
  where
    by_test : distinct (without t c) ≡ without t (distinct c) → (b : Bool) → same_term t u ≡ b → distinct (unless b u (without t c)) ≡ unless b u (without t (without u (distinct c)))
    by_test rest true e = rest ∙ (sym (without_twice t (distinct c)) ∙ ap (λ v. without t (without v (distinct c))) (same_true t u e))
    by_test rest false e = ap (λ d. u ∷ without u d) rest ∙ ap (λ d. u ∷ d) (without_both u t (distinct c))

pub distinct_twice : (c : Clause) → distinct (distinct c) ≡ distinct c
distinct_twice [] = refl
distinct_twice (t ∷ c) = ap (λ d. t ∷ without t d) (distinct_without t (distinct c)) ∙ ap (λ d. t ∷ d) (without_twice t (distinct (distinct c)) ∙ ap (without t) (distinct_twice c))
