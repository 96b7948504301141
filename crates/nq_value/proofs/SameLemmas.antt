-- Terms that are compared by their ids.
use Rattle.std.proofs.Common.{◌≡◌, Bool, true, false, eqb, refl, ap, sym, ◌∙◌}
use Rattle.std.proofs.lemmas.Bool.{eqb-true, eq-eqb}
use Rattle.nq_logic.specs.Terms.{Term, Variable, Function, Applied}
use Rattle.nq_bank.specs.declared.node.TermId.{TermId}
use Rattle.nq_bank.specs.Content.{Content, Stands, term_at}
use Rattle.nq_bank.specs.Soundness.{IsSound}
use Rattle.nq_bank.proofs.Texts.{eq-bytes_eq, same_test}
use Rattle.nq_proof.specs.Clauses.{same_term}
use Rattle.nq_proof.proofs.Tests.{same_true}

same_itself : (t : Term) → same_term t t ≡ true
same_itself (Variable x) = eq-bytes_eq x x refl
same_itself (Function f) = eq-bytes_eq f f refl
same_itself (Applied t u) = ap (λ b. elim b as (λ b. Bool) [ true ↦ same_term u u | false ↦ false ]) (same_itself t) ∙ same_itself u

true_same : (t u : Term) → t ≡ u → same_term t u ≡ true
true_same t u e = ap (same_term t) (sym e) ∙ same_itself t

-- two ids are one where their terms are one
pub eqb-terms : (bank : Content) (t u : TermId) → IsSound bank → Stands bank t → Stands bank u → eqb t.0 u.0 ≡ same_term (term_at bank t) (term_at bank u)
eqb-terms bank t u sound stands standing =
    same_test (eqb t.0 u.0) (same_term (term_at bank t) (term_at bank u))
    (λ h. true_same (term_at bank t) (term_at bank u) (ap (λ n. term_at bank (record { 0 = n })) (eqb-true t.0 u.0 h)))
    (λ h. eq-eqb t.0 u.0 ((sound.terms u standing).only t stands (same_true (term_at bank t) (term_at bank u) h)))
