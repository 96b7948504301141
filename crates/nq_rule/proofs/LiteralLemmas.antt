-- Terms that are compared, and what stands under a NOT.
use Rattle.std.proofs.Common.{◌≡◌, ℕ, zero, suc, ◌<◌, ◌≤◌, Bool, true, false, eqb, Option, Some, None, List, [], ◌∷◌, length, refl, sym, ap, ◌∙◌, arith}
use Rattle.std.specs.Prelude.{bytes_eq, codes, is_some}
use Rattle.std.specs.Option.{option_map}
use Rattle.std.proofs.lemmas.Bool.{eqb-true, eq-eqb}
use Rattle.nq_logic.specs.Terms.{Term, Variable, Function, Applied, applied, call}
use Rattle.nq_logic.specs.Words.{not_term, numeral}
use Rattle.nq_bank.specs.declared.node.TermId.{TermId}
use Rattle.nq_bank.specs.Content.{Content, Stands, term_at, terms_at}
use Rattle.nq_bank.specs.Soundness.{IsSound}
use Rattle.nq_bank.proofs.Texts.{bytes_eq-true, eq-bytes_eq, same_test}
use Rattle.nq_proof.specs.Clauses.{same_term}
use Rattle.nq_proof.specs.Paths.{under_not}
use Rattle.nq_proof.proofs.Tests.{same_true}

same_itself : (t : Term) → same_term t t ≡ true
same_itself (Variable x) = eq-bytes_eq x x refl
same_itself (Function f) = eq-bytes_eq f f refl
same_itself (Applied t u) =
    ap (λ b. elim b as (λ b. Bool) [ true ↦ same_term u u | false ↦ false ]) (same_itself t) ∙ same_itself u

pub true_same : (t u : Term) → t ≡ u → same_term t u ≡ true
true_same t u e = ap (same_term t) (sym e) ∙ same_itself t

-- two ids are one where their terms are one
pub eqb-terms : (bank : Content) (t u : TermId) → IsSound bank → Stands bank t → Stands bank u → eqb t.0 u.0 ≡ same_term (term_at bank t) (term_at bank u)
eqb-terms bank t u sound stands standing =
    let id : ℕ → TermId = λ n. record { 0 = n } in
    same_test (eqb t.0 u.0) (same_term (term_at bank t) (term_at bank u))
    (λ h. true_same (term_at bank t) (term_at bank u) (ap (λ n. term_at bank (id n)) (eqb-true t.0 u.0 h)))
    (λ h. eq-eqb t.0 u.0 ((sound.terms u standing).only t stands (same_true (term_at bank t) (term_at bank u) h)))

bytes_eq-sym : (f g : List ℕ) → bytes_eq f g ≡ bytes_eq g f
bytes_eq-sym f g =
    same_test (bytes_eq f g) (bytes_eq g f) (λ e. eq-bytes_eq g f (sym (bytes_eq-true f g e))) (λ e. eq-bytes_eq f g (sym (bytes_eq-true g f e)))

-- a call of more than one argument is no NOT
under_not-applied : (t u v : Term) (ts : List Term) → under_not (applied (Applied (Applied t u) v) ts) ≡ None
under_not-applied t u v [] = refl
under_not-applied t u v (w ∷ ts) = under_not-applied (Applied t u) v w ts

pub under_not-numeral : (n : ℕ) → under_not (numeral n) ≡ None
unfolding numeral
under_not-numeral zero = refl
under_not-numeral (suc n) = refl

abbrev pub if_true : Bool → Term → Option Term
if_true true t = Some t
if_true false t = None

pub under_not-one : (f : List ℕ) (t : Term) (b : Bool) → b ≡ bytes_eq f (codes "NOT") → under_not (Applied (Function f) t) ≡ if_true b t
under_not-one f t b e = by_test (bytes_eq (codes "NOT") f) ∙ ap (λ b. if_true b t) (bytes_eq-sym (codes "NOT") f ∙ sym e)
  where
    by_test : (b : Bool) → elim b as (λ b. Option Term) [ true ↦ Some t | false ↦ None ] ≡ if_true b t
    by_test true = refl
    by_test false = refl

abbrev pub same_under : Term → Option Term → Bool
same_under t None = false
same_under t (Some u) = same_term t u

same_under-not : (t u : Term) → same_under t (under_not u) ≡ same_term (not_term t) u
same_under-not t (Variable x) = refl
same_under-not t (Function f) = refl
same_under-not t (Applied (Variable x) v) = refl
same_under-not t (Applied (Function f) v) = by_test (bytes_eq (codes "NOT") f)
  where
    by_test : (b : Bool) → same_under t (elim b as (λ b. Option Term) [ true ↦ Some v | false ↦ None ]) ≡ elim b as (λ b. Bool) [ true ↦ same_term t v | false ↦ false ]
    by_test true = refl
    by_test false = refl
same_under-not t (Applied (Applied u w) v) = refl

-- a term is the NOT of t where t stands under its NOT
pub is_not : (bank : Content) (t term : Term) (found : Option TermId) (u : TermId) (b : Bool) → option_map (term_at bank) found ≡ under_not term → found ≡ Some u → b ≡ same_term t (term_at bank u) → b ≡ same_term (not_term t) term
is_not bank t term found u b under some same =
    same ∙ ap (same_under t) (sym (ap (option_map (term_at bank)) some) ∙ under) ∙ same_under-not t term

pub is_no_not : (bank : Content) (t term : Term) (found : Option TermId) → option_map (term_at bank) found ≡ under_not term → found ≡ None → false ≡ same_term (not_term t) term
is_no_not bank t term found under none =
    ap (same_under t) (sym (ap (option_map (term_at bank)) none) ∙ under) ∙ same_under-not t term

-- a call of one argument of another function, and a call of more arguments
pub no_not_call : (bank : Content) (f : List ℕ) (ids : List TermId) → 1 ≤ length ids → length ids < 2 → bytes_eq f (codes "NOT") ≡ false → None ≡ under_not (call f (terms_at bank ids))
no_not_call bank f [] least below other = absurd (omega arith)
no_not_call bank f (t ∷ []) least below other = sym (under_not-one f (term_at bank t) false (sym other))
no_not_call bank f (t ∷ (u ∷ ids)) least below other = absurd (omega arith)

pub not_one : (bank : Content) (f : List ℕ) (ids : List TermId) → 2 ≤ length ids → None ≡ under_not (call f (terms_at bank ids))
not_one bank f [] least = absurd (omega arith)
not_one bank f (t ∷ []) least = absurd (omega arith)
not_one bank f (t ∷ (u ∷ ids)) least = sym (under_not-applied (Function f) (term_at bank t) (term_at bank u) (terms_at bank ids))

pub is_some-map : (bank : Content) (o : Option TermId) → is_some o ≡ is_some (option_map (term_at bank) o)
is_some-map bank None = refl
is_some-map bank (Some x) = refl
