-- Clauses without the literals that meet a test.
use Rattle.std.proofs.Common.{◌≡◌, ℕ, zero, suc, ◌+◌, ◌-◌, ◌<◌, ◌≤◌, arith, Bool, true, false, if◌then◌else◌, List, [], ◌∷◌, ◌++◌, length, get_or, take, refl, sym, ap, ◌∙◌}
use Rattle.std.specs.Prelude.{not}
use Rattle.std.proofs.lemmas.List.{map_push}
use Rattle.nq_logic.specs.Terms.{Term}
use Rattle.nq_bank.specs.declared.node.TermId.{TermId}
use Rattle.nq_bank.specs.Content.{Content, term_at, terms_at, term_from}
use Rattle.nq_proof.specs.Clauses.{Clause, has_term}
use Rattle.nq_rule.proofs.ClauseLemmas.{terms_at-take}
use Rattle.nq_goals.specs.Dropping.{is_tied, tied, untied, group_from, others}

abbrev pushed : Bool → Term → Clause → Clause
pushed b u c = if b then c else c ++ u ∷ []

abbrev pub left_out : (Term → Bool) → Clause → Clause
left_out test [] = []
left_out test (t ∷ c) = if test t then left_out test c else t ∷ left_out test c

left_out-push : (test : Term → Bool) (u : Term) (c : Clause) → left_out test (c ++ u ∷ []) ≡ pushed (test u) u (left_out test c)
left_out-push test u [] = by_test (test u)
  where
    by_test : (b : Bool) → (if b then [] else u ∷ []) ≡ pushed b u []
    by_test true = refl
    by_test false = refl
left_out-push test u (t ∷ c) = ap (λ d. if test t then d else t ∷ d) (left_out-push test u c) ∙ by_tests (test t) (test u)
  where
    by_tests : (a b : Bool) → (if a then pushed b u (left_out test c) else t ∷ pushed b u (left_out test c)) ≡ pushed b u (if a then left_out test c else t ∷ left_out test c)
    by_tests true b = refl
    by_tests false true = refl
    by_tests false false = refl

terms_at-pushed : (bank : Content) (kept : List TermId) (b : Bool) (u : TermId) → terms_at bank (if b then kept else kept ++ u ∷ []) ≡ pushed b (term_at bank u) (terms_at bank kept)
terms_at-pushed bank kept true u = refl
terms_at-pushed bank kept false u = map_push (term_from bank.terms) kept u

-- one more term
left_out-more : (bank : Content) (test : Term → Bool) (ids old new : List TermId) (i : ℕ) (d : TermId) (b : Bool) → i < length ids → terms_at bank old ≡ left_out test (terms_at bank (take i ids)) → b ≡ test (term_at bank (get_or ids i d)) → new ≡ (if b then old else old ++ get_or ids i d ∷ []) → terms_at bank new ≡ left_out test (terms_at bank (take (i + 1) ids))
left_out-more bank test ids old new i d b below was is made =
    ap (terms_at bank) made ∙ terms_at-pushed bank old b (get_or ids i d) ∙ ap (λ c. pushed b (term_at bank (get_or ids i d)) c) was ∙
    ap (λ x. pushed x (term_at bank (get_or ids i d)) (left_out test (terms_at bank (take i ids)))) is ∙
    sym (ap (left_out test) (terms_at-take bank ids i d below) ∙ left_out-push test (term_at bank (get_or ids i d)) (terms_at bank (take i ids)))

tied-left : (these c : Clause) → tied these c ≡ left_out (λ t. not (is_tied these t)) c
tied-left these [] = refl
tied-left these (t ∷ c) = ap (λ d. if is_tied these t then t ∷ d else d) (tied-left these c) ∙ by_test (is_tied these t)
  where
    by_test : (b : Bool) → (if b then t ∷ left_out (λ t. not (is_tied these t)) c else left_out (λ t. not (is_tied these t)) c) ≡ (if not b then left_out (λ t. not (is_tied these t)) c else t ∷ left_out (λ t. not (is_tied these t)) c)
    by_test true = refl
    by_test false = refl

untied-left : (these c : Clause) → untied these c ≡ left_out (is_tied these) c
untied-left these [] = refl
untied-left these (t ∷ c) = ap (λ d. if is_tied these t then d else t ∷ d) (untied-left these c)

others-left : (these c : Clause) → others these c ≡ left_out (λ t. has_term t these) c
others-left these [] = refl
others-left these (t ∷ c) = ap (λ d. if has_term t these then d else t ∷ d) (others-left these c)

pub tied-more : (bank : Content) (these : Clause) (ids old new : List TermId) (i : ℕ) (d : TermId) (here b : Bool) → i < length ids → terms_at bank old ≡ tied these (terms_at bank (take i ids)) → here ≡ is_tied these (term_at bank (get_or ids i d)) → b ≡ not here → new ≡ (if b then old else old ++ get_or ids i d ∷ []) → terms_at bank new ≡ tied these (terms_at bank (take (i + 1) ids))
tied-more bank these ids old new i d here b below was is turned made =
    left_out-more bank (λ t. not (is_tied these t)) ids old new i d b below (was ∙ tied-left these (terms_at bank (take i ids))) (turned ∙ ap not is) made ∙ sym (tied-left these (terms_at bank (take (i + 1) ids)))

pub untied-more : (bank : Content) (these : Clause) (ids old new : List TermId) (i : ℕ) (d : TermId) (b : Bool) → i < length ids → terms_at bank old ≡ untied these (terms_at bank (take i ids)) → b ≡ is_tied these (term_at bank (get_or ids i d)) → new ≡ (if b then old else old ++ get_or ids i d ∷ []) → terms_at bank new ≡ untied these (terms_at bank (take (i + 1) ids))
untied-more bank these ids old new i d b below was is made =
    left_out-more bank (is_tied these) ids old new i d b below (was ∙ untied-left these (terms_at bank (take i ids))) is made ∙ sym (untied-left these (terms_at bank (take (i + 1) ids)))

pub others-more : (bank : Content) (these : Clause) (ids old new : List TermId) (i : ℕ) (d : TermId) (b : Bool) → i < length ids → terms_at bank old ≡ others these (terms_at bank (take i ids)) → b ≡ has_term (term_at bank (get_or ids i d)) these → new ≡ (if b then old else old ++ get_or ids i d ∷ []) → terms_at bank new ≡ others these (terms_at bank (take (i + 1) ids))
others-more bank these ids old new i d b below was is made =
    left_out-more bank (λ t. has_term t these) ids old new i d b below (was ∙ others-left these (terms_at bank (take i ids))) is made ∙ sym (others-left these (terms_at bank (take (i + 1) ids)))

-- one more round
pub one_round : (n : ℕ) (inside outside : Clause) → 1 ≤ n → group_from (n - 1) (inside ++ tied inside outside) (untied inside outside) ≡ group_from n inside outside
one_round zero inside outside h = absurd (omega arith)
one_round (suc n) inside outside h =
    let e : suc n - 1 ≡ n = omega arith in
    ap (λ k. group_from k (inside ++ tied inside outside) (untied inside outside)) e
