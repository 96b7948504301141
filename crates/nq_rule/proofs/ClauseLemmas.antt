-- Clauses, term by term.
use Rattle.std.proofs.Common.{◌≡◌, ℕ, ◌+◌, ◌<◌, ◌≤◌, Bool, true, false, ◌||◌, if◌then◌else◌, List, [], ◌∷◌, ◌++◌, length, get_or, take, refl, sym, ap, ◌∙◌, subst}
use Rattle.std.specs.Prelude.{All}
use Rattle.std.proofs.lemmas.List.{take_all, map_push}
use Rattle.nq_logic.specs.Terms.{Term}
use Rattle.nq_logic.specs.Words.{not_term}
use Rattle.nq_bank.specs.declared.node.TermId.{TermId}
use Rattle.nq_bank.specs.Content.{Content, Stands, term_at, terms_at, term_from}
use Rattle.nq_bank.proofs.ArgumentLemmas.{terms_from-take}
use Rattle.nq_bank.proofs.Texts.{same_test}
use Rattle.nq_bank.proofs.Standing.{All-push}
use Rattle.nq_proof.specs.Clauses.{Clause, same_term, has_term, without, distinct, has_opposite}
use Rattle.nq_proof.proofs.Tests.{same_true}
use Rattle.nq_rule.proofs.LiteralLemmas.{true_same}

or_assoc : (a b d : Bool) → ((a || b) || d) ≡ (a || (b || d))
or_assoc true b d = refl
or_assoc false b d = refl

pub or_false : (b : Bool) → (b || false) ≡ b
or_false true = refl
or_false false = refl

pub has_term-push : (t u : Term) (c : Clause) → has_term t (c ++ u ∷ []) ≡ (has_term t c || same_term t u)
has_term-push t u [] = or_false (same_term t u)
has_term-push t u (v ∷ c) = ap (λ b. same_term t v || b) (has_term-push t u c) ∙ sym (or_assoc (same_term t v) (has_term t c) (same_term t u))

has_opposite-push : (these : List Term) (t : Term) (c : Clause) → has_opposite (these ++ t ∷ []) c ≡ (has_opposite these c || has_term (not_term t) c)
has_opposite-push [] t c = or_false (has_term (not_term t) c)
has_opposite-push (u ∷ these) t c = ap (λ b. has_term (not_term u) c || b) (has_opposite-push these t c) ∙ sym (or_assoc (has_term (not_term u) c) (has_opposite these c) (has_term (not_term t) c))

-- a term at the end of a clause, unless it is left out
abbrev pub pushed : Bool → Term → Clause → Clause
pushed left_out u c = if left_out then c else c ++ u ∷ []

without-push : (t u : Term) (c : Clause) → without t (c ++ u ∷ []) ≡ pushed (same_term t u) u (without t c)
without-push t u [] = by_test (same_term t u)
  where
    by_test : (b : Bool) → (if b then [] else u ∷ []) ≡ pushed b u []
    by_test true = refl
    by_test false = refl
without-push t u (v ∷ c) = ap (λ d. if same_term t v then d else v ∷ d) (without-push t u c) ∙ by_tests (same_term t v) (same_term t u)
  where
    by_tests : (a b : Bool) → (if a then pushed b u (without t c) else v ∷ pushed b u (without t c)) ≡ pushed b u (if a then without t c else v ∷ without t c)
    by_tests true b = refl
    by_tests false true = refl
    by_tests false false = refl

pub same_term-sym : (t u : Term) → same_term t u ≡ same_term u t
same_term-sym t u =
    same_test (same_term t u) (same_term u t) (λ e. true_same u t (sym (same_true t u e))) (λ e. true_same t u (sym (same_true u t e)))

-- what is left out is no longer there, and what is another is there as before
has_term-without : (t u : Term) (c : Clause) → same_term u t ≡ false → has_term u (without t c) ≡ has_term u c
has_term-without t u [] other = refl
has_term-without t u (v ∷ c) other = by_test (has_term-without t u c other) (same_term t v) refl
  where
    by_test : has_term u (without t c) ≡ has_term u c → (b : Bool) → same_term t v ≡ b → has_term u (if b then without t c else v ∷ without t c) ≡ (same_term u v || has_term u c)
    by_test rest true e =
        let at : same_term u v ≡ false = ap (same_term u) (sym (same_true t v e)) ∙ other in
        rest ∙ ap (λ b. b || has_term u c) (sym at)
    by_test rest false e = ap (λ b. same_term u v || b) rest

distinct-push : (u : Term) (c : Clause) → distinct (c ++ u ∷ []) ≡ pushed (has_term u (distinct c)) u (distinct c)
distinct-push u [] = refl
distinct-push u (t ∷ c) = ap (λ d. t ∷ without t d) (distinct-push u c) ∙ by_test (same_term u t) refl
  where
    by_rest : (b : Bool) → same_term t u ≡ false → (t ∷ without t (pushed b u (distinct c))) ≡ pushed b u (t ∷ without t (distinct c))
    by_rest true e = refl
    by_rest false e = ap (λ d. t ∷ d) (without-push t u (distinct c) ∙ ap (λ b. pushed b u (without t (distinct c))) e)

    by_same : (b : Bool) → same_term t u ≡ true → (t ∷ without t (pushed b u (distinct c))) ≡ (t ∷ without t (distinct c))
    by_same true e = refl
    by_same false e = ap (λ d. t ∷ d) (without-push t u (distinct c) ∙ ap (λ b. pushed b u (without t (distinct c))) e)

    by_test : (b : Bool) → same_term u t ≡ b → (t ∷ without t (pushed (has_term u (distinct c)) u (distinct c))) ≡ pushed (b || has_term u (without t (distinct c))) u (t ∷ without t (distinct c))
    by_test true e = by_same (has_term u (distinct c)) (same_term-sym t u ∙ e)
    by_test false e =
        by_rest (has_term u (distinct c)) (same_term-sym t u ∙ e) ∙
        ap (λ b. pushed b u (t ∷ without t (distinct c))) (sym (has_term-without t u (distinct c) e))

-- the terms so far, and one more
pub terms_at-take : (bank : Content) (ids : List TermId) (i : ℕ) (d : TermId) → i < length ids → terms_at bank (take (i + 1) ids) ≡ terms_at bank (take i ids) ++ term_at bank (get_or ids i d) ∷ []
terms_at-take bank ids i d below = terms_from-take bank.terms ids i d below

pub has_term-more : (bank : Content) (t : Term) (ids : List TermId) (i : ℕ) (d : TermId) (so_far here found : Bool) → i < length ids → so_far ≡ has_term t (terms_at bank (take i ids)) → here ≡ same_term t (term_at bank (get_or ids i d)) → found ≡ (so_far || here) → found ≡ has_term t (terms_at bank (take (i + 1) ids))
has_term-more bank t ids i d so_far here found below was is either =
    either ∙ ap (λ b. b || here) was ∙ ap (λ b. has_term t (terms_at bank (take i ids)) || b) is ∙
    sym (ap (has_term t) (terms_at-take bank ids i d below) ∙ has_term-push t (term_at bank (get_or ids i d)) (terms_at bank (take i ids)))

pub has_opposite-more : (bank : Content) (c : Clause) (ids : List TermId) (i : ℕ) (d : TermId) (so_far here found : Bool) → i < length ids → so_far ≡ has_opposite (terms_at bank (take i ids)) c → here ≡ has_term (not_term (term_at bank (get_or ids i d))) c → found ≡ (so_far || here) → found ≡ has_opposite (terms_at bank (take (i + 1) ids)) c
has_opposite-more bank c ids i d so_far here found below was is either =
    either ∙ ap (λ b. b || here) was ∙ ap (λ b. has_opposite (terms_at bank (take i ids)) c || b) is ∙
    sym (ap (λ ts. has_opposite ts c) (terms_at-take bank ids i d below) ∙ has_opposite-push (terms_at bank (take i ids)) (term_at bank (get_or ids i d)) c)

-- all terms were walked
pub all_taken : {X : Type 0} (bank : Content) (f : List Term → X) (x : X) (ids : List TermId) (i : ℕ) → length ids ≤ i → x ≡ f (terms_at bank (take i ids)) → x ≡ f (terms_at bank ids)
all_taken bank f x ids i all is = is ∙ ap (λ xs. f (terms_at bank xs)) (take_all i ids all)

-- the terms of ids, one of which may be left out
terms_at-pushed : (bank : Content) (kept : List TermId) (b : Bool) (u : TermId) → terms_at bank (if b then kept else kept ++ u ∷ []) ≡ pushed b (term_at bank u) (terms_at bank kept)
terms_at-pushed bank kept true u = refl
terms_at-pushed bank kept false u = map_push (term_from bank.terms) kept u

pub stand-pushed : (bank : Content) (old new : List TermId) (b : Bool) (u : TermId) → All (Stands bank) old → Stands bank u → new ≡ (if b then old else old ++ u ∷ []) → All (Stands bank) new
stand-pushed bank old new true u stand here is = subst (All (Stands bank)) (sym is) stand
stand-pushed bank old new false u stand here is = subst (All (Stands bank)) (sym is) (All-push (Stands bank) old u stand here)

-- one more term of a clause without another
pub without-more : (bank : Content) (t : Term) (ids old new : List TermId) (i : ℕ) (d : TermId) (b : Bool) → i < length ids → terms_at bank old ≡ without t (terms_at bank (take i ids)) → b ≡ same_term t (term_at bank (get_or ids i d)) → new ≡ (if b then old else old ++ get_or ids i d ∷ []) → terms_at bank new ≡ without t (terms_at bank (take (i + 1) ids))
without-more bank t ids old new i d b below was is made =
    ap (terms_at bank) made ∙ terms_at-pushed bank old b (get_or ids i d) ∙ ap (λ c. pushed b (term_at bank (get_or ids i d)) c) was ∙
    ap (λ x. pushed x (term_at bank (get_or ids i d)) (without t (terms_at bank (take i ids)))) is ∙
    sym (ap (without t) (terms_at-take bank ids i d below) ∙ without-push t (term_at bank (get_or ids i d)) (terms_at bank (take i ids)))

pub distinct-more : (bank : Content) (ids old new : List TermId) (i : ℕ) (d : TermId) (b : Bool) → i < length ids → terms_at bank old ≡ distinct (terms_at bank (take i ids)) → b ≡ has_term (term_at bank (get_or ids i d)) (terms_at bank old) → new ≡ (if b then old else old ++ get_or ids i d ∷ []) → terms_at bank new ≡ distinct (terms_at bank (take (i + 1) ids))
distinct-more bank ids old new i d b below was is made =
    ap (terms_at bank) made ∙ terms_at-pushed bank old b (get_or ids i d) ∙ ap (λ c. pushed b (term_at bank (get_or ids i d)) c) was ∙
    ap (λ x. pushed x (term_at bank (get_or ids i d)) (distinct (terms_at bank (take i ids)))) (is ∙ ap (has_term (term_at bank (get_or ids i d))) was) ∙
    sym (ap distinct (terms_at-take bank ids i d below) ∙ distinct-push (term_at bank (get_or ids i d)) (terms_at bank (take i ids)))
