-- One more term of a proposition becomes true or false.
use Rattle.std.proofs.Common.{◌≡◌, ◌<◌, Bool, true, false, List, [], ◌∷◌, ◌++◌, refl, sym, ap, ◌∙◌, subst, inl, inr}
use Rattle.std.specs.Prelude.{◌||◌, if◌then◌else◌}
use Rattle.nq_logic.specs.Terms.{Term, IsAmong}
use Rattle.nq_logic.specs.Sizes.{depth_of, depth_limit}
use Rattle.nq_logic.specs.Words.{not_term}
use Rattle.nq_logic.proofs.Lists.{among_left, among_right}
use Rattle.nq_proof.specs.Clauses.{Clause, has_term, same_term, without, distinct}
use Rattle.nq_proof.proofs.Tests.{distinct_in, same_true}
use Rattle.nq_rule.proofs.LiteralLemmas.{true_same}
use Rattle.nq_rule.proofs.ClauseLemmas.{has_term-push, same_term-sym}
use Rattle.nq_fragments.specs.Propositions.{Proposition, others_in}
use Rattle.nq_quick.specs.Lines.{denial}
use Rattle.nq_quick.specs.Coverings.{AreDifferent, Covers}
use Rattle.nq_quick.proofs.LineLemmas.{from_distinct}

-- what stands in a list is not missing from it
missing : (u t : Term) (c : Clause) → has_term t c ≡ false → IsAmong u c → same_term t u ≡ false
missing u t [] e m = absurd m
missing u t (v ∷ c) e (inl same) = by_test (same_term t v) refl e
  where
    by_test : (b : Bool) → same_term t v ≡ b → (b || has_term t c) ≡ false → same_term t u ≡ false
    by_test false k h = ap (same_term t) same ∙ k
    by_test true k h = absurd cc
missing u t (v ∷ c) e (inr m) = by_test (λ h. missing u t c h m) (same_term t v) e
  where
    by_test : (has_term t c ≡ false → same_term t u ≡ false) → (b : Bool) → (b || has_term t c) ≡ false → same_term t u ≡ false
    by_test rest false h = rest h
    by_test rest true h = absurd cc

without_missing : (t : Term) (c : Clause) → has_term t (without t c) ≡ false
without_missing t [] = refl
without_missing t (u ∷ c) = by_test (without_missing t c) (same_term t u) refl
  where
    by_test : has_term t (without t c) ≡ false → (b : Bool) → same_term t u ≡ b → has_term t (if b then without t c else u ∷ without t c) ≡ false
    by_test rest true e = rest
    by_test rest false e = ap (λ b. b || has_term t (without t c)) e ∙ rest

missing_without : (u t : Term) (c : Clause) → has_term u c ≡ false → has_term u (without t c) ≡ false
missing_without u t [] h = refl
missing_without u t (v ∷ c) h = by_both (missing_without u t c) (same_term u v) refl (same_term t v) h
  where
    by_both : (has_term u c ≡ false → has_term u (without t c) ≡ false) → (a : Bool) → same_term u v ≡ a → (b : Bool) → (a || has_term u c) ≡ false → has_term u (if b then without t c else v ∷ without t c) ≡ false
    by_both rest true e b h = absurd cc
    by_both rest false e true h = rest h
    by_both rest false e false h = ap (λ b. b || has_term u (without t c)) e ∙ rest h

different_without : (t : Term) (c : Clause) → AreDifferent c → AreDifferent (without t c)
different_without t [] h = tt
different_without t (u ∷ c) h = by_test (different_without t c h.1) (same_term t u)
  where
    by_test : AreDifferent (without t c) → (b : Bool) → AreDifferent (if b then without t c else u ∷ without t c)
    by_test rest true = rest
    by_test rest false = (missing_without u t c h.0, rest)

pub distinct_different : (c : Clause) → AreDifferent (distinct c)
distinct_different [] = tt
distinct_different (t ∷ c) = (without_missing t (distinct c), different_without t (distinct c) (distinct_different c))

-- no term is true or false yet
pub covers_none : (p : Proposition) → ((u : Term) → IsAmong u (distinct (others_in p)) → depth_of u < depth_limit) → Covers (distinct (others_in p)) [] [] p
covers_none p shallow = record { others = λ u m. from_distinct u (others_in p) m; different = distinct_different (others_in p); apart = λ u m. refl; shallow = shallow; covered = λ u m. inl (distinct_in u (others_in p) m) }

module _ (t : Term) (ts trues denials : List Term) (p : Proposition) (h : Covers (t ∷ ts) trues denials p) where
  pushed_true : (u : Term) → u ≡ t → has_term u (trues ++ t ∷ []) ≡ true
  pushed_true u e = has_term-push u t trues ∙ ap (λ b. has_term u trues || b) (true_same u t e) ∙ or_true (has_term u trues)
    where
      or_true : (b : Bool) → (b || true) ≡ true
      or_true true = refl
      or_true false = refl

  pushed_same : (u : Term) → same_term u t ≡ false → has_term u (trues ++ t ∷ []) ≡ has_term u trues
  pushed_same u e = has_term-push u t trues ∙ ap (λ b. has_term u trues || b) e ∙ or_false (has_term u trues)
    where
      or_false : (b : Bool) → (b || false) ≡ b
      or_false true = refl
      or_false false = refl

  not_first : (u : Term) → IsAmong u ts → same_term u t ≡ false
  not_first u m = same_term-sym u t ∙ missing u t ts h.different.0 m

  true_denied : (u : Term) → u ≡ t → IsAmong (denial (has_term u (trues ++ t ∷ [])) u) (denials ++ not_term t ∷ [])
  true_denied u e =
      subst (λ b. IsAmong (denial b u) (denials ++ not_term t ∷ [])) (sym (pushed_true u e)) (among_right (not_term u) denials (not_term t ∷ []) (inl (ap not_term e)))

  kept_denied : (u : Term) → IsAmong (denial (has_term u trues) u) denials → IsAmong (denial (has_term u (trues ++ t ∷ [])) u) (denials ++ not_term t ∷ [])
  kept_denied u m = by_test (same_term u t) refl
    where
      by_test : (b : Bool) → same_term u t ≡ b → IsAmong (denial (has_term u (trues ++ t ∷ [])) u) (denials ++ not_term t ∷ [])
      by_test true e = true_denied u (same_true u t e)
      by_test false e =
          subst (λ b. IsAmong (denial b u) (denials ++ not_term t ∷ [])) (sym (pushed_same u e)) (among_left (denial (has_term u trues) u) denials (not_term t ∷ []) m)

  -- t becomes true
  pub covers_true : Covers ts (trues ++ t ∷ []) (denials ++ not_term t ∷ []) p
  covers_true =
      record {
        others = λ u m. h.others u (inr m);
        different = h.different.1;
        apart = λ u m. pushed_same u (not_first u m) ∙ h.apart u (inr m);
        shallow = λ u m. h.shallow u (inr m);
        covered = λ u m. elim (h.covered u m) [
          | inl k ↦ elim k [ inl e ↦ inr (true_denied u e) | inr l ↦ inl l ]
          | inr k ↦ inr (kept_denied u k)
        ];
      }

  false_denied : (u : Term) → u ≡ t → IsAmong (denial (has_term u trues) u) (denials ++ t ∷ [])
  false_denied u e = subst (λ b. IsAmong (denial b u) (denials ++ t ∷ [])) (sym (h.apart u (inl e))) (among_right u denials (t ∷ []) (inl e))

  -- t becomes false
  pub covers_false : Covers ts trues (denials ++ t ∷ []) p
  covers_false =
      record {
        others = λ u m. h.others u (inr m);
        different = h.different.1;
        apart = λ u m. h.apart u (inr m);
        shallow = λ u m. h.shallow u (inr m);
        covered = λ u m. elim (h.covered u m) [
          | inl k ↦ elim k [ inl e ↦ inr (false_denied u e) | inr l ↦ inl l ]
          | inr k ↦ inr (among_left (denial (has_term u trues) u) denials (t ∷ []) k)
        ];
      }
