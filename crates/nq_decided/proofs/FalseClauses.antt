-- A proposition says what the clauses of its false assignments say together.
use Rattle.std.proofs.Common.{◌≡◌, ◌∙◌, ◌⊎◌, Bool, true, false, ◌||◌, List, [], ◌∷◌, ◌++◌, append-nil, refl, sym, ap, subst, inl, inr}
use Rattle.std.specs.Prelude.{if◌then◌else◌}
use Rattle.nq_logic.specs.Terms.{Term, IsTerm, IsAmong, Each}
use Rattle.nq_logic.specs.Words.{not_term}
use Rattle.nq_logic.specs.Formulas.{Formula, Not, Or, IsFormula, implies, holds, clause}
use Rattle.nq_logic.specs.Histories.{History}
use Rattle.nq_logic.specs.Ground.{symbols_of}
use Rattle.nq_logic.specs.Derivations.{Derivable}
use Rattle.nq_logic.specs.Laws.{IsClause}
use Rattle.nq_logic.proofs.Basic.{exchanged, by_cases}
use Rattle.nq_logic.proofs.Contexts.{left_in, right_in, chained}
use Rattle.nq_logic.proofs.Lists.{among_left, among_right, each_append, each_among, each_at}
use Rattle.nq_logic.proofs.Patterns.{Part, No, Any, signed, follows1, follows3}
use Rattle.nq_logic.proofs.Equality.{If, falsity_over}
use Rattle.nq_logic.proofs.Values.{not_over, not_holds, not_fails}
use Rattle.nq_logic.proofs.Clauses.{clause_over, literal_in, clause_out}
use Rattle.nq_logic.proofs.Tautologies.{Known}
use Rattle.nq_proof.specs.Clauses.{Clause, has_term, same_term}
use Rattle.nq_proof.proofs.Tests.{found}
use Rattle.nq_fragments.specs.Propositions.{Proposition, proposition_of, others_in, truth_of}
use Rattle.nq_goals.specs.Simplifying.{Simplifies}
use Rattle.nq_goals.proofs.Matches.{same_of_itself}
use Rattle.nq_goals.proofs.Simplifications.{goes_on, proves}
use Rattle.nq_decided.specs.Falsehoods.{false_clauses, FalsehoodsSimplify}
use Rattle.nq_decided.proofs.Truths.{proposition_is}

-- ---- assignments

-- the NOT of each term that is true is a literal
abbrev AreDenied : List Term → List Term → Type 0
AreDenied trues literals = (u : Term) → IsAmong u trues → IsAmong (not_term u) literals

-- each of these terms is still open, or true, or a literal
abbrev AreCovered : List Term → List Term → List Term → List Term → Type 0
AreCovered us ts trues literals = (u : Term) → IsAmong u us → IsAmong u ts ⊎ (IsAmong u trues ⊎ IsAmong u literals)

among_last : (u t : Term) (ts : List Term) → IsAmong u (ts ++ t ∷ []) → IsAmong u ts ⊎ (u ≡ t)
among_last u t [] (inl e) = inr e
among_last u t [] (inr m) = absurd m
among_last u t (v ∷ ts) (inl e) = inl (inl e)
among_last u t (v ∷ ts) (inr m) = later (among_last u t ts m)
  where
    later : IsAmong u ts ⊎ (u ≡ t) → IsAmong u (v ∷ ts) ⊎ (u ≡ t)
    later (inl k) = inl (inr k)
    later (inr e) = inr e

denied_more : (trues literals : List Term) (t : Term) → AreDenied trues literals → AreDenied (trues ++ t ∷ []) (literals ++ not_term t ∷ [])
denied_more trues literals t are u m = by_place (among_last u t trues m)
  where
    by_place : IsAmong u trues ⊎ (u ≡ t) → IsAmong (not_term u) (literals ++ not_term t ∷ [])
    by_place (inl k) = among_left (not_term u) literals (not_term t ∷ []) (are u k)
    by_place (inr e) = among_right (not_term u) literals (not_term t ∷ []) (inl (ap not_term e))

denied_still : (trues literals more : List Term) → AreDenied trues literals → AreDenied trues (literals ++ more)
denied_still trues literals more are u m = among_left (not_term u) literals more (are u m)

covered_true : (us ts trues literals : List Term) (t : Term) → AreCovered us (t ∷ ts) trues literals → AreCovered us ts (trues ++ t ∷ []) (literals ++ not_term t ∷ [])
covered_true us ts trues literals t are u m = by_place (are u m)
  where
    by_place : IsAmong u (t ∷ ts) ⊎ (IsAmong u trues ⊎ IsAmong u literals) → IsAmong u ts ⊎ (IsAmong u (trues ++ t ∷ []) ⊎ IsAmong u (literals ++ not_term t ∷ []))
    by_place (inl (inl e)) = inr (inl (among_right u trues (t ∷ []) (inl e)))
    by_place (inl (inr k)) = inl k
    by_place (inr (inl k)) = inr (inl (among_left u trues (t ∷ []) k))
    by_place (inr (inr k)) = inr (inr (among_left u literals (not_term t ∷ []) k))

covered_false : (us ts trues literals : List Term) (t : Term) → AreCovered us (t ∷ ts) trues literals → AreCovered us ts trues (literals ++ t ∷ [])
covered_false us ts trues literals t are u m = by_place (are u m)
  where
    by_place : IsAmong u (t ∷ ts) ⊎ (IsAmong u trues ⊎ IsAmong u literals) → IsAmong u ts ⊎ (IsAmong u trues ⊎ IsAmong u (literals ++ t ∷ []))
    by_place (inl (inl e)) = inr (inr (among_right u literals (t ∷ []) (inl e)))
    by_place (inl (inr k)) = inl k
    by_place (inr (inl k)) = inr (inl k)
    by_place (inr (inr k)) = inr (inr (among_left u literals (t ∷ []) k))

either_true : (a b : Bool) → a ≡ true → (a || b) ≡ true
either_true true b e = refl
either_true false b e = absurd cc

or_true : (a b : Bool) → b ≡ true → (a || b) ≡ true
or_true true b e = refl
or_true false b e = e

among_has : (u : Term) (ts : List Term) → IsAmong u ts → has_term u ts ≡ true
among_has u [] m = absurd m
among_has u (t ∷ ts) (inl e) = either_true (same_term u t) (has_term u ts) (subst (λ (v : Term). same_term u v ≡ true) e (same_of_itself u))
among_has u (t ∷ ts) (inr m) = or_true (same_term u t) (has_term u ts) (among_has u ts m)

-- ---- clauses

module _ (h : History) where
  -- a clause implies one that has its literals
  implies_more : (c d : Clause) → IsClause h d → ((p : Term) → IsAmong p c → IsAmong p d) → Derivable h (implies (clause c) (clause d))
  implies_more c d od has = clause_out h c (clause d) (clause_over h d od) (each_among (λ p. Derivable h (implies (holds p) (clause d))) c (λ p m. literal_in h p d od (has p m)))

  -- what is known of a term beside literals that the assignment makes false
  known_other : (us trues literals : List Term) → IsClause h literals → AreDenied trues literals → AreCovered us [] trues literals → (u : Term) → IsAmong u us →
      (over : IsFormula (symbols_of h) (clause literals)) → IsTerm (symbols_of h) u → Known h (clause literals) over (has_term u trues) u
  known_other us trues literals ol denied covered u m over ou = by_value (has_term u trues) refl
    where
      d : Formula
      d = clause literals

      none : has_term u trues ≡ false → IsAmong u [] ⊎ (IsAmong u trues ⊎ IsAmong u literals) → IsAmong u literals
      none e (inl k) = absurd k
      none e (inr (inl k)) = let both : true ≡ false = sym (among_has u trues k) ∙ e in absurd cc
      none e (inr (inr k)) = k

      by_value : (b : Bool) → has_term u trues ≡ b → Derivable h (Or d (signed b (holds u)))
      by_value true e =
          follows1 h (holds u ∷ d ∷ []) ((ou, falsity_over h), (over, tt)) (If (No (Part 0)) (Part 1)) (Any (Part 1) (Part 0)) refl
          (chained h (Not (holds u)) (holds (not_term u)) d (not_holds h u ou) (literal_in h (not_term u) literals ol (denied u (found u trues e))))
      by_value false e = exchanged h (Not (holds u)) d (literal_in h u literals ol (none e (covered u m)))

  module _ (t : Term) (ot : IsTerm (symbols_of h) t) where
    abbrev p : Proposition
    p = proposition_of t

    -- the truth of the proposition beside the literals that the assignment makes false
    known_whole : (trues literals : List Term) → IsClause h literals → AreDenied trues literals → AreCovered (others_in p) [] trues literals → Each (IsTerm (symbols_of h)) (others_in p) →
        Derivable h (Or (clause literals) (signed (truth_of (λ u. has_term u trues) p) (holds t)))
    known_whole trues literals ol denied covered os =
        let over = clause_over h literals ol in
        proposition_is h (clause literals) over (λ u. has_term u trues) t
        (λ u m. known_other (others_in p) trues literals ol denied covered u m over (each_at (IsTerm (symbols_of h)) u (others_in p) os m))

    -- with the term for a first literal, the clause of an assignment is derivable, or says no more than without it
    decided : (b : Bool) (literals : List Term) → IsClause h literals → Derivable h (Or (clause literals) (signed b (holds t))) → Simplifies h (t ∷ literals) (if b then [] else literals ∷ [])
    decided true literals ol k =
        let oc : IsClause h (t ∷ literals) = (ot, ol) in
        proves h (t ∷ literals)
        (by_cases h (clause literals) (holds t) (clause (t ∷ literals)) k (implies_more literals (t ∷ literals) oc (λ u m. inr m)) (literal_in h t (t ∷ literals) oc (inl refl)))
    decided false literals ol k =
        let oc : IsClause h (t ∷ literals) = (ot, ol) in
        let d = clause literals in
        record {
          each = (
            clause_out h (t ∷ literals) d (clause_over h literals ol) (exchanged h d (Not (holds t)) k, each_among (λ u. Derivable h (implies (holds u) d)) literals (λ u m. literal_in h u literals ol m)),
            tt,
          );
          together = implies_more literals (t ∷ literals) oc (λ u m. inr m);
        }

    -- with a further term it says what it says with its NOT, and with it
    splits : (literals : List Term) (u : Term) → IsClause h literals → IsTerm (symbols_of h) u →
        Simplifies h (t ∷ literals) ((t ∷ (literals ++ not_term u ∷ [])) ∷ (t ∷ (literals ++ u ∷ [])) ∷ [])
    splits literals u ol ou =
        let f = falsity_over h in
        let on = not_over h u ou in
        let c : Clause = t ∷ literals in
        let first : Clause = t ∷ (literals ++ not_term u ∷ []) in
        let second : Clause = t ∷ (literals ++ u ∷ []) in
        let oc : IsClause h c = (ot, ol) in
        let o1 : IsClause h first = (ot, each_append (IsTerm (symbols_of h)) literals (not_term u ∷ []) ol (on, tt)) in
        let o2 : IsClause h second = (ot, each_append (IsTerm (symbols_of h)) literals (u ∷ []) ol (ou, tt)) in
        let oe = clause_over h c oc in
        let parts : List Formula = clause first ∷ clause second ∷ clause c ∷ holds u ∷ holds (not_term u) ∷ [] in
        let overs : Each (IsFormula (symbols_of h)) parts = (clause_over h first o1, (clause_over h second o2, (oe, ((ou, f), ((on, f), tt))))) in
        record {
          each = (implies_more c first o1 (further (not_term u)), (implies_more c second o2 (further u), tt));
          together =
              follows3 h parts overs (If (Part 0) (Any (Part 2) (Part 4))) (If (Part 1) (Any (Part 2) (Part 3))) (If (Part 3) (No (Part 4))) (If (No (Any (No (Part 0)) (No (Part 1)))) (Part 2)) refl
              (last_out (not_term u) on) (last_out u ou) (not_fails h u ou);
        }
      where
        further : (l u : Term) → IsAmong u (t ∷ literals) → IsAmong u (t ∷ (literals ++ l ∷ []))
        further l u (inl e) = inl e
        further l u (inr m) = inr (among_left u literals (l ∷ []) m)

        last_out : (l : Term) → IsTerm (symbols_of h) l → Derivable h (implies (clause (t ∷ (literals ++ l ∷ []))) (Or (clause (t ∷ literals)) (holds l)))
        last_out l on =
            let oc : IsClause h (t ∷ literals) = (ot, ol) in
            let e = clause (t ∷ literals) in
            let oe = clause_over h (t ∷ literals) oc in
            let g = Or e (holds l) in
            let left : Derivable h (implies e g) = left_in h e (holds l) oe (on, falsity_over h) in
            let within : (q : Term) → IsAmong q (t ∷ literals) → Derivable h (implies (holds q) g) = λ q m. chained h (holds q) e g (literal_in h q (t ∷ literals) oc m) left in
            clause_out h (t ∷ (literals ++ l ∷ [])) g (oe, (on, falsity_over h))
            (within t (inl refl), each_append (λ q. Derivable h (implies (holds q) g)) literals (l ∷ []) (each_among (λ q. Derivable h (implies (holds q) g)) literals (λ q m. within q (inr m))) (right_in h e (holds l) oe (on, falsity_over h), tt))

    simplified : (ts trues literals : List Term) → Each (IsTerm (symbols_of h)) ts → Each (IsTerm (symbols_of h)) (others_in p) → IsClause h literals → AreDenied trues literals → AreCovered (others_in p) ts trues literals →
        Simplifies h (t ∷ literals) (false_clauses ts trues literals p)
    simplified [] trues literals ots os ol denied covered = decided (truth_of (λ u. has_term u trues) p) literals ol (known_whole trues literals ol denied covered os)
    simplified (u ∷ ts) trues literals ots os ol denied covered =
        let ou = ots.0 in
        let true_goals = false_clauses ts (trues ++ u ∷ []) (literals ++ not_term u ∷ []) p in
        let false_goals = false_clauses ts trues (literals ++ u ∷ []) p in
        let one = simplified ts (trues ++ u ∷ []) (literals ++ not_term u ∷ []) ots.1 os (each_append (IsTerm (symbols_of h)) literals (not_term u ∷ []) ol (not_over h u ou, tt)) (denied_more trues literals u denied)
        (covered_true (others_in p) ts trues literals u covered) in
        let two = simplified ts trues (literals ++ u ∷ []) ots.1 os (each_append (IsTerm (symbols_of h)) literals (u ∷ []) ol (ou, tt)) (denied_still trues literals (u ∷ []) denied)
        (covered_false (others_in p) ts trues literals u covered) in
        subst (λ (goals : List Clause). Simplifies h (t ∷ literals) (true_goals ++ goals)) (append-nil false_goals)
        (goes_on h (t ∷ literals) ((t ∷ (literals ++ not_term u ∷ [])) ∷ (t ∷ (literals ++ u ∷ [])) ∷ []) (true_goals ∷ false_goals ∷ []) (splits literals u ol ou) (one, (two, tt)))

pub falsehoods_simplify : FalsehoodsSimplify
falsehoods_simplify h ts t ot ots are =
    simplified h t ot ts [] [] ots (each_among (IsTerm (symbols_of h)) (others_in (proposition_of t)) (λ u m. each_at (IsTerm (symbols_of h)) u ts ots (are u m))) tt (λ u m. absurd m) (λ u m. inl (are u m))
