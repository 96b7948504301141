-- The tests of a case, joined to one term.
use Rattle.std.proofs.Common.{◌≡◌, Bool, true, false, ℕ, List, [], ◌∷◌, ◌++◌, map, refl, inl, inr}
use Rattle.nq_logic.specs.Terms.{Term, IsTerm, IsAmong, Each}
use Rattle.nq_logic.specs.Words.{not_term, and_term, true_term, if_term}
use Rattle.nq_logic.specs.Formulas.{clause}
use Rattle.nq_logic.specs.Histories.{History}
use Rattle.nq_logic.specs.Ground.{symbols_of}
use Rattle.nq_logic.specs.Derivations.{Derivable}
use Rattle.nq_logic.specs.Laws.{IsClause}
use Rattle.nq_logic.specs.RuleShapes.{and_parts}
use Rattle.nq_logic.specs.Shapes.{Other, Truth, Choice, Conjunction, chosen}
use Rattle.nq_logic.proofs.Lists.{among_left, among_right, each_among, each_mono, each_append}
use Rattle.nq_logic.proofs.Symbols.{not_symbol, and_symbol, true_symbol, if_symbol}
use Rattle.nq_logic.proofs.Tautologies.{tautology_law}
use Rattle.nq_logic.proofs.Branches.{split_first_law}
use Rattle.nq_logic.proofs.Clauses.{more_literals, cut_law}
use Rattle.nq_goals.specs.Inducting.{all_of, all_parts}

module _ (h : History) where
  abbrev Over : Term → Type 0
  Over t = IsTerm (symbols_of h) t

  -- where a conjunction holds, each side does
  first_true : (values : ℕ → Bool) → chosen (chosen (values 0) (values 1) false) (values 0) true ≡ true
  first_true values = elim (values 0) as (λ v. chosen (chosen v (values 1) false) v true ≡ true) [ true ↦ second (values 1) | false ↦ refl ]
    where
      second : (b : Bool) → chosen b true true ≡ true
      second true = refl
      second false = refl

  second_true : (values : ℕ → Bool) → chosen (chosen (values 0) (values 1) false) (values 1) true ≡ true
  second_true values = elim (values 0) as (λ v. chosen (chosen v (values 1) false) (values 1) true ≡ true) [ true ↦ same (values 1) | false ↦ refl ]
    where
      same : (b : Bool) → chosen b b true ≡ true
      same true = refl
      same false = refl

  side : (p q x : Term) → Over p → Over q → Over x → Derivable h (clause (if_term (and_term p q) x true_term ∷ [])) → Derivable h (clause (not_term (and_term p q) ∷ x ∷ []))
  side p q x op oq ox d =
      let both : Over (and_term p q) = ((and_symbol h, op), oq) in
      split_first_law h (and_term p q) x true_term (if_term (and_term p q) x true_term ∷ []) (not_term (and_term p q) ∷ x ∷ []) d
      (((if_symbol h, both), ox), true_symbol h) ((not_symbol h, both), (ox, tt)) (inl refl) (inr (inl refl)) (inl (inl refl), tt)

  and_first : (p q : Term) → Over p → Over q → Derivable h (clause (not_term (and_term p q) ∷ p ∷ []))
  and_first p q op oq = side p q p op oq op (tautology_law h (p ∷ q ∷ []) (Choice (Conjunction (Other 0) (Other 1)) (Other 0) Truth) (op, (oq, tt)) first_true)

  and_second : (p q : Term) → Over p → Over q → Derivable h (clause (not_term (and_term p q) ∷ q ∷ []))
  and_second p q op oq = side p q q op oq oq (tautology_law h (p ∷ q ∷ []) (Choice (Conjunction (Other 0) (Other 1)) (Other 1) Truth) (op, (oq, tt)) second_true)

  -- the NOT of a conjunction in the place of the NOTs of its sides
  joined : (p q : Term) (d : List Term) → Over p → Over q → IsClause h d → Derivable h (clause (not_term p ∷ not_term q ∷ d)) → Derivable h (clause (not_term (and_term p q) ∷ d))
  joined p q d op oq od shown =
      let both : Over (and_term p q) = ((and_symbol h, op), oq) in
      let np : Over (not_term (and_term p q)) = (not_symbol h, both) in
      let nq : Over (not_term q) = (not_symbol h, oq) in
      let middle : List Term = not_term q ∷ not_term (and_term p q) ∷ d in
      let first = cut_law h p (not_term (and_term p q) ∷ p ∷ []) (not_term p ∷ not_term q ∷ d) middle (and_first p q op oq) shown op (nq, (np, od))
      (inr (inr (inl refl)), (inl (inl refl), tt)) (inl (inl refl), (inr (inl refl), each_mono (λ u. IsAmong u d) _ (λ u i. inr (inr (inr i))) d (each_among (λ u. IsAmong u d) d (λ u i. i)))) in
      cut_law h q (not_term (and_term p q) ∷ q ∷ []) middle (not_term (and_term p q) ∷ d) (and_second p q op oq) first oq (np, od)
      (inr (inl refl), (inl (inl refl), tt)) (inl (inl refl), (inr (inl refl), each_mono (λ u. IsAmong u d) _ (λ u i. inr (inr i)) d (each_among (λ u. IsAmong u d) d (λ u i. i))))

  pub all_over : (ts : List Term) → Each Over ts → Over (all_of ts)
  all_over [] o = true_symbol h
  all_over (t ∷ []) o = o.0
  all_over (t ∷ u ∷ rest) o = ((and_symbol h, o.0), all_over (u ∷ rest) o.1)

  -- the NOT of all of them in the place of their NOTs
  pub gathered : (ts d : List Term) → Each Over ts → IsClause h d → Derivable h (clause (map not_term ts ++ d)) → Derivable h (clause (not_term (all_of ts) ∷ d))
  gathered [] d o od shown = more_literals h d (not_term true_term ∷ d) shown ((not_symbol h, true_symbol h), od) (each_among (λ p. IsAmong p (not_term true_term ∷ d)) d (λ p i. inr i))
  gathered (t ∷ []) d o od shown = shown
  gathered (t ∷ u ∷ rest) d o od shown =
      let nt : Over (not_term t) = (not_symbol h, o.0) in
      let inner : List Term = map not_term (u ∷ rest) ++ (not_term t ∷ d) in
      let turned = more_literals h (not_term t ∷ (map not_term (u ∷ rest) ++ d)) inner shown (moved_over (u ∷ rest) o.1 nt)
      (among_right (not_term t) (map not_term (u ∷ rest)) (not_term t ∷ d) (inl refl), moved (map not_term (u ∷ rest))) in
      let later = gathered (u ∷ rest) (not_term t ∷ d) o.1 (nt, od) turned in
      let whole : Over (all_of (u ∷ rest)) = all_over (u ∷ rest) o.1 in
      let back = more_literals h (not_term (all_of (u ∷ rest)) ∷ not_term t ∷ d) (not_term t ∷ not_term (all_of (u ∷ rest)) ∷ d) later (nt, ((not_symbol h, whole), od))
      (inr (inl refl), (inl refl, each_among (λ p. IsAmong p (not_term t ∷ not_term (all_of (u ∷ rest)) ∷ d)) d (λ p i. inr (inr i)))) in
      joined t (all_of (u ∷ rest)) d o.0 whole od back
    where
      moved_over : (us : List Term) → Each Over us → Over (not_term t) → IsClause h (map not_term us ++ (not_term t ∷ d))
      moved_over [] os nt = (nt, od)
      moved_over (v ∷ us) os nt = ((not_symbol h, os.0), moved_over us os.1 nt)

      moved : (us : List Term) → Each (λ p. IsAmong p (us ++ (not_term t ∷ d))) (us ++ d)
      moved us = each_append (λ p. IsAmong p (us ++ (not_term t ∷ d))) us d (each_among (λ p. IsAmong p (us ++ (not_term t ∷ d))) us (λ p i. among_left p us (not_term t ∷ d) i))
          (each_among (λ p. IsAmong p (us ++ (not_term t ∷ d))) d (λ p i. among_right p us (not_term t ∷ d) (inr i)))

-- the AND parts of each are AND parts of all of them
pub parts_within : (ts : List Term) → Each (λ part. IsAmong part (and_parts (all_of ts))) (all_parts ts)
parts_within [] = tt
parts_within (t ∷ []) = each_append (λ part. IsAmong part (and_parts t)) (and_parts t) [] (each_among (λ part. IsAmong part (and_parts t)) (and_parts t) (λ p i. i)) tt
parts_within (t ∷ u ∷ rest) =
    each_append (λ part. IsAmong part (and_parts t ++ and_parts (all_of (u ∷ rest)))) (and_parts t) (all_parts (u ∷ rest))
    (each_among (λ part. IsAmong part (and_parts t ++ and_parts (all_of (u ∷ rest)))) (and_parts t) (λ p i. among_left p (and_parts t) (and_parts (all_of (u ∷ rest))) i))
    (each_mono (λ part. IsAmong part (and_parts (all_of (u ∷ rest)))) (λ part. IsAmong part (and_parts t ++ and_parts (all_of (u ∷ rest)))) (λ p i. among_right p (and_parts t) (and_parts (all_of (u ∷ rest))) i) (all_parts (u ∷ rest)) (parts_within (u ∷ rest)))
