-- A part of a value made by a shell is smaller than the value.
use Rattle.std.proofs.Common.{◌≡◌, ℕ, zero, suc, List, [], ◌∷◌, ◌++◌, ◌⊎◌, map, inl, inr, refl, subst}
use Rattle.std.specs.Prelude.{Some, slice_get}
use Rattle.nq_logic.specs.Terms.{Term, Function, Applied, call, IsTerm, IsAmong, Each, substituted}
use Rattle.nq_logic.specs.Words.{call1, call2, equal_term, not_term, add1_term}
use Rattle.nq_logic.specs.Formulas.{clause}
use Rattle.nq_logic.specs.Histories.{History, Shell, Part, Restriction, OneOf, NoneOf, events_shells}
use Rattle.nq_logic.specs.Ground.{symbols_of, ground_shells}
use Rattle.nq_logic.specs.Shells.{IsShellClause, part_of_other, wrong_part_of_made, remade_is_same, size_of_made, restricted, recognized, either_of, recognizes, is_base, whole, made, remade, part_variable, part_variables, part_sizes, sum_of}
use Rattle.nq_logic.specs.Derivations.{Derivable, shell}
use Rattle.nq_logic.specs.Laws.{IsClause, IsReplaced, here, same, parts}
use Rattle.nq_logic.proofs.Lists.{each_among, each_append, among_left, among_right}
use Rattle.nq_logic.proofs.Basic.{well_formed}
use Rattle.nq_logic.proofs.Symbols.{lessp_symbol, count_symbol, equal_symbol, not_symbol}
use Rattle.nq_logic.proofs.Equality.{axiom_here}
use Rattle.nq_logic.proofs.Clauses.{clause_over, instance_law, cut_law}
use Rattle.nq_logic.proofs.Replacements.{replacement_law}
use Rattle.nq_proof.specs.Rules.{pair_terms}
use Rattle.nq_proof.proofs.Tests.{none_is_not_some, some_same}
use Rattle.nq_proof.proofs.TermTests.{each_left, substituted_over}
use Rattle.nq_laws.proofs.Descents.{less_than_one_more_at, less_than_longer_sum_at, part_is_smaller_clause_at}
use Rattle.nq_laws.proofs.Sizes.{less_than_sum_at}
use Rattle.nq_arith.proofs.PartNames.{part_pairs, part_of_whole, applied_at, sum_at, restricted_at, size_of_part, sizes_of_parts, variables_at, sizes_at, size_found}
use Rattle.nq_proof.proofs.AcceptedShells.{placed, accepted_over}
use Rattle.nq_arith.proofs.Rows.{row_over}
use Rattle.nq_arith.proofs.Orders.{found_at}
use Rattle.nq_arith.proofs.Defaults.{default_allowed}
use Rattle.nq_arith.specs.Nests.{PartIsSmaller}

-- the restriction of one term is that of another with the terms exchanged
module _ (u t : Term) where
  either_exchanged : (rs : List (List ℕ)) → IsReplaced u t 0 (either_of (recognized rs u)) (either_of (recognized rs t))
  either_exchanged [] = same 0 _
  either_exchanged (r ∷ []) = parts (same 1 (Function r)) here
  either_exchanged (r ∷ q ∷ rs) = parts (parts (same 2 _) (parts (same 1 (Function r)) here)) (either_exchanged (q ∷ rs))

  restricted_exchanged : (restriction : Restriction) → IsReplaced u t 0 (restricted restriction u) (restricted restriction t)
  restricted_exchanged (OneOf rs) = either_exchanged rs
  restricted_exchanged (NoneOf []) = same 0 _
  restricted_exchanged (NoneOf (r ∷ rs)) = parts (same 1 _) (either_exchanged (r ∷ rs))

module _ (h : History) where
  abbrev Right : Term → Type 0
  Right t = IsTerm (symbols_of h) t

  -- a summand is less than one more than the sum
  summand_right : (ts : List Term) (k : ℕ) (t : Term) → Right (sum_of ts) → slice_get ts k ≡ Some t → Right t
  summand_right [] k t o e = absurd (none_is_not_some t e)
  summand_right (u ∷ []) zero t o e = subst Right (some_same u t e) o
  summand_right (u ∷ []) (suc k) t o e = absurd (none_is_not_some t e)
  summand_right (u ∷ v ∷ rest) zero t o e = subst Right (some_same u t e) o.0.1
  summand_right (u ∷ v ∷ rest) (suc k) t o e = summand_right (v ∷ rest) k t o.1 e

  summand_is_small : (ts : List Term) (k : ℕ) (t : Term) → Right (sum_of ts) → slice_get ts k ≡ Some t → Derivable h (clause (call2 "LESSP" t (add1_term (sum_of ts)) ∷ []))
  summand_is_small [] k t o e = absurd (none_is_not_some t e)
  summand_is_small (u ∷ []) zero t o e = subst (λ x. Derivable h (clause (call2 "LESSP" x (add1_term u) ∷ []))) (some_same u t e) (less_than_one_more_at h u o)
  summand_is_small (u ∷ []) (suc k) t o e = absurd (none_is_not_some t e)
  summand_is_small (u ∷ v ∷ rest) zero t o e =
      subst (λ x. Derivable h (clause (call2 "LESSP" x (add1_term (sum_of (u ∷ v ∷ rest))) ∷ []))) (some_same u t e) (less_than_sum_at h u (sum_of (v ∷ rest)) o.0.1 o.1)
  summand_is_small (u ∷ v ∷ rest) (suc k) t o e =
      less_than_longer_sum_at h t u (sum_of (v ∷ rest)) (summand_right (v ∷ rest) k t o.1 e) o.0.1 o.1 (summand_is_small (v ∷ rest) k t o.1 e)

  pairs_right : (k : ℕ) (ps : List Part) → ((i : ℕ) (part : Part) → slice_get ps i ≡ Some part → Right (Applied (Function part.accessor) whole)) → Each (IsTerm (symbols_of h)) (pair_terms (part_pairs k ps))
  pairs_right k [] f = tt
  pairs_right k (p ∷ ps) f = (f 0 p refl, pairs_right (suc k) ps (λ i part e. f (suc i) part e))

  one_right : (t : Term) → Derivable h (clause (t ∷ [])) → Right t
  one_right t d = (well_formed h (clause (t ∷ [])) d).0

  module _ (earlier later : List Shell) (s : Shell) (among : ground_shells ++ events_shells h ≡ earlier ++ (s ∷ later)) (over : (row i : ℕ) (c : List Term) → IsShellClause earlier s row i c → IsClause h c) where
    row_holds : (row i : ℕ) (c : List Term) → IsShellClause earlier s row i c → Derivable h (clause c)
    row_holds row i c is = axiom_here h (clause c) (clause_over h c (over row i c is)) (shell earlier later s row i c among is)

    accessor_right : (i : ℕ) (part : Part) → slice_get s.parts i ≡ Some part → Right (Applied (Function part.accessor) whole)
    accessor_right i part e = (over 8 (suc i) _ (part_of_other i part e)).1.0.0.1

    abbrev pairs : List (List ℕ × Term)
    pairs = part_pairs 0 s.parts

    each_at_parts : (c : List Term) → IsClause h c → IsClause h (map (substituted pairs) c)
    each_at_parts [] o = tt
    each_at_parts (t ∷ c) o = (substituted_over h pairs (pairs_right 0 s.parts accessor_right) t 0 o.0, each_at_parts c o.1)

    row_at_parts : (row i : ℕ) (c : List Term) → IsShellClause earlier s row i c → Derivable h (clause (map (substituted pairs) c))
    row_at_parts row i c is = instance_law h pairs c (row_holds row i c is) (each_at_parts c (over row i c is))

    made_at : substituted pairs (made s) ≡ remade s
    made_at = subst (λ ts. substituted pairs (made s) ≡ call s.constructor ts) (variables_at s.parts) (applied_at pairs (Function s.constructor) (part_variables 0 s.parts))

    abbrev total : Term
    total = sum_of (sizes_of_parts s.parts)

    -- the size of the parts put together again
    size_holds : Derivable h (clause (equal_term (call1 "COUNT" (remade s)) (add1_term total) ∷ []))
    size_holds =
        let d = row_at_parts 14 0 (equal_term (call1 "COUNT" (made s)) (add1_term (sum_of (part_sizes 0 s.parts))) ∷ []) size_of_made in
        let sums = subst (λ ts. substituted pairs (sum_of (part_sizes 0 s.parts)) ≡ sum_of ts) (sizes_at s.parts) (sum_at pairs (part_sizes 0 s.parts)) in
        subst (λ t. Derivable h (clause (equal_term (call1 "COUNT" t) (add1_term total) ∷ []))) made_at
        (subst (λ t. Derivable h (clause (equal_term (call1 "COUNT" (substituted pairs (made s))) (add1_term t) ∷ []))) sums d)

    module _ (k : ℕ) (part : Part) (found : slice_get s.parts k ≡ Some part) (right : Derivable h (clause (restricted part.restriction (Function part.default) ∷ []))) where
      abbrev piece : Term
      piece = Applied (Function part.accessor) whole

      abbrev default : Term
      default = Function part.default

      default_right : Right default
      default_right = (over 8 (suc k) _ (part_of_other k part found)).1.0.1

      abbrev allowed : Term
      allowed = restricted part.restriction piece

      abbrev smaller : Term
      smaller = call2 "LESSP" (call1 "COUNT" piece) (call1 "COUNT" whole)

      abbrev again : Term
      again = equal_term (remade s) whole

      total_right : Right total
      total_right = (one_right _ size_holds).1.1

      remade_right : Right (remade s)
      remade_right = (one_right _ size_holds).0.1.1

      size_right : Right (size_of_part part)
      size_right = summand_right (sizes_of_parts s.parts) k (size_of_part part) total_right (size_found s.parts k part found)

      allowed_right : Right allowed
      allowed_right = size_right.0.0.1

      piece_right : Right piece
      piece_right = accessor_right k part found

      again_right : Right again
      again_right = ((equal_symbol h, remade_right), tt)

      smaller_right : Right smaller
      smaller_right = ((lessp_symbol h, (count_symbol h, piece_right)), (count_symbol h, tt))

      -- where X is its parts put together, the part is allowed
      allowed_holds : Derivable h (clause (allowed ∷ not_term again ∷ []))
      allowed_holds =
          let d7 = row_at_parts 7 (suc k) (restricted part.restriction (part_variable k) ∷ equal_term (Applied (Function part.accessor) (made s)) default ∷ []) (wrong_part_of_made k part found) in
          let at_piece =
          subst (λ t. substituted pairs (restricted part.restriction (part_variable k)) ≡ restricted part.restriction t) (part_of_whole s.parts k part found) (restricted_at pairs part.restriction (part_variable k))
          in
          let made_again = subst (λ t. Derivable h (clause (substituted pairs (restricted part.restriction (part_variable k)) ∷ equal_term (Applied (Function part.accessor) t) default ∷ []))) made_at d7 in
          let wrong = subst (λ t. Derivable h (clause (t ∷ equal_term (Applied (Function part.accessor) (remade s)) default ∷ []))) at_piece made_again in
          let defaulted = equal_term piece default in
          let od : Right defaulted = ((equal_symbol h, piece_right), default_right) in
          let remade_piece = equal_term (Applied (Function part.accessor) (remade s)) default in
          let no_again : Right (not_term again) = (not_symbol h, again_right) in
          let first =
          replacement_law h (remade s) whole remade_piece defaulted (allowed ∷ remade_piece ∷ []) (defaulted ∷ allowed ∷ not_term again ∷ []) wrong remade_right tt
          (parts (parts (same 2 _) (parts (same 1 _) here)) (same 0 _)) ((equal_symbol h, (piece_right.0, remade_right)), default_right) (od, (allowed_right, (no_again, tt)))
          (inr (inr (inl refl)), (inl (inl refl), tt)) (inl refl) (inl (inr (inr (inl refl))))
          in
          let second =
          replacement_law h default piece (restricted part.restriction default) allowed (restricted part.restriction default ∷ []) (not_term defaulted ∷ allowed ∷ []) right default_right piece_right
          (restricted_exchanged default piece part.restriction) (one_right _ right) ((not_symbol h, od), (allowed_right, tt)) (inl (inl refl), tt) (inr (inl refl)) (inr (inl refl))
          in
          cut_law h defaulted (defaulted ∷ allowed ∷ not_term again ∷ []) (not_term defaulted ∷ allowed ∷ []) (allowed ∷ not_term again ∷ []) first second od (allowed_right, (no_again, tt))
          (inl (inl refl), (inr (inl refl), (inr (inr (inl refl)), tt))) (inl (inl refl), (inr (inl refl), tt))

      -- and then it is smaller
      smaller_holds : Derivable h (clause (not_term again ∷ smaller ∷ []))
      smaller_holds =
          let summand = call2 "LESSP" (size_of_part part) (add1_term total) in
          let size = equal_term (call1 "COUNT" (remade s)) (add1_term total) in
          let no_allowed : Right (not_term allowed) = (not_symbol h, allowed_right) in
          let no_again : Right (not_term again) = (not_symbol h, again_right) in
          let no_size : Right (not_term size) = (not_symbol h, one_right size size_holds) in
          let is_small = summand_is_small (sizes_of_parts s.parts) k (size_of_part part) total_right (size_found s.parts k part found) in
          let law = part_is_smaller_clause_at h (remade s) (call1 "COUNT" piece) allowed total whole remade_right (count_symbol h, piece_right) allowed_right total_right tt in
          let first =
          cut_law h summand (summand ∷ []) (not_term allowed ∷ not_term summand ∷ not_term size ∷ not_term again ∷ smaller ∷ []) (not_term allowed ∷ not_term size ∷ not_term again ∷ smaller ∷ []) is_small law (one_right summand is_small) (no_allowed, (no_size, (no_again, (smaller_right, tt))))
          (inl (inl refl), tt) (inr (inl refl), (inl (inl refl), (inr (inr (inl refl)), (inr (inr (inr (inl refl))), (inr (inr (inr (inr (inl refl)))), tt)))))
          in
          let second =
          cut_law h size (size ∷ []) (not_term allowed ∷ not_term size ∷ not_term again ∷ smaller ∷ []) (not_term allowed ∷ not_term again ∷ smaller ∷ []) size_holds first (one_right size size_holds) (no_allowed, (no_again, (smaller_right, tt)))
          (inl (inl refl), tt) (inr (inl refl), (inl (inl refl), (inr (inr (inl refl)), (inr (inr (inr (inl refl))), tt))))
          in
          cut_law h allowed (allowed ∷ not_term again ∷ []) (not_term allowed ∷ not_term again ∷ smaller ∷ []) (not_term again ∷ smaller ∷ []) allowed_holds second allowed_right (no_again, (smaller_right, tt))
          (inl (inl refl), (inr (inl refl), tt)) (inl (inl refl), (inr (inl refl), (inr (inr (inl refl)), tt)))

      conclusion_holds : Derivable h (clause (not_term (recognizes s whole) ∷ (is_base s.base ++ (smaller ∷ []))))
      conclusion_holds =
          let base = is_base s.base in
          let no_made = not_term (recognizes s whole) in
          let row = over 5 0 (no_made ∷ (base ++ (again ∷ []))) remade_is_same in
          let result = no_made ∷ (base ++ (smaller ∷ [])) in
          let result_right : IsClause h result = (row.0, each_append Right base (smaller ∷ []) (each_left Right base (again ∷ []) row.1) (smaller_right, tt)) in
          cut_law h again (no_made ∷ (base ++ (again ∷ []))) (not_term again ∷ smaller ∷ []) result (row_holds 5 0 _ remade_is_same) smaller_holds again_right result_right
          (inr (inl refl), each_append (λ p. IsAmong p (again ∷ []) ⊎ IsAmong p result) base (again ∷ []) (each_among (λ p. IsAmong p (again ∷ []) ⊎ IsAmong p result) base (λ p m. inr (inr (among_left p base (smaller ∷ []) m)))) (inl (inl refl), tt))
          (inl (inl refl), (inr (inr (among_right smaller base (smaller ∷ []) (inl refl))), tt))

pub part_law : PartIsSmaller
part_law h s part accepted m i =
    let place = placed h accepted s m in
    let found = found_at part s.parts i in
    conclusion_holds h place.earlier place.later s place.at (row_over h (accepted_over h accepted) place.earlier place.later s place.at) found.0 part found.1 (default_allowed h accepted s m part i)
