-- The default of each part of an accepted shell meets the part's restriction.
use Rattle.std.proofs.Common.{◌≡◌, suc, List, [], ◌∷◌, ◌++◌, ◌⊎◌, inl, inr, refl, sym, ap, ◌∙◌, subst}
use Rattle.std.specs.Prelude.{codes, Some}
use Rattle.nq_logic.specs.Terms.{Name, Term, Function, Applied, IsTerm, IsAmong, Each}
use Rattle.nq_logic.specs.Words.{true_term, false_term, equal_term, not_term}
use Rattle.nq_logic.specs.Formulas.{clause}
use Rattle.nq_logic.specs.Histories.{History, Shell, Part, Restriction, OneOf, NoneOf, events_shells}
use Rattle.nq_logic.specs.Ground.{symbols_of, ground_shells}
use Rattle.nq_logic.specs.ShellPrinciple.{listed, known_recognizers, IsDefault, Meets}
use Rattle.nq_logic.specs.Shells.{either_of, recognized, restricted, recognizes, base_is_recognized, truth_is_none, falsity_is_none, kinds_differ}
use Rattle.nq_logic.specs.Derivations.{Derivable}
use Rattle.nq_logic.specs.Laws.{here, same, parts}
use Rattle.nq_logic.proofs.Lists.{each_at, each_among}
use Rattle.nq_logic.proofs.Symbols.{true_symbol, false_symbol, equal_symbol, not_symbol}
use Rattle.nq_logic.proofs.Basic.{well_formed}
use Rattle.nq_logic.proofs.Clauses.{cut_law}
use Rattle.nq_logic.proofs.Replacements.{replacement_law}
use Rattle.nq_proof.specs.Closed.{PartOver, MeetsShellPrinciple}
use Rattle.nq_proof.proofs.ShellSymbols.{ShellOver, either_over, recognized_over}
use Rattle.nq_proof.proofs.AcceptedShells.{IsPlaced, placed, HasKind, truth, falsity, base, default_kind, recognizer_of, in_all, accepted_over}
use Rattle.nq_laws.proofs.Choices.{truth_is_truth_at, falsity_is_falsity_at, truth_is_not_falsity_at, falsity_is_not_truth_at, other_than_truth_at, other_than_falsity_at, first_of_choice_at, second_of_choice_at, none_of_choice_at}
use Rattle.nq_laws.proofs.Connectives.{truth_is_true_at}
use Rattle.nq_arith.proofs.Rows.{row_holds, row_at}
use Rattle.nq_arith.proofs.Orders.{IsBefore, ordered}

module _ (h : History) where
  abbrev Holds : Term → Type 0
  Holds t = Derivable h (clause (t ∷ []))

  right_of : (t : Term) → Holds t → IsTerm (symbols_of h) t
  right_of t d = (well_formed h (clause (t ∷ [])) d).0

  -- a clause of two literals without the first, or without the second
  without_first : (p q : Term) → Holds p → Derivable h (clause (not_term p ∷ not_term q ∷ [])) → IsTerm (symbols_of h) q → Holds (not_term q)
  without_first p q d e oq =
      cut_law h p (p ∷ []) (not_term p ∷ not_term q ∷ []) (not_term q ∷ []) d e (right_of p d) ((not_symbol h, oq), tt) (inl (inl refl), tt) (inl (inl refl), (inr (inl refl), tt))

  without_second : (p q : Term) → Holds p → Derivable h (clause (not_term q ∷ not_term p ∷ [])) → IsTerm (symbols_of h) q → Holds (not_term q)
  without_second p q d e oq =
      cut_law h p (p ∷ []) (not_term q ∷ not_term p ∷ []) (not_term q ∷ []) d e (right_of p d) ((not_symbol h, oq), tt) (inl (inl refl), tt) (inr (inl refl), (inl (inl refl), tt))

  abbrev tested : Name → Term → Term
  tested r t = Applied (Function r) t

  -- what a test tells apart is not equal
  differ : (r : Name) (t u : Term) → Holds (tested r t) → Holds (not_term (tested r u)) → IsTerm (symbols_of h) u → Holds (not_term (equal_term t u))
  differ r t u d e ou =
      let o = right_of (tested r t) d in
      let equation = equal_term t u in
      let oe : IsTerm (symbols_of h) equation = ((equal_symbol h, o.1), ou) in
      let on : IsTerm (symbols_of h) (not_term equation) = (not_symbol h, oe) in
      let moved =
      replacement_law h t u (tested r t) (tested r u) (tested r t ∷ []) (tested r u ∷ not_term equation ∷ []) d o.1 ou (parts (same 1 (Function r)) here) o ((o.0, ou), (on, tt))
      (inl (inl refl), tt) (inl refl) (inl (inr (inl refl)))
      in
      cut_law h (tested r u) (tested r u ∷ not_term equation ∷ []) (not_term (tested r u) ∷ []) (not_term equation ∷ []) moved e (o.0, ou) (on, tt) (inl (inl refl), (inr (inl refl), tt)) (inl (inl refl), tt)

  -- one of the recognizers holds, or none of them
  one_holds : (rs : List Name) (r : Name) (t : Term) → IsTerm (symbols_of h) t → Each (λ r. IsAmong (r, 1) (symbols_of h)) rs → IsAmong r rs → Holds (tested r t) → Holds (either_of (recognized rs t))
  one_holds [] r t ot over m d = absurd m
  one_holds (q ∷ []) r t ot over (inl e) d = subst (λ r. Holds (tested r t)) e d
  one_holds (q ∷ []) r t ot over (inr m) d = absurd m
  one_holds (q ∷ p ∷ rs) r t ot over (inl e) d =
      first_of_choice_at h (tested q t) (either_of (recognized (p ∷ rs) t)) (over.0, ot) (either_over h (recognized (p ∷ rs) t) (recognized_over h (p ∷ rs) t ot over.1)) (subst (λ r. Holds (tested r t)) e d)
  one_holds (q ∷ p ∷ rs) r t ot over (inr m) d =
      second_of_choice_at h (tested q t) (either_of (recognized (p ∷ rs) t)) (over.0, ot) (either_over h (recognized (p ∷ rs) t) (recognized_over h (p ∷ rs) t ot over.1)) (one_holds (p ∷ rs) r t ot over.1 m d)

  none_holds : (q : Name) (rs : List Name) (t : Term) → Each (λ r. Holds (not_term (tested r t))) (q ∷ rs) → Holds (not_term (either_of (recognized (q ∷ rs) t)))
  none_holds q [] t ds = ds.0
  none_holds q (p ∷ rs) t ds =
      let rest = none_holds p rs t ds.1 in
      none_of_choice_at h (tested q t) (either_of (recognized (p ∷ rs) t)) (right_of (not_term (tested q t)) ds.0).1 (right_of (not_term (either_of (recognized (p ∷ rs) t))) rest).1 ds.0 rest

  module _ (accepted : MeetsShellPrinciple h) where
    overs : Each (ShellOver (symbols_of h)) (ground_shells ++ events_shells h)
    overs = accepted_over h accepted

    abbrev IsHere : Shell → Type 0
    IsHere t = IsAmong t (ground_shells ++ events_shells h)

    recognizer_symbol : (t : Shell) → IsHere t → IsAmong (t.recognizer, 1) (symbols_of h)
    recognizer_symbol t m = (each_at (ShellOver (symbols_of h)) t (ground_shells ++ events_shells h) overs m).recognizer

    -- a base is of its shell's kind, and of no other shell's
    base_holds : (t : Shell) (d : Name) → IsHere t → t.base ≡ Some d → Holds (recognizes t (Function d))
    base_holds t d m e = let p = placed h accepted t m in row_holds h overs p.earlier p.later t p.at 3 0 (recognizes t (Function d) ∷ []) (base_is_recognized d e)

    base_symbol : (t : Shell) (d : Name) → IsHere t → t.base ≡ Some d → IsTerm (symbols_of h) (Function d)
    base_symbol t d m e = (each_at (ShellOver (symbols_of h)) t (ground_shells ++ events_shells h) overs m).base d e

    truth_apart : (t : Shell) → IsHere t → Holds (not_term (recognizes t true_term))
    truth_apart t m = let p = placed h accepted t m in row_holds h overs p.earlier p.later t p.at 11 0 (not_term (recognizes t true_term) ∷ []) truth_is_none

    falsity_apart : (t : Shell) → IsHere t → Holds (not_term (recognizes t false_term))
    falsity_apart t m = let p = placed h accepted t m in row_holds h overs p.earlier p.later t p.at 12 0 (not_term (recognizes t false_term) ∷ []) falsity_is_none

    kinds_apart : (x y : Shell) (d : Name) → IsTerm (symbols_of h) (Function d) → IsBefore x y (ground_shells ++ events_shells h) →
        Derivable h (clause (not_term (recognizes y (Function d)) ∷ not_term (recognizes x (Function d)) ∷ []))
    kinds_apart x y d o b = row_at h overs b.0 b.1 y b.3 ((codes "X", Function d) ∷ []) (o, tt) 13 (suc b.2) _ (kinds_differ b.2 x b.4)

    base_apart : (t u : Shell) (d : Name) → IsHere t → IsHere u → t.base ≡ Some d → (u.recognizer ≡ t.recognizer → ⊥) → Holds (not_term (recognizes u (Function d)))
    base_apart t u d mt mu e other = by_order (ordered t u (ground_shells ++ events_shells h) mt mu)
      where
        by_order : (t ≡ u) ⊎ (IsBefore t u (ground_shells ++ events_shells h) ⊎ IsBefore u t (ground_shells ++ events_shells h)) → Holds (not_term (recognizes u (Function d)))
        by_order (inl s) = absurd (other (ap (λ (x : Shell). x.recognizer) (sym s)))
        by_order (inr (inl b)) =
            without_second (recognizes t (Function d)) (recognizes u (Function d)) (base_holds t d mt e) (kinds_apart t u d (base_symbol t d mt e) b) (recognizer_symbol u mu, base_symbol t d mt e)
        by_order (inr (inr b)) =
            without_first (recognizes t (Function d)) (recognizes u (Function d)) (base_holds t d mt e) (kinds_apart u t d (base_symbol t d mt e) b) (recognizer_symbol u mu, base_symbol t d mt e)

    module _ (s : Shell) (m : IsAmong s (ground_shells ++ events_shells h)) where
      abbrev place : IsPlaced h s
      place = placed h accepted s m

      from_place : (t : Shell) → IsAmong t (s ∷ place.earlier) → IsHere t
      from_place t i = in_all place.earlier place.later s t place.at i

      kind_holds : (d r : Name) → HasKind (s ∷ place.earlier) d r → Holds (tested r (Function d))
      kind_holds d r (truth e f) = subst (λ d. Holds (tested r (Function d))) (sym e) (subst (λ r. Holds (tested r true_term)) (sym f) (truth_is_truth_at h))
      kind_holds d r (falsity e f) = subst (λ d. Holds (tested r (Function d))) (sym e) (subst (λ r. Holds (tested r false_term)) (sym f) (falsity_is_falsity_at h))
      kind_holds d r (base t i e f) = subst (λ r. Holds (tested r (Function d))) f (base_holds t d (from_place t i) e)

      -- another recognizer of a shell
      shell_denied : (d r q : Name) (u : Shell) → HasKind (s ∷ place.earlier) d r → IsHere u → q ≡ u.recognizer → (q ≡ r → ⊥) → Holds (not_term (tested q (Function d)))
      shell_denied d r q u (truth e f) n g other = subst (λ q. Holds (not_term (tested q (Function d)))) (sym g) (subst (λ d. Holds (not_term (recognizes u (Function d)))) (sym e) (truth_apart u n))
      shell_denied d r q u (falsity e f) n g other = subst (λ q. Holds (not_term (tested q (Function d)))) (sym g) (subst (λ d. Holds (not_term (recognizes u (Function d)))) (sym e) (falsity_apart u n))
      shell_denied d r q u (base t i e f) n g other =
          subst (λ q. Holds (not_term (tested q (Function d)))) (sym g) (base_apart t u d (from_place t i) n e (λ same. other (g ∙ (same ∙ f))))

      truth_denied : (d r : Name) → HasKind (s ∷ place.earlier) d r → (codes "TRUEP" ≡ r → ⊥) → Holds (not_term (tested (codes "TRUEP") (Function d)))
      truth_denied d r (truth e f) other = absurd (other (sym f))
      truth_denied d r (falsity e f) other = subst (λ d. Holds (not_term (tested (codes "TRUEP") (Function d)))) (sym e) (falsity_is_not_truth_at h)
      truth_denied d r (base t i e f) other =
          let n = from_place t i in
          other_than_truth_at h (Function d) (base_symbol t d n e) (differ t.recognizer (Function d) true_term (base_holds t d n e) (truth_apart t n) (true_symbol h))

      falsity_denied : (d r : Name) → HasKind (s ∷ place.earlier) d r → (codes "FALSEP" ≡ r → ⊥) → Holds (not_term (tested (codes "FALSEP") (Function d)))
      falsity_denied d r (truth e f) other = subst (λ d. Holds (not_term (tested (codes "FALSEP") (Function d)))) (sym e) (truth_is_not_falsity_at h)
      falsity_denied d r (falsity e f) other = absurd (other (sym f))
      falsity_denied d r (base t i e f) other =
          let n = from_place t i in
          other_than_falsity_at h (Function d) (base_symbol t d n e) (differ t.recognizer (Function d) false_term (base_holds t d n e) (falsity_apart t n) (false_symbol h))

      -- another recognizer that the shell's parts may name
      other_denied : (d r q : Name) → HasKind (s ∷ place.earlier) d r → IsAmong q (known_recognizers place.earlier s) → (q ≡ r → ⊥) → Holds (not_term (tested q (Function d)))
      other_denied d r q k (inl e) other = subst (λ q. Holds (not_term (tested q (Function d)))) (sym e) (truth_denied d r k (λ f. other (e ∙ f)))
      other_denied d r q k (inr (inl e)) other = subst (λ q. Holds (not_term (tested q (Function d)))) (sym e) (falsity_denied d r k (λ f. other (e ∙ f)))
      other_denied d r q k (inr (inr (inl e))) other = shell_denied d r q s k m e other
      other_denied d r q k (inr (inr (inr i))) other = let t = recognizer_of q place.earlier i in shell_denied d r q t.0 k (from_place t.0 (inr t.1)) t.2 other

      module _ (part : Part) (i : IsAmong part s.parts) where
        meets_holds : (restriction : Restriction) (d r : Name) → HasKind (s ∷ place.earlier) d r → Meets restriction r → IsTerm (symbols_of h) (Function d) → Each (λ q. IsAmong (q, 1) (symbols_of h)) (listed restriction) →
            Each (λ q. IsAmong q (known_recognizers place.earlier s)) (listed restriction) → Holds (restricted restriction (Function d))
        meets_holds (OneOf rs) d r k meets o over known = one_holds rs r (Function d) o over meets (kind_holds d r k)
        meets_holds (NoneOf []) d r k meets o over known = truth_is_true_at h
        meets_holds (NoneOf (q ∷ rs)) d r k meets o over known =
            none_holds q rs (Function d)
            (each_among (λ p. Holds (not_term (tested p (Function d)))) (q ∷ rs) (λ p j.
            other_denied d r p k (each_at (λ q. IsAmong q (known_recognizers place.earlier s)) p (q ∷ rs) known j) (λ e. meets (subst (λ x. IsAmong x (q ∷ rs)) e j))))

        pub default_allowed : Holds (restricted part.restriction (Function part.default))
        default_allowed =
            let default = each_at (IsDefault place.earlier s) part s.parts place.parts.defaults i in
            let over = each_at (λ part. PartOver (symbols_of h) part) part s.parts (each_at (ShellOver (symbols_of h)) s (ground_shells ++ events_shells h) overs m).parts i in
            meets_holds part.restriction part.default default.kind (default_kind place.earlier s part.default default.kind default.is) default.meets over.default over.recognizers
            (each_at (λ part. Each (λ q. IsAmong q (known_recognizers place.earlier s)) (listed part.restriction)) part s.parts place.parts.known i)
