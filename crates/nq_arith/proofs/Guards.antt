-- Tests that say that a shell's constructor made a term, in each spelling.
use Rattle.std.proofs.Common.{ℕ, List, [], ◌∷◌, ◌++◌, ◌⊎◌, inl, inr, refl, sym, subst}
use Rattle.std.specs.Prelude.{Option, Some, None}
use Rattle.nq_logic.specs.Terms.{Term, Function, IsTerm, IsAmong, Each}
use Rattle.nq_logic.specs.Words.{call1, not_term, equal_term, zero_term}
use Rattle.nq_logic.specs.Formulas.{clause}
use Rattle.nq_logic.specs.Histories.{History, Shell}
use Rattle.nq_logic.specs.Ground.{symbols_of}
use Rattle.nq_logic.specs.Shells.{recognizes}
use Rattle.nq_logic.specs.Derivations.{Derivable}
use Rattle.nq_logic.specs.Laws.{IsClause}
use Rattle.nq_logic.proofs.Lists.{each_at, each_among, each_append, among_right}
use Rattle.nq_logic.proofs.Symbols.{not_symbol}
use Rattle.nq_logic.proofs.Clauses.{more_literals, excluded_middle_law, cut_law}
use Rattle.nq_laws.proofs.Spellings.{list_by_no_atom_clause_at, equation_by_turned_clause_at, number_by_no_zero_clause_at, no_zero_by_test_clause_at}
use Rattle.nq_arith.specs.Nests.{IsGuarded, recognized, no_atom, no_base, no_base_turned, no_zero}

-- that the term is the base, if there is one
abbrev pub base_at : Option (List ℕ) → Term → List Term
base_at None y = []
base_at (Some b) y = equal_term y (Function b) ∷ []

-- what is left where the constructor did not make the term
abbrev pub not_made : Shell → Term → List Term
not_made s y = not_term (recognizes s y) ∷ base_at s.base y

module _ (h : History) (d : List Term) (od : IsClause h d) where
  -- the literal is refuted, or the clause holds
  abbrev pub Refuted : Term → Type 0
  Refuted q = Derivable h (clause (not_term q ∷ d))

  -- a clause without literals that are refuted
  pub without_refuted : (c : List Term) → IsClause h c → Each Refuted c → Derivable h (clause (c ++ d)) → Derivable h (clause d)
  without_refuted [] oc r e = e
  without_refuted (q ∷ c) oc r e =
      let rest : IsClause h (c ++ d) = each_append (IsTerm (symbols_of h)) c d oc.1 od in
      without_refuted c oc.1 r.1
      (cut_law h q (q ∷ (c ++ d)) (not_term q ∷ d) (c ++ d) e r.0 oc.0 rest
      (inl (inl refl), each_among (λ p. IsAmong p (q ∷ []) ⊎ IsAmong p (c ++ d)) (c ++ d) (λ p m. inr m))
      (inl (inl refl), each_among (λ p. IsAmong p (not_term q ∷ []) ⊎ IsAmong p (c ++ d)) d (λ p m. inr (among_right p c d m))))

  -- a literal of the clause itself
  pub itself : (q : Term) → IsAmong q d → Refuted q
  itself q m =
      let oq = each_at (IsTerm (symbols_of h)) q d od m in
      excluded_middle_law h q (not_term q ∷ d) ((not_symbol h, oq), od) (inr m) (inl refl)

  -- what a test of the clause refutes
  by_test : (q t : Term) → IsAmong (not_term t) d → Derivable h (clause (not_term q ∷ not_term t ∷ [])) → IsTerm (symbols_of h) (not_term q) → Refuted q
  by_test q t m e o = more_literals h (not_term q ∷ not_term t ∷ []) (not_term q ∷ d) e (o, od) (inl refl, (inr m, tt))

  denied_itself : (t : Term) → IsAmong (not_term (not_term t)) d → Refuted t
  denied_itself t m =
      let o = each_at (IsTerm (symbols_of h)) (not_term (not_term t)) d od m in
      excluded_middle_law h (not_term t) (not_term t ∷ d) (o.1, od) (inl refl) (inr m)

  module _ (tests : List Term) (denied : Each (λ t. IsAmong (not_term t) d) tests) where
    in_clause : (t : Term) → IsAmong t tests → IsAmong (not_term t) d
    in_clause t m = each_at (λ t. IsAmong (not_term t) d) t tests denied m

    -- that the term is not of the kind, and that it is the base, are refuted
    pub guard_refutes : (s : Shell) (y : Term) → IsTerm (symbols_of h) y → IsClause h (not_made s y) → IsGuarded tests s y → Each Refuted (not_made s y)
    guard_refutes s y oy o (recognized e m) = (itself (not_term (recognizes s y)) (in_clause (recognizes s y) m), subst (λ b. Each Refuted (base_at b y)) (sym e) tt)
    guard_refutes s y oy o (no_base b e m n) =
        (itself (not_term (recognizes s y)) (in_clause (recognizes s y) m), subst (λ b. Each Refuted (base_at b y)) (sym e) (denied_itself (equal_term y (Function b)) (in_clause (not_term (equal_term y (Function b))) n), tt))
    guard_refutes s y oy o (no_base_turned b e m n) =
        let ob = subst (λ b. IsClause h (base_at b y)) e o.1 in (
          itself (not_term (recognizes s y)) (in_clause (recognizes s y) m),
          subst (λ b. Each Refuted (base_at b y)) (sym e) (
            by_test (equal_term y (Function b)) (not_term (equal_term (Function b) y)) (in_clause (not_term (equal_term (Function b) y)) n) (equation_by_turned_clause_at h y (Function b) oy ob.0.1) (not_symbol h, ob.0),
            tt,
          ),
        )
    guard_refutes s y oy o (no_atom e m) =
        subst (λ s. IsClause h (not_made s y) → Each Refuted (not_made s y)) (sym e)
        (λ o. (by_test (not_term (call1 "LISTP" y)) (not_term (call1 "NLISTP" y)) (in_clause (not_term (call1 "NLISTP" y)) m) (list_by_no_atom_clause_at h y oy) (not_symbol h, o.0), tt)) o
    guard_refutes s y oy o (no_zero e m) =
        let test = in_clause (not_term (call1 "ZEROP" y)) m in
        subst (λ s. IsClause h (not_made s y) → Each Refuted (not_made s y)) (sym e)
        (λ o. (
          by_test (not_term (call1 "NUMBERP" y)) (not_term (call1 "ZEROP" y)) test (number_by_no_zero_clause_at h y oy) (not_symbol h, o.0),
          (by_test (equal_term y zero_term) (not_term (call1 "ZEROP" y)) test (no_zero_by_test_clause_at h y oy) (not_symbol h, o.1.0), tt),
        )) o
