-- A nest of a shell's accessors is smaller than what it is around.
use Rattle.std.proofs.Common.{◌≡◌, ℕ, List, [], ◌∷◌, ◌++◌, ◌⊎◌, map, inl, inr, refl, ap, subst}
use Rattle.std.specs.Prelude.{Option, Some, None, codes}
use Rattle.nq_logic.specs.Terms.{Term, IsTerm, IsAmong, Each, Substitution, substituted}
use Rattle.nq_logic.specs.Words.{not_term}
use Rattle.nq_logic.specs.Formulas.{clause}
use Rattle.nq_logic.specs.Histories.{History, Shell, Part, events_shells}
use Rattle.nq_logic.specs.Ground.{symbols_of, ground_shells}
use Rattle.nq_logic.specs.Shells.{recognizes, is_base, whole}
use Rattle.nq_logic.specs.Derivations.{Derivable}
use Rattle.nq_logic.specs.Laws.{IsClause}
use Rattle.nq_logic.proofs.Lists.{each_at, each_among, each_append, each_mono, among_left}
use Rattle.nq_logic.proofs.Symbols.{lessp_symbol, count_symbol, not_symbol}
use Rattle.nq_logic.proofs.Clauses.{literals_over, more_literals, cut_law}
use Rattle.nq_logic.proofs.Basic.{well_formed}
use Rattle.nq_proof.specs.Closed.{MeetsShellPrinciple}
use Rattle.nq_proof.proofs.TermTests.{each_left}
use Rattle.nq_proof.proofs.ShellSymbols.{ShellOver}
use Rattle.nq_proof.proofs.AcceptedShells.{accepted_over}
use Rattle.nq_laws.proofs.Descents.{sizes_descend_clause_at, smaller_is_below_clause_at}
use Rattle.nq_arith.proofs.Rows.{derived_at}
use Rattle.nq_arith.proofs.SmallerParts.{part_law}
use Rattle.nq_arith.proofs.Guards.{base_at, not_made, Refuted, without_refuted, itself, guard_refutes}
use Rattle.nq_arith.specs.Nests.{IsShellOf, accessor_of, is_smaller, is_below, nest, IsGuarded, AreGuarded, NestIsSmaller}

map_append : {X : Type 0} (f : X → X) (xs ys : List X) → map f (xs ++ ys) ≡ map f xs ++ map f ys
map_append f [] ys = refl
map_append f (x ∷ xs) ys = ap (◌∷◌ (f x)) (map_append f xs ys)

base_instance : (b : Option (List ℕ)) (t : Term) → map (substituted ((codes "X", t) ∷ [])) (is_base b) ≡ base_at b t
base_instance None t = refl
base_instance (Some b) t = refl

module _ (h : History) (s : Shell) (accepted : MeetsShellPrinciple h) (m : IsShellOf h s) where
  abbrev Right : Term → Type 0
  Right t = IsTerm (symbols_of h) t

  abbrev IsPart : Part → Type 0
  IsPart part = IsAmong part s.parts

  smaller_right : (t u : Term) → Right t → Right u → Right (is_smaller t u)
  smaller_right t u ot ou = ((lessp_symbol h, (count_symbol h, ot)), (count_symbol h, ou))

  accessor_right : (p : Part) (t : Term) → IsPart p → Right t → Right (accessor_of p t)
  accessor_right p t i ot =
      (each_at (λ part. IsAmong (part.accessor, 1) (symbols_of h)) p s.parts (each_at (ShellOver (symbols_of h)) s (ground_shells ++ events_shells h) (accepted_over h accepted) m).accessors i, ot)

  pub nest_right : (x : Term) (ps : List Part) → Right x → Each IsPart ps → Right (nest x ps)
  nest_right x [] ox f = ox
  nest_right x (p ∷ ps) ox f = accessor_right p (nest x ps) f.0 (nest_right x ps ox f.1)

  -- the law of parts at a term
  abbrev level : Part → Term → List Term
  level p y = not_made s y ++ (is_smaller (accessor_of p y) y ∷ [])

  level_holds : (p : Part) (y : Term) → IsPart p → Right y → Derivable h (clause (level p y))
  level_holds p y i oy =
      let pairs : Substitution = (codes "X", y) ∷ [] in
      let c = not_term (recognizes s whole) ∷ (is_base s.base ++ (is_smaller (accessor_of p whole) whole ∷ [])) in
      let d : Derivable h (clause c) = part_law h s p accepted m i in
      let oc : IsClause h c = literals_over h c (well_formed h (clause c) d) in
      let e = map_append (substituted pairs) (is_base s.base) (is_smaller (accessor_of p whole) whole ∷ []) in
      let smaller = is_smaller (accessor_of p y) y in
      subst (λ b. Derivable h (clause (not_term (recognizes s y) ∷ (b ++ (smaller ∷ []))))) (base_instance s.base y)
      (subst (λ b. Derivable h (clause (not_term (recognizes s y) ∷ b))) e (derived_at h pairs (oy, tt) c oc d))

  module _ (x : Term) (ox : IsTerm (symbols_of h) x) where
    -- a part of a term under its tests
    level_under : (p : Part) (y : Term) (tests d : List Term) → IsPart p → Right y → IsGuarded tests s y → IsClause h d → Each (λ t. IsAmong (not_term t) d) tests → IsAmong (is_smaller (accessor_of p y) y) d → Derivable h (clause d)
    level_under p y tests d i oy g od denied n =
        let smaller = is_smaller (accessor_of p y) y in
        let dl = level_holds p y i oy in
        let ol : IsClause h (level p y) = literals_over h (level p y) (well_formed h (clause (level p y)) dl) in
        let om = each_left Right (not_made s y) (smaller ∷ []) ol in
        let refuted = each_append (Refuted h d od) (not_made s y) (smaller ∷ []) (guard_refutes h d od tests denied s y oy om g) (itself h d od smaller n, tt) in
        without_refuted h d od (level p y) ol refuted
        (more_literals h (level p y) (level p y ++ d) dl (each_append Right (level p y) d ol od) (each_among (λ q. IsAmong q (level p y ++ d)) (level p y) (λ q j. among_left q (level p y) d j)))

    -- one literal more leaves the tests denied
    one_more : (q : Term) (tests d : List Term) → Each (λ t. IsAmong (not_term t) d) tests → Each (λ t. IsAmong (not_term t) (q ∷ d)) tests
    one_more q tests d denied = each_mono (λ t. IsAmong (not_term t) d) (λ t. IsAmong (not_term t) (q ∷ d)) (λ t j. inr j) tests denied

    nest_under : (p : Part) (ps : List Part) (tests d : List Term) → Each IsPart (p ∷ ps) → AreGuarded tests s x (p ∷ ps) → IsClause h d → Each (λ t. IsAmong (not_term t) d) tests → IsAmong (is_smaller (nest x (p ∷ ps)) x) d → Derivable h (clause d)
    nest_under p [] tests d f g od denied n = level_under p x tests d f.0 ox g.0 od denied n
    nest_under p (q ∷ qs) tests d f g od denied n =
        let y = nest x (q ∷ qs) in
        let z = nest x (p ∷ q ∷ qs) in
        let oy = nest_right x (q ∷ qs) ox f.1 in
        let oz = nest_right x (p ∷ q ∷ qs) ox f in
        let upper = is_smaller y x in
        let lower = is_smaller z y in
        let ou = smaller_right y x oy ox in
        let ol = smaller_right z y oz oy in
        let inner = nest_under q qs tests (upper ∷ d) f.1 g.1 (ou, od) (one_more upper tests d denied) (inl refl) in
        let outer = level_under p y tests (lower ∷ d) f.0 oy g.0 (ol, od) (one_more lower tests d denied) (inl refl) in
        let d1 = not_term upper ∷ d in
        let od1 : IsClause h d1 = ((not_symbol h, ou), od) in
        let chained =
        cut_law h lower (lower ∷ d) (not_term upper ∷ not_term lower ∷ is_smaller z x ∷ []) d1 outer (sizes_descend_clause_at h z y x oz oy ox) ol od1
        (inl (inl refl), each_among (λ t. IsAmong t (lower ∷ []) ⊎ IsAmong t d1) d (λ t j. inr (inr j))) (inr (inl refl), (inl (inl refl), (inr (inr n), tt)))
        in
        cut_law h upper (upper ∷ d) d1 d inner chained ou od (inl (inl refl), each_among (λ t. IsAmong t (upper ∷ []) ⊎ IsAmong t d) d (λ t j. inr j)) (inl (inl refl), each_among (λ t. IsAmong t (not_term upper ∷ []) ⊎ IsAmong t d) d (λ t j. inr j))

    -- the same in the order of the ordinals
    nest_falls : (p : Part) (ps : List Part) (tests d : List Term) → Each IsPart (p ∷ ps) → AreGuarded tests s x (p ∷ ps) → IsClause h d → Each (λ t. IsAmong (not_term t) d) tests → IsAmong (is_below (nest x (p ∷ ps)) x) d → Derivable h (clause d)
    nest_falls p ps tests d f g od denied n =
        let z = nest x (p ∷ ps) in
        let oz = nest_right x (p ∷ ps) ox f in
        let l = is_smaller z x in
        let ol = smaller_right z x oz ox in
        let inner = nest_under p ps tests (l ∷ d) f g (ol, od) (one_more l tests d denied) (inl refl) in
        cut_law h l (l ∷ d) (not_term l ∷ is_below z x ∷ []) d inner (smaller_is_below_clause_at h z x oz ox) ol od
        (inl (inl refl), each_among (λ t. IsAmong t (l ∷ []) ⊎ IsAmong t d) d (λ t j. inr j)) (inl (inl refl), (inr n, tt))

pub nest_law : NestIsSmaller
nest_law h s p ps x tests d accepted m f ox g od denied n = nest_falls h s accepted m x ox p ps tests d f g od denied n
