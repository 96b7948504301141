-- The size of a structural formal falls at each recursive call.
use Rattle.std.proofs.Common.{◌≡◌, Bool, true, false, ℕ, zero, suc, List, [], ◌∷◌, ◌++◌, ◌||◌, ◌⊎◌, map, length, if◌then◌else◌, inl, inr, refl, sym, ap, subst}
use Rattle.std.specs.Prelude.{bytes_eq, not, filter}
use Rattle.std.proofs.lemmas.Slice.Eq.{bytes_eq-Decides}
use Rattle.nq_logic.specs.Terms.{Name, Term, Variable, Function, Applied, Symbol, Takes, IsTerm, IsAmong, Each, value_at}
use Rattle.nq_logic.specs.Words.{call1, not_term, equal_term}
use Rattle.nq_logic.specs.Formulas.{clause}
use Rattle.nq_logic.specs.Histories.{History, Shell, Part, Definition, event_symbols, events_symbols, events_shells}
use Rattle.nq_logic.specs.Ground.{symbols_of, ground_shells, ground_history, all_events}
use Rattle.nq_logic.specs.Names.{symbol_names, event_names, events_names, has_name, is_reserved, is_in_use}
use Rattle.nq_logic.specs.Admissible.{mentions, matched, Call, calls_of, denied_tests, FallsAt}
use Rattle.nq_logic.specs.Shells.{recognizes}
use Rattle.nq_logic.specs.Derivations.{Derivable}
use Rattle.nq_logic.proofs.Lists.{among_left, among_right, each_at, each_among, each_append}
use Rattle.nq_logic.proofs.Symbols.{not_symbol, equal_symbol, count_symbol, ord_lessp_symbol, nlistp_symbol, zerop_symbol}
use Rattle.nq_proof.specs.Closed.{MeetsShellPrinciple}
use Rattle.nq_proof.proofs.Tests.{names_same}
use Rattle.nq_proof.proofs.ShellSymbols.{ShellOver, symbols_join}
use Rattle.nq_proof.proofs.AcceptedShells.{accepted_over}
use Rattle.nq_proof.proofs.CalledTerms.{CallOver, calls_over, denied_over}
use Rattle.nq_laws.proofs.Ordinals.{size_is_ordinal_at}
use Rattle.nq_arith.proofs.SmallerNests.{nest_right, nest_law}
use Rattle.nq_arith.specs.Nests.{IsShellOf, is_below, nest, IsGuarded, recognized, no_atom, no_base, no_base_turned, no_zero, AreGuarded}
use Rattle.nq_arith.specs.Structural.{IsStructuralNest, StructuralIsMeasured}

-- the name of a function is in use
symbol_name : (s : Symbol) (symbols : List Symbol) → IsAmong s symbols → IsAmong s.0 (symbol_names symbols)
symbol_name s [] m = absurd m
symbol_name s (u ∷ symbols) (inl e) = inl (ap (λ (x : Symbol). x.0) e)
symbol_name s (u ∷ symbols) (inr m) = inr (symbol_name s symbols m)

split_among : {X : Type 0} (P : Type 0) (x : X) (xs ys : List X) → (IsAmong x xs → P) → (IsAmong x ys → P) → IsAmong x (xs ++ ys) → P
split_among P x [] ys f g m = g m
split_among P x (z ∷ xs) ys f g (inl e) = f (inl e)
split_among P x (z ∷ xs) ys f g (inr m) = split_among P x xs ys (λ i. f (inr i)) g m

event_symbol_name : (s : Symbol) (l : History) → IsAmong s (events_symbols l) → IsAmong s.0 (events_names l)
event_symbol_name s [] m = absurd m
event_symbol_name s (e ∷ l) m =
    split_among (IsAmong s.0 (events_names (e ∷ l))) s (event_symbols e) (events_symbols l)
    (λ i. among_left s.0 (event_names e) (events_names l) (inr (symbol_name s (event_symbols e) i)))
    (λ i. among_right s.0 (event_names e) (events_names l) (event_symbol_name s l i)) m

not_named : (x y : Name) (names : List Name) → has_name x names ≡ false → IsAmong y names → x ≡ y → ⊥
not_named x y [] e m same = m
not_named x y (z ∷ names) e m same = by_test (λ n g. not_named x y names g n same) (bytes_eq x z) refl m e
  where
    by_test : (IsAmong y names → has_name x names ≡ false → ⊥) → (b : Bool) → bytes_eq x z ≡ b → (y ≡ z) ⊎ IsAmong y names → b || has_name x names ≡ false → ⊥
    by_test again true f m g = absurd cc
    by_test again false f (inl n) g = let s : bytes_eq x z ≡ true = (bytes_eq-Decides x z).1 (subst (λ z. x ≡ z) n same) in absurd cc
    by_test again false f (inr n) g = again n g

right_false : (a b : Bool) → a || b ≡ false → b ≡ false
right_false true b e = absurd cc
right_false false b e = e

module _ (h : History) (f : Name) (new : is_in_use f h ≡ false) where
  -- a new name is that of no function
  fresh : (g : Name) (k : ℕ) → IsAmong (g, k) (symbols_of h) → bytes_eq f g ≡ false
  unfolding symbols_of
  fresh g k m = by_test (bytes_eq f g) refl
    where
      by_test : (b : Bool) → bytes_eq f g ≡ b → b ≡ false
      by_test false e = refl
      by_test true e =
          let n = event_symbol_name (g, k) (ground_history ++ h) (subst (IsAmong (g, k)) (sym (symbols_join ground_history h)) m) in
          absurd (not_named f g (events_names (all_events h)) (right_false (is_reserved f) (has_name f (events_names (all_events h))) new) n (names_same f g e))

  neither : (a b : Bool) → a ≡ false → b ≡ false → a || b ≡ false
  neither true b e f = e
  neither false b e f = f

  -- no term over the history's functions mentions it
  older : (t : Term) (k : ℕ) → Takes (symbols_of h) t k → mentions f t ≡ false
  older (Variable x) zero o = refl
  older (Variable x) (suc k) o = absurd o
  older (Function g) k o = fresh g k o
  older (Applied t u) k o = neither (mentions f t) (mentions f u) (older t (suc k) o.0) (older u zero o.1)

  -- so such a test is not left out
  abbrev kept : List Term → List Term
  kept tests = filter (λ t. not (mentions f t)) tests

  is_kept : (t : Term) (tests : List Term) → IsTerm (symbols_of h) t → IsAmong t tests → IsAmong t (kept tests)
  is_kept t [] o m = absurd m
  is_kept t (u ∷ tests) o (inl e) =
      subst (λ b. IsAmong t (if not b then u ∷ kept tests else kept tests)) (sym (subst (λ u. mentions f u ≡ false) e (older t zero o))) (inl e)
  is_kept t (u ∷ tests) o (inr m) = by_test (mentions f u) (is_kept t tests o m)
    where
      by_test : (b : Bool) → IsAmong t (kept tests) → IsAmong t (if not b then u ∷ kept tests else kept tests)
      by_test true i = i
      by_test false i = inr i

  module _ (accepted : MeetsShellPrinciple h) (s : Shell) (m : IsShellOf h s) where
    over : ShellOver (symbols_of h) s
    over = each_at (ShellOver (symbols_of h)) s (ground_shells ++ events_shells h) (accepted_over h accepted) m

    guard_kept : (tests : List Term) (y : Term) → IsTerm (symbols_of h) y → IsGuarded tests s y → IsGuarded (kept tests) s y
    guard_kept tests y oy (recognized e i) = recognized e (is_kept (recognizes s y) tests (over.recognizer, oy) i)
    guard_kept tests y oy (no_atom e i) = no_atom e (is_kept (not_term (call1 "NLISTP" y)) tests (not_symbol h, (nlistp_symbol h, oy)) i)
    guard_kept tests y oy (no_base b e i j) =
        no_base b e (is_kept (recognizes s y) tests (over.recognizer, oy) i) (is_kept (not_term (equal_term y (Function b))) tests (not_symbol h, ((equal_symbol h, oy), over.base b e)) j)
    guard_kept tests y oy (no_base_turned b e i j) =
        no_base_turned b e (is_kept (recognizes s y) tests (over.recognizer, oy) i) (is_kept (not_term (equal_term (Function b) y)) tests (not_symbol h, ((equal_symbol h, over.base b e), oy)) j)
    guard_kept tests y oy (no_zero e i) = no_zero e (is_kept (not_term (call1 "ZEROP" y)) tests (not_symbol h, (zerop_symbol h, oy)) i)

    guards_kept : (tests : List Term) (x : Term) (ps : List Part) → IsTerm (symbols_of h) x → Each (λ part. IsAmong part s.parts) ps → AreGuarded tests s x ps → AreGuarded (kept tests) s x ps
    guards_kept tests x [] ox f g = tt
    guards_kept tests x (p ∷ ps) ox f g = (guard_kept tests (nest x ps) (nest_right h s accepted m x ps ox f.1) g.0, guards_kept tests x ps ox f.1 g.1)

module _ (h : History) (d : Definition) (x : Name) (accepted : MeetsShellPrinciple h) (new : is_in_use d.function h ≡ false) where
  abbrev f : Name
  f = d.function

  mapped : (ts rest : List Term) → Each (λ t. IsAmong (not_term t) (map not_term ts ++ rest)) ts
  mapped [] rest = tt
  mapped (t ∷ ts) rest = (inl refl, each_among (λ u. IsAmong (not_term u) (not_term t ∷ (map not_term ts ++ rest))) ts (λ u i. inr (each_at (λ u. IsAmong (not_term u) (map not_term ts ++ rest)) u ts (mapped ts rest) i)))

  falls_at : (c : Call) → CallOver ((d.function, length d.formals) ∷ symbols_of h) c → IsStructuralNest h (Variable x) c.tests (value_at (matched d.formals c.arguments) x) → FallsAt h d (call1 "COUNT" (Variable x)) c
  falls_at c oc n =
      let t = nest (Variable x) (n.first ∷ n.rest) in
      let ot = nest_right h n.shell accepted n.here (Variable x) (n.first ∷ n.rest) tt n.parts in
      let denied = denied_over d.function (length d.formals) (symbols_of h) (not_symbol h) c.tests oc.tests in
      let below = is_below t (Variable x) in
      let result = denied_tests d.function c.tests ++ (below ∷ []) in
      let ob : IsTerm (symbols_of h) below = ((ord_lessp_symbol h, (count_symbol h, ot)), (count_symbol h, tt)) in
      let less =
      nest_law h n.shell n.first n.rest (Variable x) (kept h f new c.tests) result accepted n.here n.parts tt
      (guards_kept h f new accepted n.shell n.here c.tests (Variable x) (n.first ∷ n.rest) tt n.parts n.guarded)
      (each_append (IsTerm (symbols_of h)) (denied_tests d.function c.tests) (below ∷ []) denied (ob, tt))
      (mapped (kept h f new c.tests) (below ∷ []))
      (among_right below (denied_tests d.function c.tests) (below ∷ []) (inl refl))
      in
      record {
        older = subst (λ u. mentions d.function (call1 "COUNT" u) ≡ false) (sym n.is) (older h f new (call1 "COUNT" t) zero (count_symbol h, ot));
        less = subst (λ u. Derivable h (clause (denied_tests d.function c.tests ++ (is_below u (Variable x) ∷ [])))) (sym n.is) less;
      }

  all_fall : (calls : List Call) → Each (CallOver ((d.function, length d.formals) ∷ symbols_of h)) calls → Each (λ c. IsStructuralNest h (Variable x) c.tests (value_at (matched d.formals c.arguments) x)) calls →
      Each (FallsAt h d (call1 "COUNT" (Variable x))) calls
  all_fall [] os ns = tt
  all_fall (c ∷ calls) os ns = (falls_at c os.0 ns.0, all_fall calls os.1 ns.1)

pub structural_law : StructuralIsMeasured
structural_law h d x accepted new body formal structural =
    let more : List Symbol = (d.function, length d.formals) ∷ symbols_of h in
    record {
      over = (count_symbol h, tt);
      of_formals = (tt, formal);
      ordinal = size_is_ordinal_at h (Variable x) tt;
      falls = all_fall h d x accepted new (calls_of d.function d.body) (calls_over more (inr (not_symbol h)) d.function d.body zero [] [] body tt tt) structural;
    }
