-- Structural nests under fewer tests, and under more.
use Rattle.std.proofs.Common.{◌≡◌, Bool, true, false, ℕ, zero, suc, List, [], ◌∷◌, ◌++◌, ◌||◌, ◌⊎◌, if◌then◌else◌, inl, inr, refl, sym, ap, subst}
use Rattle.std.specs.Prelude.{bytes_eq, not}
use Rattle.std.proofs.lemmas.Slice.Eq.{bytes_eq-Decides}
use Rattle.nq_logic.specs.Terms.{Name, Term, Variable, Function, Applied, Symbol, Takes, IsTerm, IsAmong, Each}
use Rattle.nq_logic.specs.Words.{call1, not_term, equal_term}
use Rattle.nq_logic.specs.Histories.{History, Shell, Part, event_symbols, events_symbols, events_shells}
use Rattle.nq_logic.specs.Ground.{symbols_of, ground_shells, ground_history, all_events}
use Rattle.nq_logic.specs.Names.{symbol_names, event_names, events_names, has_name, is_reserved, is_in_use}
use Rattle.nq_logic.specs.Admissible.{mentions}
use Rattle.nq_logic.specs.Shells.{recognizes}
use Rattle.nq_logic.proofs.Lists.{among_left, among_right, each_at}
use Rattle.nq_logic.proofs.Symbols.{not_symbol, equal_symbol, nlistp_symbol, zerop_symbol}
use Rattle.nq_proof.specs.Closed.{MeetsShellPrinciple}
use Rattle.nq_proof.proofs.Tests.{names_same}
use Rattle.nq_proof.proofs.ShellSymbols.{ShellOver, symbols_join}
use Rattle.nq_proof.proofs.AcceptedShells.{accepted_over}
use Rattle.nq_arith.specs.Nests.{IsShellOf, nest, IsGuarded, recognized, no_atom, no_base, no_base_turned, no_zero, AreGuarded}
use Rattle.nq_lines.specs.Lines.{AreAmong}
use Rattle.nq_decrease.specs.Laws.{without_function, StructuralWithout, StructuralWith}

-- the name of a function is in use
symbol_name : (s : Symbol) (symbols : List Symbol) → IsAmong s symbols → IsAmong s.0 (symbol_names symbols)
symbol_name s [] m = absurd m
symbol_name s (u ∷ symbols) (inl e) = inl (ap (λ (x : Symbol). x.0) e)
symbol_name s (u ∷ symbols) (inr m) = inr (symbol_name s symbols m)

split_among : {X : Type 0} (P : Type 0) (x : X) (xs ys : List X) → (IsAmong x xs → P) → (IsAmong x ys → P) → IsAmong x (xs ++ ys) → P
split_among P x [] ys f g m = g m
split_among P x (z ∷ xs) ys f g (inl e) = f (inl e)
split_among P x (z ∷ xs) ys f g (inr m) = split_among P x xs ys (λ i. f (inr i)) g m

event_symbol_name : (s : Symbol) (l : History) → IsAmong s (events_symbols l) → IsAmong s.0 (events_names l)
event_symbol_name s [] m = absurd m
event_symbol_name s (e ∷ l) m =
    split_among (IsAmong s.0 (events_names (e ∷ l))) s (event_symbols e) (events_symbols l)
    (λ i. among_left s.0 (event_names e) (events_names l) (inr (symbol_name s (event_symbols e) i)))
    (λ i. among_right s.0 (event_names e) (events_names l) (event_symbol_name s l i)) m

not_named : (x y : Name) (names : List Name) → has_name x names ≡ false → IsAmong y names → x ≡ y → ⊥
not_named x y [] e m same = m
not_named x y (z ∷ names) e m same = by_test (λ n g. not_named x y names g n same) (bytes_eq x z) refl m e
  where
    by_test : (IsAmong y names → has_name x names ≡ false → ⊥) → (b : Bool) → bytes_eq x z ≡ b → (y ≡ z) ⊎ IsAmong y names → b || has_name x names ≡ false → ⊥
    by_test again true f m g = absurd cc
    by_test again false f (inl n) g = let s : bytes_eq x z ≡ true = (bytes_eq-Decides x z).1 (subst (λ z. x ≡ z) n same) in absurd cc
    by_test again false f (inr n) g = again n g

right_false : (a b : Bool) → a || b ≡ false → b ≡ false
right_false true b e = absurd cc
right_false false b e = e

neither : (a b : Bool) → a ≡ false → b ≡ false → a || b ≡ false
neither true b e f = e
neither false b e f = f

module _ (h : History) (f : Name) (new : is_in_use f h ≡ false) where
  -- a new name is that of no function
  fresh : (g : Name) (k : ℕ) → IsAmong (g, k) (symbols_of h) → bytes_eq f g ≡ false
  unfolding symbols_of
  fresh g k m = by_test (bytes_eq f g) refl
    where
      by_test : (b : Bool) → bytes_eq f g ≡ b → b ≡ false
      by_test false e = refl
      by_test true e =
          let n = event_symbol_name (g, k) (ground_history ++ h) (subst (IsAmong (g, k)) (sym (symbols_join ground_history h)) m) in
          absurd (not_named f g (events_names (all_events h)) (right_false (is_reserved f) (has_name f (events_names (all_events h))) new) n (names_same f g e))

  -- no term over the history's functions mentions it
  unmentioned : (t : Term) (k : ℕ) → Takes (symbols_of h) t k → mentions f t ≡ false
  unmentioned (Variable x) zero o = refl
  unmentioned (Variable x) (suc k) o = absurd o
  unmentioned (Function g) k o = fresh g k o
  unmentioned (Applied t u) k o = neither (mentions f t) (mentions f u) (unmentioned t (suc k) o.0) (unmentioned u zero o.1)

  -- so such a test is not left out
  is_kept : (t : Term) (tests : List Term) → IsTerm (symbols_of h) t → IsAmong t tests → IsAmong t (without_function f tests)
  is_kept t [] o m = absurd m
  is_kept t (u ∷ tests) o (inl e) =
      subst (λ b. IsAmong t (if not b then u ∷ without_function f tests else without_function f tests)) (sym (subst (λ u. mentions f u ≡ false) e (unmentioned t zero o))) (inl e)
  is_kept t (u ∷ tests) o (inr m) = by_test (mentions f u) (is_kept t tests o m)
    where
      by_test : (b : Bool) → IsAmong t (without_function f tests) → IsAmong t (if not b then u ∷ without_function f tests else without_function f tests)
      by_test true i = i
      by_test false i = inr i

  module _ (accepted : MeetsShellPrinciple h) (s : Shell) (m : IsShellOf h s) where
    over : ShellOver (symbols_of h) s
    over = each_at (ShellOver (symbols_of h)) s (ground_shells ++ events_shells h) (accepted_over h accepted) m

    nest_over : (x : Term) (ps : List Part) → IsTerm (symbols_of h) x → Each (λ part. IsAmong part s.parts) ps → IsTerm (symbols_of h) (nest x ps)
    nest_over x [] ox g = ox
    nest_over x (p ∷ ps) ox g = (each_at (λ part. IsAmong (part.accessor, 1) (symbols_of h)) p s.parts over.accessors g.0, nest_over x ps ox g.1)

    guard_kept : (tests : List Term) (y : Term) → IsTerm (symbols_of h) y → IsGuarded tests s y → IsGuarded (without_function f tests) s y
    guard_kept tests y oy (recognized e i) = recognized e (is_kept (recognizes s y) tests (over.recognizer, oy) i)
    guard_kept tests y oy (no_atom e i) = no_atom e (is_kept (not_term (call1 "NLISTP" y)) tests (not_symbol h, (nlistp_symbol h, oy)) i)
    guard_kept tests y oy (no_base b e i j) =
        no_base b e (is_kept (recognizes s y) tests (over.recognizer, oy) i) (is_kept (not_term (equal_term y (Function b))) tests (not_symbol h, ((equal_symbol h, oy), over.base b e)) j)
    guard_kept tests y oy (no_base_turned b e i j) =
        no_base_turned b e (is_kept (recognizes s y) tests (over.recognizer, oy) i) (is_kept (not_term (equal_term (Function b) y)) tests (not_symbol h, ((equal_symbol h, over.base b e), oy)) j)
    guard_kept tests y oy (no_zero e i) = no_zero e (is_kept (not_term (call1 "ZEROP" y)) tests (not_symbol h, (zerop_symbol h, oy)) i)

    guards_kept : (tests : List Term) (x : Term) (ps : List Part) → IsTerm (symbols_of h) x → Each (λ part. IsAmong part s.parts) ps → AreGuarded tests s x ps → AreGuarded (without_function f tests) s x ps
    guards_kept tests x [] ox g k = tt
    guards_kept tests x (p ∷ ps) ox g k = (guard_kept tests (nest x ps) (nest_over x ps ox g.1) k.0, guards_kept tests x ps ox g.1 k.1)

pub filtered_law : StructuralWithout
filtered_law h f x tests t accepted new n =
    let kept : AreGuarded (without_function f tests) n.shell (Variable x) (n.first ∷ n.rest) = guards_kept h f new accepted n.shell n.here tests (Variable x) (n.first ∷ n.rest) tt n.parts n.guarded in
    record { shell = n.shell; here = n.here; first = n.first; rest = n.rest; parts = n.parts; is = n.is; guarded = kept }

-- tests among more
guard_more : (tests more : List Term) (s : Shell) (y : Term) → AreAmong tests more → IsGuarded tests s y → IsGuarded more s y
guard_more tests more s y within (recognized e i) = recognized e (within (recognizes s y) i)
guard_more tests more s y within (no_atom e i) = no_atom e (within (not_term (call1 "NLISTP" y)) i)
guard_more tests more s y within (no_base b e i j) = no_base b e (within (recognizes s y) i) (within (not_term (equal_term y (Function b))) j)
guard_more tests more s y within (no_base_turned b e i j) = no_base_turned b e (within (recognizes s y) i) (within (not_term (equal_term (Function b) y)) j)
guard_more tests more s y within (no_zero e i) = no_zero e (within (not_term (call1 "ZEROP" y)) i)

guards_more : (tests more : List Term) (s : Shell) (x : Term) (ps : List Part) → AreAmong tests more → AreGuarded tests s x ps → AreGuarded more s x ps
guards_more tests more s x [] within g = tt
guards_more tests more s x (p ∷ ps) within g = (guard_more tests more s (nest x ps) within g.0, guards_more tests more s x ps within g.1)

filter_among : (f : Name) (tests : List Term) → AreAmong (without_function f tests) tests
filter_among f [] t m = m
filter_among f (u ∷ tests) t m = by_test (mentions f u) (λ i. filter_among f tests t i) m
  where
    by_test : (b : Bool) → (IsAmong t (without_function f tests) → IsAmong t tests) → IsAmong t (if not b then u ∷ without_function f tests else without_function f tests) → (t ≡ u) ⊎ IsAmong t tests
    by_test true again i = inr (again i)
    by_test false again (inl e) = inl e
    by_test false again (inr i) = inr (again i)

pub unfiltered_law : StructuralWith
unfiltered_law h f x tests t n =
    let more : AreGuarded tests n.shell (Variable x) (n.first ∷ n.rest) = guards_more (without_function f tests) tests n.shell (Variable x) (n.first ∷ n.rest) (filter_among f tests) n.guarded in
    record { shell = n.shell; here = n.here; first = n.first; rest = n.rest; parts = n.parts; is = n.is; guarded = more }
