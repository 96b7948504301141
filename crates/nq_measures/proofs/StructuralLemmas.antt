-- Structural definitions: the tests that guard a nest do not mention the function, so they count.
use Rattle.std.proofs.Common.{◌≡◌, Bool, true, false, zero, List, [], ◌∷◌, ◌++◌, if◌then◌else◌, inl, inr, sym, ◌∙◌, subst}
use Rattle.std.specs.Prelude.{not}
use Rattle.nq_logic.specs.Terms.{Name, Term, Variable, Function, Applied, IsTerm, IsAmong, Each, value_at}
use Rattle.nq_logic.specs.Words.{call1, not_term, equal_term}
use Rattle.nq_logic.specs.Histories.{History, Shell, Part, events_shells}
use Rattle.nq_logic.specs.Ground.{symbols_of, ground_shells}
use Rattle.nq_logic.specs.Names.{is_in_use}
use Rattle.nq_logic.specs.Admissible.{mentions, matched, Call, calls_of}
use Rattle.nq_logic.specs.Shells.{recognizes}
use Rattle.nq_logic.proofs.Lists.{each_at}
use Rattle.nq_logic.proofs.Symbols.{not_symbol, equal_symbol, nlistp_symbol, zerop_symbol}
use Rattle.nq_proof.specs.Closed.{MeetsShellPrinciple}
use Rattle.nq_proof.proofs.ShellSymbols.{ShellOver}
use Rattle.nq_proof.proofs.AcceptedShells.{accepted_over}
use Rattle.nq_arith.specs.Nests.{IsShellOf, nest, IsGuarded, recognized, no_atom, no_base, no_base_turned, no_zero, AreGuarded}
use Rattle.nq_arith.specs.Structural.{IsStructuralNest}
use Rattle.nq_measures.proofs.NewNames.{not_mentioned}
use Rattle.nq_calls.specs.Calls.{beneath, counted_calls, older_tests}
use Rattle.nq_measures.specs.Trials.{Descends}

module _ (h : History) (f : Name) (new : is_in_use f h ≡ false) where
  is_kept : (t : Term) (tests : List Term) → IsTerm (symbols_of h) t → IsAmong t tests → IsAmong t (older_tests f tests)
  is_kept t [] o m = absurd m
  is_kept t (u ∷ tests) o (inl e) =
      subst (λ b. IsAmong t (if not b then u ∷ older_tests f tests else older_tests f tests)) (sym (subst (λ u. mentions f u ≡ false) e (not_mentioned h f t zero new o))) (inl e)
  is_kept t (u ∷ tests) o (inr m) = by_test (mentions f u) (is_kept t tests o m)
    where
      by_test : (b : Bool) → IsAmong t (older_tests f tests) → IsAmong t (if not b then u ∷ older_tests f tests else older_tests f tests)
      by_test true i = i
      by_test false i = inr i

  module _ (accepted : MeetsShellPrinciple h) where
    module _ (s : Shell) (m : IsShellOf h s) where
      over : ShellOver (symbols_of h) s
      over = each_at (ShellOver (symbols_of h)) s (ground_shells ++ events_shells h) (accepted_over h accepted) m

      nest_right : (x : Term) (ps : List Part) → IsTerm (symbols_of h) x → Each (λ part. IsAmong part s.parts) ps → IsTerm (symbols_of h) (nest x ps)
      nest_right x [] ox each = ox
      nest_right x (p ∷ ps) ox each = (each_at (λ part. IsAmong (part.accessor, 1) (symbols_of h)) p s.parts over.accessors each.0, nest_right x ps ox each.1)

      guard_kept : (tests : List Term) (y : Term) → IsTerm (symbols_of h) y → IsGuarded tests s y → IsGuarded (older_tests f tests) s y
      guard_kept tests y oy (recognized e i) = recognized e (is_kept (recognizes s y) tests (over.recognizer, oy) i)
      guard_kept tests y oy (no_atom e i) = no_atom e (is_kept (not_term (call1 "NLISTP" y)) tests (not_symbol h, (nlistp_symbol h, oy)) i)
      guard_kept tests y oy (no_base b e i j) =
          no_base b e (is_kept (recognizes s y) tests (over.recognizer, oy) i) (is_kept (not_term (equal_term y (Function b))) tests (not_symbol h, ((equal_symbol h, oy), over.base b e)) j)
      guard_kept tests y oy (no_base_turned b e i j) =
          no_base_turned b e (is_kept (recognizes s y) tests (over.recognizer, oy) i) (is_kept (not_term (equal_term (Function b) y)) tests (not_symbol h, ((equal_symbol h, over.base b e), oy)) j)
      guard_kept tests y oy (no_zero e i) = no_zero e (is_kept (not_term (call1 "ZEROP" y)) tests (not_symbol h, (zerop_symbol h, oy)) i)

      guards_kept : (tests : List Term) (x : Term) (ps : List Part) → IsTerm (symbols_of h) x → Each (λ part. IsAmong part s.parts) ps → AreGuarded tests s x ps → AreGuarded (older_tests f tests) s x ps
      guards_kept tests x [] ox each g = tt
      guards_kept tests x (p ∷ ps) ox each g = (guard_kept tests (nest x ps) (nest_right x ps ox each.1) g.0, guards_kept tests x ps ox each.1 g.1)

    -- a nest under all tests is one under those that count
    nest_kept : (x : Name) (tests : List Term) (t : Term) → IsStructuralNest h (Variable x) tests t → IsStructuralNest h (Variable x) (older_tests f tests) t
    nest_kept x tests t n =
        let kept : AreGuarded (older_tests f tests) n.shell (Variable x) (n.first ∷ n.rest) = guards_kept n.shell n.here tests (Variable x) (n.first ∷ n.rest) tt n.parts n.guarded in
        record { shell = n.shell; here = n.here; first = n.first; rest = n.rest; parts = n.parts; is = n.is; guarded = kept }

    -- it does not mention the function
    pub nest_older : (x : Name) (tests : List Term) (t : Term) → IsStructuralNest h (Variable x) tests t → mentions f t ≡ false
    nest_older x tests t n =
        subst (λ u. mentions f u ≡ false) (sym n.is) (not_mentioned h f (nest (Variable x) (n.first ∷ n.rest)) zero new (nest_right n.shell n.here (Variable x) (n.first ∷ n.rest) tt n.parts))

    descend_beneath : (xs : List Name) (x : Name) (calls : List Call) → Each (Descends h xs x) calls → Each (Descends h xs x) (beneath f [] calls)
    descend_beneath xs x [] w = tt
    descend_beneath xs x (c ∷ calls) w = (nest_kept x c.tests (value_at (matched xs c.arguments) x) w.0, descend_beneath xs x calls w.1)

    pub structural_descends : (xs : List Name) (x : Name) (body : Term) → Each (Descends h xs x) (calls_of f body) → Each (Descends h xs x) (counted_calls f body)
    structural_descends xs x body w = descend_beneath xs x (calls_of f body) w

-- a variable is no nest
pub no_nest : (h : History) (x : Name) (tests : List Term) (t : Term) → t ≡ Variable x → IsStructuralNest h (Variable x) tests t → ⊥
no_nest h x tests t e n = apart (Function n.first.accessor) (nest (Variable x) n.rest) (sym e ∙ n.is)
  where
    apart : (a b : Term) → Variable x ≡ Applied a b → ⊥
    apart a b q = cc
