-- Parts of a value and nests of a shell's accessors, and the tests under which they are smaller.
use Rattle.std.specs.Prelude.{◌≡◌, ℕ, List, [], ◌∷◌, ◌++◌, Some, None, ⊤}
use Rattle.nq_logic.specs.Terms.{Term, Function, Applied, IsTerm, IsAmong, Each}
use Rattle.nq_logic.specs.Words.{call1, call2, not_term, equal_term}
use Rattle.nq_logic.specs.Formulas.{clause}
use Rattle.nq_logic.specs.Histories.{History, Shell, Part, events_shells}
use Rattle.nq_logic.specs.Ground.{symbols_of, ground_shells, numbers, pairs}
use Rattle.nq_logic.specs.Shells.{recognizes, is_base, whole}
use Rattle.nq_logic.specs.Derivations.{Derivable}
use Rattle.nq_logic.specs.Laws.{IsClause}
use Rattle.nq_proof.specs.Closed.{MeetsShellPrinciple}

-- a shell of the ground history, or of h
abbrev pub IsShellOf : History → Shell → Type 0
IsShellOf h s = IsAmong s (ground_shells ++ events_shells h)

abbrev pub accessor_of : Part → Term → Term
accessor_of part t = Applied (Function part.accessor) t

-- the size of the first is below that of the second
abbrev pub is_smaller : Term → Term → Term
is_smaller t u = call2 "LESSP" (call1 "COUNT" t) (call1 "COUNT" u)

-- the same in the order of the ordinals
abbrev pub is_below : Term → Term → Term
is_below t u = call2 "ORD-LESSP" (call1 "COUNT" t) (call1 "COUNT" u)

-- A part of a value that a shell's constructor made is smaller than the value: X is not of the shell's kind, or it is its
-- base, or the part of X is smaller than X.
abbrev pub PartIsSmaller : Type 0
PartIsSmaller =
    (h : History) (s : Shell) (part : Part) → MeetsShellPrinciple h → IsShellOf h s → IsAmong part s.parts →
    Derivable h (clause (not_term (recognizes s whole) ∷ (is_base s.base ++ (is_smaller (accessor_of part whole) whole ∷ []))))

-- the accessors around the term, the outermost first
abbrev pub nest : Term → List Part → Term
nest x [] = x
nest x (p ∷ ps) = accessor_of p (nest x ps)

-- The tests say that the shell's constructor made the term: the recognizer, and that it is not the base, in one of the
-- spellings that a structural definition may use.
pub data IsGuarded (tests : List Term) (s : Shell) (y : Term) : Type 0 where
  recognized : s.base ≡ None → IsAmong (recognizes s y) tests → IsGuarded tests s y
  no_atom : s ≡ pairs → IsAmong (not_term (call1 "NLISTP" y)) tests → IsGuarded tests s y
  no_base : (b : List ℕ) → s.base ≡ Some b → IsAmong (recognizes s y) tests → IsAmong (not_term (equal_term y (Function b))) tests → IsGuarded tests s y
  no_base_turned : (b : List ℕ) → s.base ≡ Some b → IsAmong (recognizes s y) tests → IsAmong (not_term (equal_term (Function b) y)) tests → IsGuarded tests s y
  no_zero : s ≡ numbers → IsAmong (not_term (call1 "ZEROP" y)) tests → IsGuarded tests s y

-- the tests say so of each term to which an accessor of the nest is applied
abbrev pub AreGuarded : List Term → Shell → Term → List Part → Type 0
AreGuarded tests s x [] = ⊤
AreGuarded tests s x (p ∷ ps) = IsGuarded tests s (nest x ps) × AreGuarded tests s x ps

-- A nest of one or more of a shell's accessors is below what it is around, under tests that say at each level that the
-- constructor made the term there. The tests stand denied in the clause.
abbrev pub NestIsSmaller : Type 0
NestIsSmaller =
    (h : History) (s : Shell) (p : Part) (ps : List Part) (x : Term) (tests d : List Term) → MeetsShellPrinciple h → IsShellOf h s → Each (λ part. IsAmong part s.parts) (p ∷ ps) →
    IsTerm (symbols_of h) x → AreGuarded tests s x (p ∷ ps) → IsClause h d → Each (λ t. IsAmong (not_term t) d) tests → IsAmong (is_below (nest x (p ∷ ps)) x) d → Derivable h (clause d)
