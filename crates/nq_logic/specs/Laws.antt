-- Laws by which derivable clauses give derivable clauses.
use Rattle.std.specs.Prelude.{◌≡◌, ℕ, zero, suc, List, [], ◌∷◌, ◌++◌, ◌⊎◌, map}
use Rattle.nq_logic.specs.Terms.{Name, Term, Applied, call, IsTerm, IsAmong, Each, Substitution, substituted}
use Rattle.nq_logic.specs.Words.{true_term, false_term, not_term, if_term, equal_term, call1, call2}
use Rattle.nq_logic.specs.Formulas.{clause}
use Rattle.nq_logic.specs.Histories.{History}
use Rattle.nq_logic.specs.Ground.{symbols_of, x_term, y_term, z_term}
use Rattle.nq_logic.specs.Derivations.{Derivable}

-- a clause over the history's symbols
abbrev pub IsClause : History → List Term → Type 0
IsClause h c = Each (IsTerm (symbols_of h)) c

-- each literal of c is one of these, or stands in d
abbrev pub IsWithin : List Term → List Term → List Term → Type 0
IsWithin c these d = Each (λ p. IsAmong p these ⊎ IsAmong p d) c

-- a clause with the same literals and perhaps more, in any order and number
abbrev pub MoreLiterals : Type 0
MoreLiterals =
    (h : History) (c d : List Term) → Derivable h (clause c) → IsClause h d → Each (λ p. IsAmong p d) c → Derivable h (clause d)

-- a clause with a literal and its NOT
abbrev pub ExcludedMiddle : Type 0
ExcludedMiddle = (h : History) (p : Term) (d : List Term) → IsClause h d → IsAmong p d → IsAmong (not_term p) d → Derivable h (clause d)

-- two clauses without t and without its NOT, joined
abbrev pub Cut : Type 0
Cut =
    (h : History) (t : Term) (c1 c2 d : List Term) → Derivable h (clause c1) → Derivable h (clause c2) → IsTerm (symbols_of h) t → IsClause h d →
    IsWithin c1 (t ∷ []) d → IsWithin c2 (not_term t ∷ []) d → Derivable h (clause d)

-- a clause with terms in place of variables
abbrev pub Instance : Type 0
Instance =
    (h : History) (s : Substitution) (c : List Term) → Derivable h (clause c) → IsClause h (map (substituted s) c) → Derivable h (clause (map (substituted s) c))

-- (EQUAL t t)
abbrev pub Reflexivity : Type 0
Reflexivity = (h : History) (t : Term) → IsTerm (symbols_of h) t → Derivable h (clause (equal_term t t ∷ []))

-- b is a with t in the place of some u that stand there. The number tells how many arguments the two are still to be given.
pub data IsReplaced (u t : Term) : ℕ → Term → Term → Type 0 where
  here : IsReplaced u t zero u t
  same : (n : ℕ) (a : Term) → IsReplaced u t n a a
  parts : {n : ℕ} {a b a' b' : Term} → IsReplaced u t (suc n) a b → IsReplaced u t zero a' b' → IsReplaced u t n (Applied a a') (Applied b b')

-- a clause with t in the place of u within one literal, and (NOT (EQUAL u t)), or the same with u and t the other way round
abbrev pub Replacement : Type 0
Replacement =
    (h : History) (u t a b : Term) (c d : List Term) → Derivable h (clause c) → IsTerm (symbols_of h) u → IsTerm (symbols_of h) t → IsReplaced u t zero a b →
    IsTerm (symbols_of h) a → IsClause h d → IsWithin c (a ∷ []) d → IsAmong b d → IsAmong (not_term (equal_term u t)) d ⊎ IsAmong (not_term (equal_term t u)) d → Derivable h (clause d)

-- two clauses on the two sides of a test, joined by IF
abbrev pub Join : Type 0
Join =
    (h : History) (p x y : Term) (c1 c2 d : List Term) → Derivable h (clause c1) → Derivable h (clause c2) → IsClause h d → IsAmong (if_term p x y) d →
    IsWithin c1 (not_term p ∷ x ∷ []) d → IsWithin c2 (p ∷ y ∷ []) d → Derivable h (clause d)

-- a clause with the first side of an IF, and one with the second
abbrev pub SplitFirst : Type 0
SplitFirst =
    (h : History) (p x y : Term) (c d : List Term) → Derivable h (clause c) → IsTerm (symbols_of h) (if_term p x y) → IsClause h d → IsAmong (not_term p) d → IsAmong x d →
    IsWithin c (if_term p x y ∷ []) d → Derivable h (clause d)

abbrev pub SplitSecond : Type 0
SplitSecond =
    (h : History) (p x y : Term) (c d : List Term) → Derivable h (clause c) → IsTerm (symbols_of h) (if_term p x y) → IsClause h d → IsAmong p d → IsAmong y d →
    IsWithin c (if_term p x y ∷ []) d → Derivable h (clause d)

-- a literal in place of the NOT of its NOT
abbrev pub DoubleNegation : Type 0
DoubleNegation =
    (h : History) (t : Term) (c d : List Term) → Derivable h (clause c) → IsClause h d → IsAmong t d → IsWithin c (not_term (not_term t) ∷ []) d → Derivable h (clause d)

-- a case of an induction on clauses: its test, and the substitutions at which the claim may be used
pub record InductionCase : Type 0 where
  pub test : Term
  pub substitutions : List (List (List ℕ × Term))

abbrev pub tests_of : List InductionCase → List Term
tests_of [] = []
tests_of (c ∷ cases) = c.test ∷ tests_of cases

-- the NOT of each instance of p
abbrev pub denied : Term → List Substitution → List Term
denied p [] = []
denied p (s ∷ rest) = not_term (substituted s p) ∷ denied p rest

-- where the test holds and each instance does, p holds, and the measure m falls at each instance
abbrev pub IsStep : History → Term → Term → InductionCase → Type 0
IsStep h p m c =
    Derivable h (clause (not_term c.test ∷ (denied p c.substitutions ++ (p ∷ []))))
    × Each (λ s. Derivable h (clause (not_term c.test ∷ call2 "ORD-LESSP" (substituted s m) m ∷ []))) c.substitutions

-- induction over the ordinals
abbrev pub Induction : Type 0
Induction =
    (h : History) (p m : Term) (cases : List InductionCase) → Derivable h (clause (call1 "ORDINALP" m ∷ [])) → Derivable h (clause (tests_of cases ++ (p ∷ []))) →
    Each (IsStep h p m) cases → Derivable h (clause (p ∷ []))

-- The rows of the table of ground axioms, as clauses.
abbrev pub TruthHolds : Type 0
TruthHolds = (h : History) → Derivable h (clause (true_term ∷ []))

abbrev pub FalsityDoesNot : Type 0
FalsityDoesNot = (h : History) → Derivable h (clause (not_term false_term ∷ []))

abbrev pub SizeIsNumber : Type 0
SizeIsNumber = (h : History) → Derivable h (clause (call1 "NUMBERP" (call1 "COUNT" x_term) ∷ []))

abbrev pub OneLessIsLess : Type 0
OneLessIsLess = (h : History) → Derivable h (clause (call1 "ZEROP" x_term ∷ call2 "LESSP" (call1 "SUB1" x_term) x_term ∷ []))

abbrev pub FalsityIsOnlyFalsity : Type 0
FalsityIsOnlyFalsity = (h : History) → Derivable h (clause (x_term ∷ equal_term x_term false_term ∷ []))

abbrev pub EqualIsTruthValue : Type 0
EqualIsTruthValue = (h : History) → Derivable h (clause (equal_term (equal_term x_term y_term) true_term ∷ equal_term (equal_term x_term y_term) false_term ∷ []))

abbrev pub IfOfFalsity : Type 0
IfOfFalsity = (h : History) → Derivable h (clause (x_term ∷ equal_term (if_term x_term y_term z_term) z_term ∷ []))

abbrev pub IfOfTruth : Type 0
IfOfTruth = (h : History) → Derivable h (clause (not_term x_term ∷ equal_term (if_term x_term y_term z_term) y_term ∷ []))

-- calls are equal only where their functions and arguments are
abbrev pub CallsDiffer : Type 0
CallsDiffer = (f g : Name) (ts us : List Term) → call f ts ≡ call g us → (f ≡ g) × (ts ≡ us)
