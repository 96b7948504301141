-- What the tests on numerals, names, variables and shells tell.
use Rattle.std.specs.Prelude.{◌≡◌, ◌<◌, ◌↔◌, ℕ, zero, suc, Bool, true, false, ◌&&◌, ◌||◌, ◌==◌, bytes_eq, List, [], ◌∷◌, length, Some, None}
use Rattle.nq_logic.specs.Terms.{Name, Term, Variable, Function, Applied, Symbol, IsTerm, IsAmong, Each}
use Rattle.nq_logic.specs.Words.{numeral}
use Rattle.nq_logic.specs.Numerals.{number_of, numeral_limit}
use Rattle.nq_logic.specs.Histories.{Shell, RuleClass}
use Rattle.nq_logic.specs.Names.{has_name, are_among, are_distinct}
use Rattle.nq_logic.specs.Admissible.{AreDistinct, HasVariables, has_variables}
use Rattle.nq_logic.specs.ShellPrinciple.{IsShellAccepted, shell_refusal, shell_limit, first_repeated, first_outside}
use Rattle.nq_logic.specs.RuleShapes.{variables_of, is_of_shape, IsOfShape}

-- the numeral of a number below the limit has that number
abbrev pub NumeralsHaveNumbers : Type 0
NumeralsHaveNumbers = (n : ℕ) → n < numeral_limit → number_of (numeral n) ≡ Some n

-- and a term that has a number is its numeral
abbrev pub NumbersAreOfNumerals : Type 0
NumbersAreOfNumerals = (t : Term) (n : ℕ) → number_of t ≡ Some n → (t ≡ numeral n) × (n < numeral_limit)

-- a name is found exactly where it is one of these
abbrev pub NamesFound : Type 0
NamesFound = (x : Name) (xs : List Name) → has_name x xs ≡ true ↔ IsAmong x xs

abbrev pub NamesWithin : Type 0
NamesWithin = (xs ys : List Name) → are_among xs ys ≡ true ↔ Each (λ x. IsAmong x ys) xs

abbrev pub NamesDistinct : Type 0
NamesDistinct = (xs : List Name) → are_distinct xs ≡ true ↔ AreDistinct xs

abbrev pub VariablesTold : Type 0
VariablesTold = (xs : List Name) (t : Term) → has_variables xs t ≡ true ↔ HasVariables xs t

-- no name is the first that stands twice exactly where the names are distinct, none is the first outside others exactly
-- where all are among them, and none is the first free variable exactly where the term has no other variables
abbrev pub FirstRepeated : Type 0
FirstRepeated = (xs : List Name) → first_repeated xs ≡ None ↔ AreDistinct xs

abbrev pub FirstOutside : Type 0
FirstOutside = (known xs : List Name) → first_outside known xs ≡ None ↔ Each (λ x. IsAmong x known) xs

abbrev pub FirstFree : Type 0
FirstFree = (xs : List Name) (t : Term) → first_outside xs (variables_of t) ≡ None ↔ HasVariables xs t

-- whether a term fits a rule class
abbrev pub ShapesTold : Type 0
ShapesTold = (class : RuleClass) (t : Term) → is_of_shape class t ≡ true ↔ IsOfShape class t

-- whether the symbol is one of these
abbrev pub has_symbol : Symbol → List Symbol → Bool
has_symbol s [] = false
has_symbol s (other ∷ symbols) = bytes_eq s.0 other.0 && s.1 == other.1 || has_symbol s symbols

-- whether the term is right so far, and is still to be given n arguments
abbrev pub takes : List Symbol → Term → ℕ → Bool
takes symbols (Variable x) zero = true
takes symbols (Variable x) (suc n) = false
takes symbols (Function f) n = has_symbol (f, n) symbols
takes symbols (Applied t u) n = takes symbols t (suc n) && takes symbols u zero

-- whether the term is over these symbols
abbrev pub is_term : List Symbol → Term → Bool
is_term symbols t = takes symbols t zero

abbrev pub TermsTold : Type 0
TermsTold = (symbols : List Symbol) (t : Term) → is_term symbols t ≡ true ↔ IsTerm symbols t

-- no refusal comes exactly where the shell is accepted and there is room for one more
abbrev pub ShellsRefused : Type 0
ShellsRefused =
    (in_use : Name → Bool) (earlier : List Shell) (s : Shell) → shell_refusal in_use earlier s ≡ None ↔ IsShellAccepted in_use earlier s × (length earlier < shell_limit)
