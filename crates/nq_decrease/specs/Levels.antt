-- Parts of a ground shell's value, and the tests under which they are smaller than the value.
use Rattle.std.specs.Prelude.{List, [], ◌∷◌, Option, Some, None, if◌then◌else◌, bytes_eq, codes}
use Rattle.nq_logic.specs.Terms.{Name, Term}
use Rattle.nq_logic.specs.Words.{call1, not_term, equal_term, zero_term}
use Rattle.nq_logic.specs.Histories.{Part, Shell}
use Rattle.nq_logic.specs.Ground.{number_part, any_part, numbers, pairs, atoms, negatives}
use Rattle.nq_proof.specs.Clauses.{has_term}
use Rattle.nq_bank.specs.declared.node.Sym.{Sym}
use Rattle.nq_decrease.specs.Guards.{call_of}
use Rattle.nq_decrease.specs.declared.kind.Kind.{Kind}
use Rattle.nq_decrease.specs.declared.kind.Kind.TheVariants.{Numbers, Pairs, Atoms, Negatives}
use Rattle.nq_replay.specs.LawClauses.{first_is_smaller_clause, first_by_no_atom_clause, rest_is_smaller_clause, rest_by_no_atom_clause, atom_part_is_smaller_clause, negative_part_is_smaller_clause, one_less_by_no_zero_clause, one_less_of_number_clause, one_less_of_number_turned_clause}
use Rattle.nq_decrease.specs.declared.level.Level.{Level}
use Rattle.nq_decrease.specs.declared.level.Level.TheVariants.{First, FirstByNoAtom, Rest, RestByNoAtom, AtomPart, NegativePart, OneLessByNoZero, OneLessOfNumber, OneLessOfNumberTurned}

-- the part of a level
abbrev pub part_of : Level → Part
part_of First = any_part "CAR"
part_of FirstByNoAtom = any_part "CAR"
part_of Rest = any_part "CDR"
part_of RestByNoAtom = any_part "CDR"
part_of AtomPart = any_part "UNPACK"
part_of NegativePart = number_part "NEGATIVE-GUTS"
part_of OneLessByNoZero = number_part "SUB1"
part_of OneLessOfNumber = number_part "SUB1"
part_of OneLessOfNumberTurned = number_part "SUB1"

-- the tests of a level, of the term y
abbrev pub tests_of : Level → Term → List Term
tests_of First y = call1 "LISTP" y ∷ []
tests_of FirstByNoAtom y = not_term (call1 "NLISTP" y) ∷ []
tests_of Rest y = call1 "LISTP" y ∷ []
tests_of RestByNoAtom y = not_term (call1 "NLISTP" y) ∷ []
tests_of AtomPart y = call1 "LITATOM" y ∷ []
tests_of NegativePart y = call1 "NEGATIVEP" y ∷ []
tests_of OneLessByNoZero y = not_term (call1 "ZEROP" y) ∷ []
tests_of OneLessOfNumber y = call1 "NUMBERP" y ∷ not_term (equal_term y zero_term) ∷ []
tests_of OneLessOfNumberTurned y = call1 "NUMBERP" y ∷ not_term (equal_term zero_term y) ∷ []

-- the law of a level, over the variable X
abbrev pub clause_of : Level → List Term
clause_of First = first_is_smaller_clause
clause_of FirstByNoAtom = first_by_no_atom_clause
clause_of Rest = rest_is_smaller_clause
clause_of RestByNoAtom = rest_by_no_atom_clause
clause_of AtomPart = atom_part_is_smaller_clause
clause_of NegativePart = negative_part_is_smaller_clause
clause_of OneLessByNoZero = one_less_by_no_zero_clause
clause_of OneLessOfNumber = one_less_of_number_clause
clause_of OneLessOfNumberTurned = one_less_of_number_turned_clause

abbrev pub shell_of : Kind → Shell
shell_of Numbers = numbers
shell_of Pairs = pairs
shell_of Atoms = atoms
shell_of Negatives = negatives

-- the shell that has this accessor
abbrev pub kind_at : Name → Option Kind
kind_at f =
    if bytes_eq f (codes "CAR")
    then Some Pairs
    else if bytes_eq f (codes "CDR")
    then Some Pairs
    else if bytes_eq f (codes "SUB1")
    then Some Numbers
    else if bytes_eq f (codes "UNPACK") then Some Atoms else if bytes_eq f (codes "NEGATIVE-GUTS") then Some Negatives else None

-- the first level under (LISTP y), or else the second under (NOT (NLISTP y))
abbrev pub list_level : Term → List Term → Level → Level → Option Level
list_level y tests plain by_no_atom =
    if has_term (call1 "LISTP" y) tests then Some plain else if has_term (not_term (call1 "NLISTP" y)) tests then Some by_no_atom else None

-- the level under the recognizer's test
abbrev pub one_level : Sym → Term → List Term → Level → Option Level
one_level recognizer y tests level = if has_term (call_of recognizer y) tests then Some level else None

-- the level of a number, by the tests that are there
abbrev pub number_level : Term → List Term → Option Level
number_level y tests =
    if has_term (not_term (call1 "ZEROP" y)) tests
    then Some OneLessByNoZero
    else if has_term (call1 "NUMBERP" y) tests
    then if has_term (not_term (equal_term y zero_term)) tests
    then Some OneLessOfNumber
    else if has_term (not_term (equal_term zero_term y)) tests then Some OneLessOfNumberTurned else None
    else None

-- the level where this accessor of the shell is applied to y
abbrev pub level_at : Kind → Name → Term → List Term → Option Level
level_at Pairs f y tests =
    if bytes_eq f (codes "CAR")
    then list_level y tests First FirstByNoAtom
    else if bytes_eq f (codes "CDR") then list_level y tests Rest RestByNoAtom else None
level_at Numbers f y tests = if bytes_eq f (codes "SUB1") then number_level y tests else None
level_at Atoms f y tests = if bytes_eq f (codes "UNPACK") then one_level (record { 0 = 16 }) y tests AtomPart else None
level_at Negatives f y tests = if bytes_eq f (codes "NEGATIVE-GUTS") then one_level (record { 0 = 19 }) y tests NegativePart else None
