-- The ground history: its symbols, shells and definitions.
use Prim.Native.String.{String as Text}
use Rattle.std.specs.Prelude.{List, [], ◌∷◌, ◌++◌, map, codes, Some, None}
use Rattle.nq_logic.specs.Terms.{Term, Symbol}
use Rattle.nq_logic.specs.Words.{variable, call1, call2, true_term, false_term, if_term, equal_term, not_term, and_term, or_term, zero_term, add1_term, literal_atom}
use Rattle.nq_logic.specs.Histories.{Shell, Part, OneOf, NoneOf, Definition, Declaration, AddShell, Defines, History, events_symbols}

-- a part whose default is 0, and which is a number or anything
abbrev pub number_part : Text → Part
number_part a = record { accessor = codes a; restriction = OneOf (codes "NUMBERP" ∷ []); default = codes "ZERO" }

abbrev pub any_part : Text → Part
any_part a = record { accessor = codes a; restriction = NoneOf []; default = codes "ZERO" }

abbrev pub numbers : Shell
numbers = record { constructor = codes "ADD1"; base = Some (codes "ZERO"); recognizer = codes "NUMBERP"; parts = number_part "SUB1" ∷ [] }

abbrev pub pairs : Shell
pairs = record { constructor = codes "CONS"; base = None; recognizer = codes "LISTP"; parts = any_part "CAR" ∷ any_part "CDR" ∷ [] }

abbrev pub atoms : Shell
atoms = record { constructor = codes "PACK"; base = None; recognizer = codes "LITATOM"; parts = any_part "UNPACK" ∷ [] }

abbrev pub negatives : Shell
negatives = record { constructor = codes "MINUS"; base = None; recognizer = codes "NEGATIVEP"; parts = number_part "NEGATIVE-GUTS" ∷ [] }

abbrev pub ground_shells : List Shell
ground_shells = numbers ∷ pairs ∷ atoms ∷ negatives ∷ []

abbrev pub p_term : Term
p_term = variable "P"

abbrev pub q_term : Term
q_term = variable "Q"

abbrev pub x_term : Term
x_term = variable "X"

abbrev pub y_term : Term
y_term = variable "Y"

abbrev pub z_term : Term
z_term = variable "Z"

-- a definition of one formal, or of two, that does not call itself
abbrev pub defines1 : Text → Text → Term → Definition
defines1 f x body = record { function = codes f; formals = codes x ∷ []; body = body; measure = None }

abbrev pub defines2 : Text → Text → Text → Term → Definition
defines2 f x y body = record { function = codes f; formals = codes x ∷ codes y ∷ []; body = body; measure = None }

-- the definition with the size of this formal as its measure
abbrev pub by_size_of : Text → Definition → Definition
by_size_of x d = record d { measure = Some (call1 "COUNT" (variable x)) }

abbrev pub sub1_of : Term → Term
sub1_of x = call1 "SUB1" x

abbrev pub car_of : Term → Term
car_of x = call1 "CAR" x

abbrev pub cdr_of : Term → Term
cdr_of x = call1 "CDR" x

abbrev pub is_list : Term → Term
is_list x = call1 "LISTP" x

abbrev pub is_zero : Term → Term
is_zero x = call1 "ZEROP" x

abbrev pub cons_of : Term → Term → Term
cons_of x y = call2 "CONS" x y

abbrev pub truth_definition : Definition
truth_definition = defines1 "TRUEP" "X" (equal_term x_term true_term)

abbrev pub falsity_definition : Definition
falsity_definition = defines1 "FALSEP" "X" (equal_term x_term false_term)

abbrev pub not_definition : Definition
not_definition = defines1 "NOT" "P" (if_term p_term false_term true_term)

abbrev pub and_definition : Definition
and_definition = defines2 "AND" "P" "Q" (if_term p_term (if_term q_term true_term false_term) false_term)

abbrev pub or_definition : Definition
or_definition = defines2 "OR" "P" "Q" (if_term p_term true_term (if_term q_term true_term false_term))

abbrev pub implies_definition : Definition
implies_definition = defines2 "IMPLIES" "P" "Q" (if_term p_term (if_term q_term true_term false_term) true_term)

abbrev pub iff_definition : Definition
iff_definition = defines2 "IFF" "P" "Q" (if_term p_term (if_term q_term true_term false_term) (if_term q_term false_term true_term))

-- the definitions on truth values
abbrev pub propositional_definitions : List Definition
propositional_definitions = truth_definition ∷ falsity_definition ∷ not_definition ∷ and_definition ∷ or_definition ∷ implies_definition ∷ iff_definition ∷ []

abbrev pub zero_test_definition : Definition
zero_test_definition = defines1 "ZEROP" "X" (if_term (equal_term x_term zero_term) true_term (if_term (call1 "NUMBERP" x_term) false_term true_term))

abbrev pub fix_definition : Definition
fix_definition = defines1 "FIX" "X" (if_term (call1 "NUMBERP" x_term) x_term zero_term)

abbrev pub plus_definition : Definition
plus_definition = by_size_of "X" (defines2 "PLUS" "X" "Y" (if_term (is_zero x_term) (call1 "FIX" y_term) (add1_term (call2 "PLUS" (sub1_of x_term) y_term))))

abbrev pub less_definition : Definition
less_definition = by_size_of "X" (defines2 "LESSP" "X" "Y" (if_term (is_zero y_term) false_term (if_term (is_zero x_term) true_term (call2 "LESSP" (sub1_of x_term) (sub1_of y_term)))))

abbrev pub difference_definition : Definition
difference_definition = by_size_of "X" (defines2 "DIFFERENCE" "X" "Y" (if_term (is_zero x_term) zero_term (if_term (is_zero y_term) x_term (call2 "DIFFERENCE" (sub1_of x_term) (sub1_of y_term)))))

abbrev pub times_definition : Definition
times_definition = by_size_of "X" (defines2 "TIMES" "X" "Y" (if_term (is_zero x_term) zero_term (call2 "PLUS" y_term (call2 "TIMES" (sub1_of x_term) y_term))))

abbrev pub quotient_definition : Definition
quotient_definition = by_size_of "X" (defines2 "QUOTIENT" "X" "Y" (if_term (is_zero y_term) zero_term (if_term (call2 "LESSP" x_term y_term) zero_term (add1_term (call2 "QUOTIENT" (call2 "DIFFERENCE" x_term y_term) y_term)))))

abbrev pub remainder_definition : Definition
remainder_definition = by_size_of "X" (defines2 "REMAINDER" "X" "Y" (if_term (is_zero y_term) (call1 "FIX" x_term) (if_term (call2 "LESSP" x_term y_term) (call1 "FIX" x_term) (call2 "REMAINDER" (call2 "DIFFERENCE" x_term y_term) y_term))))

-- the definitions on numbers
abbrev pub arithmetic_definitions : List Definition
arithmetic_definitions = zero_test_definition ∷ fix_definition ∷ plus_definition ∷ less_definition ∷ difference_definition ∷ times_definition ∷ quotient_definition ∷ remainder_definition
    ∷ defines2 "GREATERP" "X" "Y" (call2 "LESSP" y_term x_term)
    ∷ defines2 "LEQ" "X" "Y" (not_term (call2 "LESSP" y_term x_term))
    ∷ defines2 "GEQ" "X" "Y" (not_term (call2 "LESSP" x_term y_term)) ∷ []

abbrev pub append_definition : Definition
append_definition = by_size_of "X" (defines2 "APPEND" "X" "Y" (if_term (is_list x_term) (cons_of (car_of x_term) (call2 "APPEND" (cdr_of x_term) y_term)) y_term))

abbrev pub member_definition : Definition
member_definition = by_size_of "Y" (defines2 "MEMBER" "X" "Y" (if_term (call1 "NLISTP" y_term) false_term (if_term (equal_term x_term (car_of y_term)) true_term (call2 "MEMBER" x_term (cdr_of y_term)))))

abbrev pub ordinal_less_definition : Definition
ordinal_less_definition = by_size_of "X" (defines2 "ORD-LESSP" "X" "Y"
    (if_term (not_term (is_list x_term))
    (if_term (not_term (is_list y_term)) (call2 "LESSP" x_term y_term) true_term)
    (if_term (not_term (is_list y_term)) false_term
    (if_term (call2 "ORD-LESSP" (car_of x_term) (car_of y_term)) true_term
    (and_term (equal_term (car_of x_term) (car_of y_term)) (call2 "ORD-LESSP" (cdr_of x_term) (cdr_of y_term)))))))

abbrev pub ordinal_definition : Definition
ordinal_definition = by_size_of "X" (defines1 "ORDINALP" "X"
    (if_term (is_list x_term)
    (and_term (call1 "ORDINALP" (car_of x_term))
    (and_term (not_term (equal_term (car_of x_term) zero_term))
    (and_term (call1 "ORDINALP" (cdr_of x_term))
    (or_term (not_term (is_list (cdr_of x_term)))
    (not_term (call2 "ORD-LESSP" (car_of x_term) (car_of (cdr_of x_term))))))))
    (call1 "NUMBERP" x_term)))

abbrev pub union_definition : Definition
union_definition = by_size_of "X" (defines2 "UNION" "X" "Y" (if_term (is_list x_term) (if_term (call2 "MEMBER" (car_of x_term) y_term) (call2 "UNION" (cdr_of x_term) y_term) (cons_of (car_of x_term) (call2 "UNION" (cdr_of x_term) y_term))) y_term))

abbrev pub assoc_definition : Definition
assoc_definition = by_size_of "Y" (defines2 "ASSOC" "X" "Y" (if_term (is_list y_term) (if_term (equal_term x_term (car_of (car_of y_term))) (car_of y_term) (call2 "ASSOC" x_term (cdr_of y_term))) false_term))

abbrev pub pairlist_definition : Definition
pairlist_definition = by_size_of "X" (defines2 "PAIRLIST" "X" "Y" (if_term (is_list x_term) (cons_of (cons_of (car_of x_term) (car_of y_term)) (call2 "PAIRLIST" (cdr_of x_term) (cdr_of y_term))) (literal_atom "NIL")))

-- the definitions on lists and ordinals
abbrev pub list_definitions : List Definition
list_definitions = defines1 "NLISTP" "X" (not_term (is_list x_term))
    ∷ append_definition ∷ member_definition ∷ ordinal_less_definition ∷ ordinal_definition
    ∷ defines1 "IDENTITY" "X" x_term
    ∷ defines2 "MAX" "X" "Y" (if_term (call2 "LESSP" x_term y_term) y_term (call1 "FIX" x_term))
    ∷ union_definition
    ∷ defines2 "ADD-TO-SET" "X" "Y" (if_term (call2 "MEMBER" x_term y_term) y_term (cons_of x_term y_term))
    ∷ assoc_definition ∷ pairlist_definition ∷ []

abbrev pub ground_definitions : List Definition
ground_definitions = propositional_definitions ++ (arithmetic_definitions ++ list_definitions)

-- The ground history: TRUE, FALSE, EQUAL, IF and COUNT, the shells and the definitions.
abbrev pub ground_history : History
ground_history =
    Declaration (codes "TRUE") 0 ∷ Declaration (codes "FALSE") 0 ∷ Declaration (codes "EQUAL") 2 ∷ Declaration (codes "IF") 3 ∷ Declaration (codes "COUNT") 1
    ∷ (map AddShell ground_shells ++ map Defines ground_definitions)

-- the events of the ground history, and then those of h
abbrev pub all_events : History → History
all_events h = ground_history ++ h

abbrev pub ground_symbols : List Symbol
ground_symbols = events_symbols ground_history

-- the functions of the ground history and of h
unfoldable pub symbols_of : History → List Symbol
symbols_of h = ground_symbols ++ events_symbols h
