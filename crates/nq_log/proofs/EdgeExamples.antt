-- Lines that are judged by themselves, or only by the lines that use them.
use Rattle.std.proofs.Common.{◌≡◌, [], ◌∷◌, ◌++◌, refl}
use Rattle.std.specs.Prelude.{codes, Some}
use Rattle.std.specs.Fmt.{digits}
use Rattle.nq_logic.specs.Words.{numeral, variable, call1, call2, if_term, add1_term, zero_term}
use Rattle.nq_logic.specs.Ground.{symbols_of}
use Rattle.nq_logic.specs.Histories.{Axiom, Defines}
use Rattle.nq_logic.specs.Numerals.{number_of as number_in}
use Rattle.nq_logic.specs.Sizes.{tree_depth, tree_size}
use Rattle.nq_logic.specs.Values.{is_tree_value}
use Rattle.nq_logtext.specs.Reading.{line_of_words, run_of, field_of, number_of, path_of, places_of}
use Rattle.nq_log.specs.States.{Adds}
use Rattle.nq_log.specs.Logs.{Right, Wrong, Malformed, NotAllowed, UnexpectedEnd, claims_of, first_wrong_line}
use Rattle.nq_log.proofs.ExampleTexts.{log_of}
use Rattle.nq_log.proofs.MoreExamples.{recursive_lines}

-- SPLIT names the side 1 or 2
split_in_two : first_wrong_line (log_of ("V P" ∷ "V Q" ∷ "A NOT 1" ∷ "TAUT 1 3" ∷ "JOIN 1 1 1 2 2" ∷ "SPLIT 2 3 1" ∷ "SPLIT 2 3 2" ∷ [])) ≡ Wrong 9 UnexpectedEnd
unfolding digits symbols_of numeral number_in tree_depth tree_size is_tree_value line_of_words run_of field_of number_of path_of places_of
split_in_two = refl

split_in_three : first_wrong_line (log_of ("V P" ∷ "V Q" ∷ "A NOT 1" ∷ "TAUT 1 3" ∷ "JOIN 1 1 1 2 2" ∷ "SPLIT 2 3 3" ∷ [])) ≡ Wrong 7 NotAllowed
unfolding digits symbols_of numeral number_in tree_depth tree_size is_tree_value line_of_words run_of field_of number_of path_of places_of
split_in_three = refl

-- TOGGLE disables or enables
toggled : first_wrong_line (log_of ("TOGGLE OFF PLUS 1" ∷ "TOGGLE ON PLUS 0" ∷ "END" ∷ [])) ≡ Right
unfolding digits symbols_of numeral number_in tree_depth tree_size is_tree_value line_of_words run_of field_of number_of path_of places_of
toggled = refl

toggled_twice : first_wrong_line (log_of ("TOGGLE OFF PLUS 2" ∷ [])) ≡ Wrong 2 NotAllowed
unfolding digits symbols_of numeral number_in tree_depth tree_size is_tree_value line_of_words run_of field_of number_of path_of places_of
toggled_twice = refl

-- a HYP before any CASE is judged by the INDUCT
hypothesis_first : first_wrong_line (log_of ("V P" ∷ "A NOT 1" ∷ "TAUT 1 2" ∷ "HYP 1" ∷ "CASE 1 1" ∷ "INDUCT 1 1 1 1" ∷ [])) ≡ Wrong 7 NotAllowed
unfolding digits symbols_of numeral number_in tree_depth tree_size is_tree_value line_of_words run_of field_of number_of path_of places_of
hypothesis_first = refl

-- a CASE must be used
unused_case : first_wrong_line (log_of ("V P" ∷ "A NOT 1" ∷ "TAUT 1 2" ∷ "CASE 1 1" ∷ "DCL E 1" ∷ [])) ≡ Wrong 6 NotAllowed
unfolding digits symbols_of numeral number_in tree_depth tree_size is_tree_value line_of_words run_of field_of number_of path_of places_of
unused_case = refl

-- the line of a CASE stands though it was dropped
dropped_case : first_wrong_line (log_of ("V P" ∷ "A NOT 1" ∷ "TAUT 1 2" ∷ "DROP 1" ∷ "CASE 1 1" ∷ "V Q" ∷ [])) ≡ Wrong 8 UnexpectedEnd
unfolding digits symbols_of numeral number_in tree_depth tree_size is_tree_value line_of_words run_of field_of number_of path_of places_of
dropped_case = refl

no_such_case : first_wrong_line (log_of ("V P" ∷ "A NOT 1" ∷ "TAUT 1 2" ∷ "CASE 1 2" ∷ [])) ≡ Wrong 5 NotAllowed
unfolding digits symbols_of numeral number_in tree_depth tree_size is_tree_value line_of_words run_of field_of number_of path_of places_of
no_such_case = refl

-- a line is dropped once
dropped_twice : first_wrong_line (log_of ("V P" ∷ "A NOT 1" ∷ "TAUT 1 2" ∷ "DROP 1" ∷ "DROP 1" ∷ [])) ≡ Wrong 6 NotAllowed
unfolding digits symbols_of numeral number_in tree_depth tree_size is_tree_value line_of_words run_of field_of number_of path_of places_of
dropped_twice = refl

-- parts stand anywhere in the block of their shell
part_anywhere : first_wrong_line (log_of ("V X" ∷ "PART UNBOX NONE-OF ZERO" ∷ "A CONS 1 1" ∷ "SHELL BOX NIL BOXP" ∷ "END" ∷ [])) ≡ Right
unfolding digits symbols_of numeral number_in tree_depth tree_size is_tree_value line_of_words run_of field_of number_of path_of places_of
part_anywhere = refl

-- the names of a shell are in use after it
accessor_in_use : first_wrong_line (log_of ("PART UNBOX NONE-OF ZERO" ∷ "SHELL BOX NIL BOXP" ∷ "DCL UNBOX 1" ∷ [])) ≡ Wrong 4 NotAllowed
unfolding digits symbols_of numeral number_in tree_depth tree_size is_tree_value line_of_words run_of field_of number_of path_of places_of
accessor_in_use = refl

-- a numeral has no value by the table
value_of_numeral : first_wrong_line (log_of ("N 3" ∷ "VALUE 1" ∷ [])) ≡ Wrong 3 NotAllowed
unfolding digits symbols_of numeral number_in tree_depth tree_size is_tree_value line_of_words run_of field_of number_of path_of places_of
value_of_numeral = refl

value_of_successor : first_wrong_line (log_of ("N 3" ∷ "A ADD1 1" ∷ "VALUE 2" ∷ [])) ≡ Wrong 4 NotAllowed
unfolding digits symbols_of numeral number_in tree_depth tree_size is_tree_value line_of_words run_of field_of number_of path_of places_of
value_of_successor = refl

value_of_pair : first_wrong_line (log_of ("N 3" ∷ "A CONS 1 1" ∷ "VALUE 2" ∷ [])) ≡ Wrong 4 NotAllowed
unfolding digits symbols_of numeral number_in tree_depth tree_size is_tree_value line_of_words run_of field_of number_of path_of places_of
value_of_pair = refl

-- INST without variables copies a line
copied_line : first_wrong_line (log_of ("V P" ∷ "A NOT 1" ∷ "TAUT 1 2" ∷ "INST 1" ∷ "V Q" ∷ [])) ≡ Wrong 7 UnexpectedEnd
unfolding digits symbols_of numeral number_in tree_depth tree_size is_tree_value line_of_words run_of field_of number_of path_of places_of
copied_line = refl

variable_twice : first_wrong_line (log_of ("V P" ∷ "A NOT 1" ∷ "TAUT 1 2" ∷ "INST 1 1 1 1 1" ∷ [])) ≡ Wrong 5 NotAllowed
unfolding digits symbols_of numeral number_in tree_depth tree_size is_tree_value line_of_words run_of field_of number_of path_of places_of
variable_twice = refl

-- no terms are no tautology
no_tautology : first_wrong_line (log_of ("TAUT" ∷ [])) ≡ Wrong 2 NotAllowed
unfolding digits symbols_of numeral number_in tree_depth tree_size is_tree_value line_of_words run_of field_of number_of path_of places_of
no_tautology = refl

no_sum : first_wrong_line (log_of ("LINEAR" ∷ [])) ≡ Wrong 2 NotAllowed
unfolding digits symbols_of numeral number_in tree_depth tree_size is_tree_value line_of_words run_of field_of number_of path_of places_of
no_sum = refl

-- only a definition follows a measure
measure_alone : first_wrong_line (log_of ("V X" ∷ "A COUNT 1" ∷ "A ORDINALP 2" ∷ "AXIOMATIZE O1 3" ∷ "V X" ∷ "A COUNT 1" ∷ "EVENT O1" ∷ "MEASURE 2 1" ∷ "V Y" ∷ [])) ≡ Wrong 10 NotAllowed
unfolding digits symbols_of numeral number_in tree_depth tree_size is_tree_value line_of_words run_of field_of number_of path_of places_of
measure_alone = refl

measure_and_no_line : first_wrong_line (log_of ("V X" ∷ "A COUNT 1" ∷ "A ORDINALP 2" ∷ "AXIOMATIZE O1 3" ∷ "V X" ∷ "A COUNT 1" ∷ "EVENT O1" ∷ "MEASURE 2 1" ∷ "v Y" ∷ [])) ≡ Wrong 10 Malformed
unfolding digits symbols_of numeral number_in tree_depth tree_size is_tree_value line_of_words run_of field_of number_of path_of places_of
measure_and_no_line = refl

-- a block may have terms before any closing line
undone_behind_terms : first_wrong_line (log_of ("DCL E 1" ∷ "V X" ∷ "UNDO E" ∷ "V X" ∷ "BOOT-STRAP" ∷ "END" ∷ [])) ≡ Right
unfolding digits symbols_of numeral number_in tree_depth tree_size is_tree_value line_of_words run_of field_of number_of path_of places_of
undone_behind_terms = refl

-- a name is given once
name_twice : first_wrong_line (log_of ("V X" ∷ "AXIOMATIZE H 1" ∷ "V X" ∷ "AXIOMATIZE H 1" ∷ [])) ≡ Wrong 5 NotAllowed
unfolding digits symbols_of numeral number_in tree_depth tree_size is_tree_value line_of_words run_of field_of number_of path_of places_of
name_twice = refl

-- nothing stands behind the last line, not even a byte without its line feed
byte_behind_end : first_wrong_line (log_of ("END" ∷ []) ++ codes "X") ≡ Wrong 3 Malformed
unfolding digits symbols_of numeral number_in tree_depth tree_size is_tree_value line_of_words run_of field_of number_of path_of places_of
byte_behind_end = refl

-- a definition is claimed with its measure
recursive_claims : claims_of (log_of recursive_lines) ≡ Adds (Axiom (codes "O1") [] (call1 "ORDINALP" (call1 "COUNT" (variable "X"))))
    ∷ Adds (Axiom (codes "O2") [] (call2 "ORD-LESSP" (call1 "COUNT" (call1 "CDR" (variable "X"))) (call1 "COUNT" (variable "X"))))
    ∷ Adds (Defines (record {
      function = codes "LEN";
      formals = codes "X" ∷ [];
      body = if_term (call1 "LISTP" (variable "X")) (add1_term (call1 "LEN" (call1 "CDR" (variable "X")))) zero_term;
      measure = Some (call1 "COUNT" (variable "X"));
    })) ∷ []
unfolding digits symbols_of numeral number_in tree_depth tree_size is_tree_value line_of_words run_of field_of number_of path_of places_of
recursive_claims = refl
