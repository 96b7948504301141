-- Logs written by hand, and wrong ones.
use Prim.Native.String.{String as Text}
use Rattle.std.proofs.Common.{◌≡◌, ℕ, List, [], ◌∷◌, ◌++◌, refl}
use Rattle.std.specs.Prelude.{codes, None}
use Rattle.std.specs.Fmt.{digits}
use Rattle.nq_logic.specs.Words.{variable, call2, numeral}
use Rattle.nq_logic.specs.Ground.{symbols_of}
use Rattle.nq_logic.specs.Numerals.{number_of as number_in}
use Rattle.nq_logic.specs.Sizes.{tree_depth, tree_size}
use Rattle.nq_logic.specs.Histories.{Lemma, Defines}
use Rattle.nq_logtext.specs.Reading.{line_of_words, run_of, field_of, number_of, path_of, places_of}
use Rattle.nq_log.specs.States.{Grounded, Adds}
use Rattle.nq_log.proofs.ExampleTexts.{lines}
use Rattle.nq_log.specs.Logs.{Wrong, Malformed, NotAllowed, UnexpectedEnd, IsLog, claims_of, first_wrong_line}

abbrev first_lines : List Text
first_lines = "NQTHM-LOG 1" ∷ "BOOT-STRAP" ∷ "V P" ∷ "V Q" ∷ "A NOT 1" ∷ "A TRUE" ∷ "A FALSE" ∷ "A IF 1 4 5" ∷ "A IF 1 6 4" ∷ "A IMPLIES 1 1" ∷ "A EQUAL 8 7" ∷ "AXIOM TRUE 1 0" ∷ []

abbrev middle_lines : List Text
middle_lines = "JOIN 1 2 1 4 5" ∷ "JOIN 3 1 1 6 4" ∷ "AXIOM IMPLIES 1 0" ∷ []

abbrev before_lemma : List Text
before_lemma = "REPLACE 4 1 0 8 -" ∷ "CUT 6 7 9" ∷ []

abbrev middle_of : Text → Text → List Text
middle_of taut inst = taut ∷ "JOIN 1 2 1 4 5" ∷ "JOIN 3 1 1 6 4" ∷ "AXIOM IMPLIES 1 0" ∷ inst ∷ "REPLACE 4 1 0 8 -" ∷ "CUT 6 7 9" ∷ []

-- the log with these three lines in their places
abbrev log_with : Text → Text → List Text → List ℕ
log_with taut inst last = lines (first_lines ++ (middle_of taut inst ++ last))

abbrev last_lines : List Text
last_lines = "LEMMA TRIV 8 8" ∷ "END" ∷ []

abbrev right_log : List ℕ
right_log = log_with "TAUT 1 3" "INST 5 2 1" last_lines

right_log_is_log : IsLog right_log
unfolding digits symbols_of numeral number_in tree_depth tree_size line_of_words run_of field_of number_of path_of places_of
right_log_is_log = refl

right_log_claims : claims_of right_log ≡ Grounded ∷ Adds (Lemma (codes "TRIV") [] (call2 "IMPLIES" (variable "P") (variable "P"))) ∷ []
unfolding digits symbols_of numeral number_in tree_depth tree_size line_of_words run_of field_of number_of path_of places_of
right_log_claims = refl

wrong_tautology : first_wrong_line (log_with "TAUT 1 4" "INST 5 2 1" last_lines) ≡ Wrong 13 NotAllowed
unfolding digits symbols_of numeral number_in tree_depth tree_size line_of_words run_of field_of number_of path_of places_of
wrong_tautology = refl

wrong_instance : first_wrong_line (log_with "TAUT 1 3" "INST 5 1 2" last_lines) ≡ Wrong 20 NotAllowed
unfolding digits symbols_of numeral number_in tree_depth tree_size line_of_words run_of field_of number_of path_of places_of
wrong_instance = refl

cut_off : first_wrong_line (log_with "TAUT 1 3" "INST 5 2 1" []) ≡ Wrong 20 UnexpectedEnd
unfolding digits symbols_of numeral number_in tree_depth tree_size line_of_words run_of field_of number_of path_of places_of
cut_off = refl

nothing : first_wrong_line ([]) ≡ Wrong 1 UnexpectedEnd
unfolding digits symbols_of numeral number_in tree_depth tree_size line_of_words run_of field_of number_of path_of places_of
nothing = refl

two_ends : first_wrong_line (log_with "TAUT 1 3" "INST 5 2 1" ("LEMMA TRIV 8 8" ∷ "END" ∷ "END" ∷ [])) ≡ Wrong 22 Malformed
unfolding digits symbols_of numeral number_in tree_depth tree_size line_of_words run_of field_of number_of path_of places_of
two_ends = refl

leading_zero : first_wrong_line (log_with "TAUT 01 3" "INST 5 2 1" last_lines) ≡ Wrong 13 Malformed
unfolding digits symbols_of numeral number_in tree_depth tree_size line_of_words run_of field_of number_of path_of places_of
leading_zero = refl

no_such_term : first_wrong_line (log_with "TAUT 1 12" "INST 5 2 1" last_lines) ≡ Wrong 13 NotAllowed
unfolding digits symbols_of numeral number_in tree_depth tree_size line_of_words run_of field_of number_of path_of places_of
no_such_term = refl

dropped : first_wrong_line (log_with "TAUT 1 3" "INST 5 2 1" ("DROP 8" ∷ last_lines)) ≡ Wrong 21 NotAllowed
unfolding digits symbols_of numeral number_in tree_depth tree_size line_of_words run_of field_of number_of path_of places_of
dropped = refl

no_lemma : first_wrong_line (log_with "TAUT 1 3" "INST 5 2 1" ("END" ∷ [])) ≡ Wrong 20 NotAllowed
unfolding digits symbols_of numeral number_in tree_depth tree_size line_of_words run_of field_of number_of path_of places_of
no_lemma = refl

carriage_return : first_wrong_line (codes "NQTHM-LOG 1" ++ (13 ∷ 10 ∷ [])) ≡ Wrong 1 Malformed
unfolding digits symbols_of numeral number_in tree_depth tree_size line_of_words run_of field_of number_of path_of places_of
carriage_return = refl

unended : first_wrong_line (log_with "TAUT 1 3" "INST 5 2 1" ("LEMMA TRIV 8 8" ∷ []) ++ codes "END") ≡ Wrong 21 UnexpectedEnd
unfolding digits symbols_of numeral number_in tree_depth tree_size line_of_words run_of field_of number_of path_of places_of
unended = refl

wrong_arity : first_wrong_line (lines ("NQTHM-LOG 1" ∷ "F G 1" ∷ "V X" ∷ "V Y" ∷ "DEFN G 1 1 2" ∷ "END" ∷ [])) ≡ Wrong 5 NotAllowed
unfolding digits symbols_of numeral number_in tree_depth tree_size line_of_words run_of field_of number_of path_of places_of
wrong_arity = refl

wrong_tautology_claims : claims_of (log_with "TAUT 1 4" "INST 5 2 1" last_lines) ≡ Grounded ∷ []
unfolding digits symbols_of numeral number_in tree_depth tree_size line_of_words run_of field_of number_of path_of places_of
wrong_tautology_claims = refl

abbrev defining : List ℕ
defining = lines ("NQTHM-LOG 1" ∷ "F G 2" ∷ "V X" ∷ "V Y" ∷ "DEFN G 1 1 2" ∷ "END" ∷ [])

defining_is_log : IsLog defining
unfolding digits symbols_of numeral number_in tree_depth tree_size line_of_words run_of field_of number_of path_of places_of
defining_is_log = refl

defining_claims : claims_of defining ≡ Adds (Defines (record { function = codes "G"; formals = codes "X" ∷ codes "Y" ∷ []; body = variable "X"; measure = None })) ∷ []
unfolding digits symbols_of numeral number_in tree_depth tree_size line_of_words run_of field_of number_of path_of places_of
defining_claims = refl

-- a value, and a lemma that it does not prove
abbrev adding : Text → List ℕ
adding sum = lines ("NQTHM-LOG 1" ∷ "N 2" ∷ "N 3" ∷ "A PLUS 1 2" ∷ sum ∷ "A EQUAL 3 4" ∷ "VALUE 3" ∷ "LEMMA FIVE 5 1" ∷ "END" ∷ [])

adding_is_log : IsLog (adding "N 5")
unfolding digits symbols_of numeral number_in tree_depth tree_size line_of_words run_of field_of number_of path_of places_of
adding_is_log = refl

adding_wrong : first_wrong_line (adding "N 6") ≡ Wrong 8 NotAllowed
unfolding digits symbols_of numeral number_in tree_depth tree_size line_of_words run_of field_of number_of path_of places_of
adding_wrong = refl
