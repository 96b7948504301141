use Rattle.nq_logic.proofs.Numbers.{numerals_have_numbers_law, numbers_are_of_numerals_law}
use Rattle.nq_logic.proofs.histories.numerals_have_numbers.Goals as goal

pub returns-clause-numerals : goal.returns-clause-numerals
returns-clause-numerals c = numerals_have_numbers_law

pub returns-clause-numbers : goal.returns-clause-numbers
returns-clause-numbers c = numbers_are_of_numerals_law
