use Rattle.nq_arith.proofs.Numerals.{number, sum, product, difference, quotient, remainder, less}
use Rattle.nq_arith.proofs.numeral_values.Goals as goal

pub returns-clause-number : goal.returns-clause-number
returns-clause-number c = number

pub returns-clause-sum : goal.returns-clause-sum
returns-clause-sum c = sum

pub returns-clause-product : goal.returns-clause-product
returns-clause-product c = product

pub returns-clause-less : goal.returns-clause-less
returns-clause-less c = less

pub returns-clause-difference : goal.returns-clause-difference
returns-clause-difference c = difference

pub returns-clause-quotient : goal.returns-clause-quotient
returns-clause-quotient c = quotient

pub returns-clause-remainder : goal.returns-clause-remainder
returns-clause-remainder c = remainder
