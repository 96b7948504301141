-- The names of the functions of the table of values.
use Rattle.std.specs.Prelude.{ℕ, List, codes}
use Rattle.nq_value.specs.declared.row.Test.{Test}
use Rattle.nq_value.specs.declared.row.Test.TheVariants.{Truep, Falsep, Numberp, Listp, Litatom, Negativep, Not, Nlistp, Zerop}
use Rattle.nq_value.specs.declared.row.Accessor.{Accessor}
use Rattle.nq_value.specs.declared.row.Accessor.TheVariants.{Car, Cdr, Unpack, NegativeGuts}
use Rattle.nq_value.specs.declared.row.RowOfOne.{RowOfOne}
use Rattle.nq_value.specs.declared.row.RowOfOne.TheVariants as one
use Rattle.nq_value.specs.declared.row.Connective.{Connective}
use Rattle.nq_value.specs.declared.row.Connective.TheVariants.{And, Or, Implies, Iff}
use Rattle.nq_value.specs.declared.row.Comparison.{Comparison}
use Rattle.nq_value.specs.declared.row.Comparison.TheVariants.{Lessp, Greaterp, Leq, Geq}
use Rattle.nq_value.specs.declared.row.Arithmetic.{Arithmetic}
use Rattle.nq_value.specs.declared.row.Arithmetic.TheVariants.{Plus, Times, Difference, Quotient, Remainder}
use Rattle.nq_value.specs.declared.row.RowOfTwo.{RowOfTwo}
use Rattle.nq_value.specs.declared.row.RowOfTwo.TheVariants as two
use Rattle.nq_value.specs.declared.row.Row.{Row}
use Rattle.nq_value.specs.declared.row.Row.TheVariants as row

abbrev pub test_name : Test → List ℕ
test_name Truep = codes "TRUEP"
test_name Falsep = codes "FALSEP"
test_name Numberp = codes "NUMBERP"
test_name Listp = codes "LISTP"
test_name Litatom = codes "LITATOM"
test_name Negativep = codes "NEGATIVEP"
test_name Not = codes "NOT"
test_name Nlistp = codes "NLISTP"
test_name Zerop = codes "ZEROP"

abbrev pub accessor_name : Accessor → List ℕ
accessor_name Car = codes "CAR"
accessor_name Cdr = codes "CDR"
accessor_name Unpack = codes "UNPACK"
accessor_name NegativeGuts = codes "NEGATIVE-GUTS"

abbrev pub name_of_one : RowOfOne → List ℕ
name_of_one (one.Test test) = test_name test
name_of_one (one.Accessor accessor) = accessor_name accessor
name_of_one one.Sub1 = codes "SUB1"
name_of_one one.Fix = codes "FIX"
name_of_one one.Add1 = codes "ADD1"
name_of_one one.Minus = codes "MINUS"
name_of_one one.Identity = codes "IDENTITY"
name_of_one one.Count = codes "COUNT"

abbrev pub connective_name : Connective → List ℕ
connective_name And = codes "AND"
connective_name Or = codes "OR"
connective_name Implies = codes "IMPLIES"
connective_name Iff = codes "IFF"

abbrev pub comparison_name : Comparison → List ℕ
comparison_name Lessp = codes "LESSP"
comparison_name Greaterp = codes "GREATERP"
comparison_name Leq = codes "LEQ"
comparison_name Geq = codes "GEQ"

abbrev pub arithmetic_name : Arithmetic → List ℕ
arithmetic_name Plus = codes "PLUS"
arithmetic_name Times = codes "TIMES"
arithmetic_name Difference = codes "DIFFERENCE"
arithmetic_name Quotient = codes "QUOTIENT"
arithmetic_name Remainder = codes "REMAINDER"

abbrev pub name_of_two : RowOfTwo → List ℕ
name_of_two two.Equal = codes "EQUAL"
name_of_two (two.Connective connective) = connective_name connective
name_of_two (two.Comparison comparison) = comparison_name comparison
name_of_two (two.Arithmetic arithmetic) = arithmetic_name arithmetic
name_of_two two.Max = codes "MAX"

abbrev pub row_name : Row → List ℕ
row_name (row.One r) = name_of_one r
row_name (row.Two r) = name_of_two r
row_name row.If = codes "IF"
