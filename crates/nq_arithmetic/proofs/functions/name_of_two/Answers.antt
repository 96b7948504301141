use Rattle.nq_logic.proofs.Symbols.{equal_symbol, lessp_symbol, plus_symbol, times_symbol, difference_symbol, quotient_symbol, remainder_symbol, ord_lessp_symbol, cons_symbol}
use Rattle.nq_arithmetic.proofs.functions.name_of_two.Goals as goal

pub returns-in-Equal-clause-function : goal.returns-in-Equal-clause-function
returns-in-Equal-clause-function c = λ h. equal_symbol h

pub returns-in-Lessp-clause-function : goal.returns-in-Lessp-clause-function
returns-in-Lessp-clause-function c = λ h. lessp_symbol h

pub returns-in-Plus-clause-function : goal.returns-in-Plus-clause-function
returns-in-Plus-clause-function c = λ h. plus_symbol h

pub returns-in-Times-clause-function : goal.returns-in-Times-clause-function
returns-in-Times-clause-function c = λ h. times_symbol h

pub returns-in-Difference-clause-function : goal.returns-in-Difference-clause-function
returns-in-Difference-clause-function c = λ h. difference_symbol h

pub returns-in-Quotient-clause-function : goal.returns-in-Quotient-clause-function
returns-in-Quotient-clause-function c = λ h. quotient_symbol h

pub returns-in-Remainder-clause-function : goal.returns-in-Remainder-clause-function
returns-in-Remainder-clause-function c = λ h. remainder_symbol h

pub returns-in-OrdLessp-clause-function : goal.returns-in-OrdLessp-clause-function
returns-in-OrdLessp-clause-function c = λ h. ord_lessp_symbol h

pub returns-in-Cons-clause-function : goal.returns-in-Cons-clause-function
returns-in-Cons-clause-function c = λ h. cons_symbol h
