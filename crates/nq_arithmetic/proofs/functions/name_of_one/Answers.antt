use Rattle.nq_logic.proofs.Symbols.{add1_symbol, sub1_symbol, count_symbol, car_symbol, cdr_symbol, numberp_symbol, listp_symbol, zerop_symbol, fix_symbol}
use Rattle.nq_arithmetic.proofs.functions.name_of_one.Goals as goal

pub returns-in-Add1-clause-function : goal.returns-in-Add1-clause-function
returns-in-Add1-clause-function c = λ h. add1_symbol h

pub returns-in-Sub1-clause-function : goal.returns-in-Sub1-clause-function
returns-in-Sub1-clause-function c = λ h. sub1_symbol h

pub returns-in-Count-clause-function : goal.returns-in-Count-clause-function
returns-in-Count-clause-function c = λ h. count_symbol h

pub returns-in-Car-clause-function : goal.returns-in-Car-clause-function
returns-in-Car-clause-function c = λ h. car_symbol h

pub returns-in-Cdr-clause-function : goal.returns-in-Cdr-clause-function
returns-in-Cdr-clause-function c = λ h. cdr_symbol h

pub returns-in-Numberp-clause-function : goal.returns-in-Numberp-clause-function
returns-in-Numberp-clause-function c = λ h. numberp_symbol h

pub returns-in-Listp-clause-function : goal.returns-in-Listp-clause-function
returns-in-Listp-clause-function c = λ h. listp_symbol h

pub returns-in-Zerop-clause-function : goal.returns-in-Zerop-clause-function
returns-in-Zerop-clause-function c = λ h. zerop_symbol h

pub returns-in-Fix-clause-function : goal.returns-in-Fix-clause-function
returns-in-Fix-clause-function c = λ h. fix_symbol h
