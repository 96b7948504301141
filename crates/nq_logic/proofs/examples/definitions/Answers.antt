use Rattle.std.proofs.Common.{refl, [], ◌∷◌, inl, inr}
use Rattle.std.specs.Prelude.{codes}
use Rattle.nq_logic.specs.Words.{variable, call1, numeral}
use Rattle.nq_logic.specs.Ground.{symbols_of}
use Rattle.nq_logic.proofs.Tests.{only_name_apart, no_term}
use Rattle.nq_logic.proofs.Symbols.{plus_symbol, if_symbol, listp_symbol, cdr_symbol, count_symbol}
use Rattle.nq_logic.proofs.examples.definitions.Goals as goal

pub returns-clause-obligations : goal.returns-clause-obligations
unfolding numeral
returns-clause-obligations c = record { inner_call = refl; of_inner_call = refl; tests = refl; second_formal = refl }

pub returns-clause-admissible : goal.returns-clause-admissible
unfolding symbols_of
returns-clause-admissible c = record {
  plain = record { unused = refl; distinct = (λ m. m, tt); closed = ((tt, inl refl), inl refl); over = ((inr (plus_symbol []), tt), tt); measured = tt };
  in_use = λ a. let used = a.unused in cc;
  repeated_formal = λ a. a.distinct.0 (inl refl);
  free_variable = λ a. only_name_apart (codes "Y") (codes "X") refl a.closed.1;
  wrong_arity = λ a. no_term ((codes "DOUBLE", 1) ∷ symbols_of []) (call1 "PLUS" (variable "X")) refl a.over;
  unknown_function = λ a. no_term ((codes "DOUBLE", 1) ∷ symbols_of []) (call1 "TWICE" (variable "X")) refl a.over;
  needless_measure = λ a. a.measured;
  missing_measure = λ a. a.measured;
}

pub returns-clause-recursive : goal.returns-clause-recursive
returns-clause-recursive c = λ h unused. (
  (λ a. (a.measured.ordinal, a.measured.falls.0.less)),
  (λ d. record {
    unused = unused;
    distinct = (λ m. m, tt);
    closed = (((tt, (tt, inl refl)), (tt, (tt, inl refl))), inl refl);
    over = (((inr (if_symbol h), (inr (listp_symbol h), tt)), (inl refl, (inr (cdr_symbol h), tt))), tt);
    measured = record { over = (count_symbol h, tt); of_formals = (tt, inl refl); ordinal = d.0; falls = (record { older = refl; less = d.1 }, tt) };
  }),
)

pub returns-clause-by_itself : goal.returns-clause-by_itself
returns-clause-by_itself c = λ h a. let older = a.measured.falls.0.older in cc
