-- The values of forms in an arena.
use Rattle.std.specs.Prelude.{List, [], ◌∷◌}
use Rattle.nq_logic.specs.Terms.{Term}
use Rattle.nq_logic.specs.Words.{literal_atom}
use Rattle.nq_language.specs.Objects.{cons_term, nil_term, value}
use Rattle.nq_sexp.specs.declared.Sexp.{Sexp}
use Rattle.nq_sexp.specs.Tree.{tree}

-- the values of these forms, in a CONS nest that ends in this
abbrev pub values_before : List Sexp → Term → Term
values_before [] last = last
values_before (form ∷ forms) last = cons_term (value (tree form)) (values_before forms last)

-- the value of a quoted object inside a quote
abbrev pub quotation_term : Term → Term
quotation_term t = cons_term (literal_atom "QUOTE") (cons_term t nil_term)
