-- The tree of a form that lies in an arena.
use Rattle.std.specs.Prelude.{List, [], ◌∷◌, Option, None, Some}
use Rattle.std.proofs.Common.{Bor}
use Rattle.nq_form.specs.Form.{Form, Forms, symbol, numeral, text, quoted, listed, end, dotted, next}
use Rattle.nq_sexp.specs.declared.Sexp.{Sexp, Symbol, Numeral, Str, Quote', List', Row_of-Sexp, end_of-Sexp, more_of-Sexp, Held-Sexp-List-1, None', Some'}

unfoldable mutual
  pub tree : Sexp → Form
  tree (Symbol name) = symbol name.now
  tree (Numeral negative n) = numeral negative n
  tree (Str bytes) = text bytes.now
  tree (Quote' _ form) = quoted (tree form)
  tree (List' _ _ row tail) = listed (row_trees row (tail_trees tail))

  -- the elements of a list, and then the rest
  pub row_trees : {n : _} → Row_of-Sexp n → Forms → Forms
  row_trees end_of-Sexp rest = rest
  row_trees (more_of-Sexp form row) rest = next (tree form) (row_trees row rest)

  pub tail_trees : Held-Sexp-List-1 → Forms
  tail_trees None' = end
  tail_trees (Some' _ form) = dotted (tree form)

-- the trees of these forms, and then the rest
abbrev pub trees : List Sexp → Forms → Forms
trees [] rest = rest
trees (form ∷ forms) rest = next (tree form) (trees forms rest)

-- what stands behind the elements of a list
abbrev pub tail_of : Option (Bor Sexp) → Forms
tail_of None = end
tail_of (Some form) = dotted (tree form.now)
