-- Lists of two forms.
use Rattle.std.specs.Prelude.{◌≡◌, Option, None, Some, List, ℕ}
use Rattle.std.proofs.Common.{Bor}
use Rattle.nq_form.specs.Form.{Form, symbol, listed, end, next}
use Rattle.nq_sexp.specs.Tree.{tree}
use Rattle.nq_abbrev.specs.declared.shapes.Pair.{Pair}

-- the form is a list of these two
abbrev pub IsPairOf : Form → Pair → Type 0
IsPairOf f p = f ≡ listed (next (tree p.first.now) (next (tree p.second.now) end))

abbrev pub name_at : Option (Bor (List ℕ)) → Option (List ℕ)
name_at None = None
name_at (Some name) = Some name.now

-- the name of a symbol
abbrev pub symbol_name : Form → Option (List ℕ)
symbol_name (symbol x) = Some x
symbol_name _ = None
