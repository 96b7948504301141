-- What a log can spell: forms whose names are symbols in upper case, as those that are read of a text.
use Rattle.std.specs.Prelude.{⊤, IsTrue}
use Rattle.nq_form.specs.Form.{Form, Forms, symbol, numeral, text, quoted, listed, end, dotted, next}
use Rattle.nq_logtext.specs.Symbols.{is_symbol}

abbrev mutual
  -- each symbol of the form is a symbol in upper case
  pub IsSpelled : Form → Type 0
  IsSpelled (symbol name) = IsTrue (is_symbol name)
  IsSpelled (numeral negative n) = ⊤
  IsSpelled (text bytes) = ⊤
  IsSpelled (quoted f) = IsSpelled f
  IsSpelled (listed fs) = AreSpelled fs

  pub AreSpelled : Forms → Type 0
  AreSpelled end = ⊤
  AreSpelled (dotted f) = IsSpelled f
  AreSpelled (next f fs) = IsSpelled f × AreSpelled fs
