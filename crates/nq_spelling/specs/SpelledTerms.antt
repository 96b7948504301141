-- The variables of a term are spelled by its form.
use Rattle.std.specs.Prelude.{◌≡◌, ⊤, None, List}
use Rattle.nq_logic.specs.Terms.{Name}
use Rattle.nq_logic.specs.Histories.{History}
use Rattle.nq_form.specs.Form.{Form, Forms, symbol, numeral, text, quoted, listed, end, dotted, next}
use Rattle.nq_language.specs.Refusals.{met}
use Rattle.nq_language.specs.Translation.{translated}
use Rattle.nq_events.specs.TermRefusals.{arity_of, arity_with}
use Rattle.nq_kernel.specs.Over.{VariablesAre, IsVariable}
use Rattle.nq_spelling.specs.Spelled.{IsSpelled}

abbrev mutual
  -- each symbol of the form is of this kind
  pub SymbolsAre : (Name → Type 0) → Form → Type 0
  SymbolsAre P (symbol x) = P x
  SymbolsAre P (numeral negative n) = ⊤
  SymbolsAre P (text bytes) = ⊤
  SymbolsAre P (quoted f) = SymbolsAre P f
  SymbolsAre P (listed fs) = AllSymbolsAre P fs

  pub AllSymbolsAre : (Name → Type 0) → Forms → Type 0
  AllSymbolsAre P end = ⊤
  AllSymbolsAre P (dotted f) = SymbolsAre P f
  AllSymbolsAre P (next f fs) = SymbolsAre P f × AllSymbolsAre P fs

-- The variables of a term whose form is spelled and isn't refused are such as a log can spell.
abbrev pub TermsAreSpelled : Type 0
TermsAreSpelled = (h : History) (f : Form) → IsSpelled f → met (arity_of h) f ≡ None → VariablesAre IsVariable (translated (arity_of h) f)

-- So are those of the terms of a definition.
abbrev pub DefinitionTermsAreSpelled : Type 0
DefinitionTermsAreSpelled =
    (h : History) (name : Name) (formals : List Name) (f : Form) → IsSpelled f → met (arity_with h name formals) f ≡ None
    → VariablesAre IsVariable (translated (arity_with h name formals) f)
