-- The variables of a term are symbols of its form.
use Rattle.std.proofs.Common.{ℕ}
use Rattle.std.specs.Prelude.{Option}
use Rattle.nq_logic.specs.Terms.{Name, Term, call}
use Rattle.nq_form.specs.Form.{Form, Forms, symbol, numeral as number, text, quoted, listed, end, dotted, next}
use Rattle.nq_language.specs.Abbreviations.{Word, Listing, Conditional, Choice, Binding, Quotation, Nesting, Path, Outside, Plain, word_in}
use Rattle.nq_language.specs.Objects.{nil_term}
use Rattle.nq_language.specs.Translation.{list_term, nested_term, path_call, quoted_term, translated, all_translated, conditional_term, choice_term, keyed_term, binding_term, bound}
use Rattle.nq_kernel.specs.Over.{VariablesAre}
use Rattle.nq_spelling.specs.SpelledTerms.{SymbolsAre, AllSymbolsAre}
use Rattle.nq_spelling.proofs.TermVariables.{AllAre, PairsAre, call_are, substituted_are, nil_are, number_are, value_are, quoted_are, list_are, nested_are, path_call_are, symbol_are}

module _ (P : Name → Type 0) (arity : Name → Option ℕ) where
  -- a call, by the meaning of its name
  by_word : (w : Word) (f : Name) (fs : Forms) → AllAre P (all_translated arity fs) → VariablesAre P (conditional_term arity fs) → VariablesAre P (choice_term arity fs) → VariablesAre P (binding_term arity fs)
      → VariablesAre P (elim w [
        | Listing ↦ list_term (all_translated arity fs)
        | Conditional ↦ conditional_term arity fs
        | Choice ↦ choice_term arity fs
        | Binding ↦ binding_term arity fs
        | Quotation ↦ quoted_term fs
        | Nesting ↦ nested_term f (all_translated arity fs)
        | Path letters ↦ path_call letters (all_translated arity fs)
        | Outside ↦ nil_term
        | Plain ↦ call f (all_translated arity fs)
      ])
  by_word Listing f fs all clauses choice binding = list_are P (all_translated arity fs) all
  by_word Conditional f fs all clauses choice binding = clauses
  by_word Choice f fs all clauses choice binding = choice
  by_word Binding f fs all clauses choice binding = binding
  by_word Quotation f fs all clauses choice binding = quoted_are P fs
  by_word Nesting f fs all clauses choice binding = nested_are P f (all_translated arity fs) all
  by_word (Path letters) f fs all clauses choice binding = path_call_are P letters (all_translated arity fs) all
  by_word Outside f fs all clauses choice binding = nil_are P
  by_word Plain f fs all clauses choice binding = call_are P f (all_translated arity fs) all

  mutual
    unfolding translated

    pub form_are : (f : Form) → SymbolsAre P f → VariablesAre P (translated arity f)
    form_are (symbol x) s = symbol_are P x s
    form_are (number negative n) s = number_are P negative n
    form_are (text bytes) s = nil_are P
    form_are (quoted f) s = value_are P f
    form_are (listed end) s = nil_are P
    form_are (listed (next (symbol f) fs)) s = by_word (word_in arity f) f fs (all_are fs s.1) (clauses_are fs s.1) (choice_are fs s.1) (binding_are fs s.1)
    form_are (listed fs) s = nil_are P

    all_are : (fs : Forms) → AllSymbolsAre P fs → AllAre P (all_translated arity fs)
    all_are end s = tt
    all_are (dotted f) s = tt
    all_are (next f fs) s = (form_are f s.0, all_are fs s.1)

    clauses_are : (fs : Forms) → AllSymbolsAre P fs → VariablesAre P (conditional_term arity fs)
    clauses_are (next (listed (next t (next v end))) end) s = form_are v s.0.1.0
    clauses_are (next (listed (next t (next v end))) fs) s = (((tt, form_are t s.0.0), form_are v s.0.1.0), clauses_are fs s.1)
    clauses_are _ s = nil_are P

    choice_are : (fs : Forms) → AllSymbolsAre P fs → VariablesAre P (choice_term arity fs)
    choice_are (next x fs) s = keyed_are (translated arity x) fs (form_are x s.0) s.1
    choice_are _ s = nil_are P

    keyed_are : (x : Term) (fs : Forms) → VariablesAre P x → AllSymbolsAre P fs → VariablesAre P (keyed_term arity x fs)
    keyed_are x (next (listed (next k (next v end))) end) r s = form_are v s.0.1.0
    keyed_are x (next (listed (next k (next v end))) fs) r s = (((tt, ((tt, r), value_are P k)), form_are v s.0.1.0), keyed_are x fs r s.1)
    keyed_are x _ r s = nil_are P

    binding_are : (fs : Forms) → AllSymbolsAre P fs → VariablesAre P (binding_term arity fs)
    binding_are (next (listed bindings) (next body end)) s = substituted_are P (bound arity bindings) (translated arity body) (bound_are bindings s.0) (form_are body s.1.0)
    binding_are _ s = nil_are P

    bound_are : (fs : Forms) → AllSymbolsAre P fs → PairsAre P (bound arity fs)
    bound_are (next (listed (next (symbol x) (next t end))) fs) s = (form_are t s.0.1.0, bound_are fs s.1)
    bound_are _ s = tt
