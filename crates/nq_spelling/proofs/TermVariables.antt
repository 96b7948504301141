-- Variables of one kind, in terms that are made of terms.
use Rattle.std.proofs.Common.{ℕ, zero, suc, Bool, true, false, List, [], ◌∷◌, nat_eq}
use Rattle.std.specs.Prelude.{bytes_eq, codes, if◌then◌else◌}
use Rattle.nq_logic.specs.Terms.{Name, Term, Variable, Function, Applied, applied, call, Substitution, value_at, substituted, Each}
use Rattle.nq_logic.specs.Words.{call1, numeral, numerals, true_term, false_term}
use Rattle.nq_form.specs.Form.{Form, Forms, symbol, numeral as number, text, quoted, listed, end, dotted, next}
use Rattle.nq_language.specs.Abbreviations.{is_word}
use Rattle.nq_language.specs.Objects.{nil_term, number_term, value, values}
use Rattle.nq_language.specs.Translation.{list_term, nested_term, path_term, path_call, quoted_term, symbol_term}
use Rattle.nq_kernel.specs.Over.{VariablesAre}

module _ (P : Name → Type 0) where
  abbrev pub AllAre : List Term → Type 0
  AllAre ts = Each (λ (t : Term). VariablesAre P t) ts

  applied_are : (t : Term) (ts : List Term) → VariablesAre P t → AllAre ts → VariablesAre P (applied t ts)
  applied_are t [] s all = s
  applied_are t (u ∷ ts) s all = applied_are (Applied t u) ts (s, all.0) all.1

  pub call_are : (f : Name) (ts : List Term) → AllAre ts → VariablesAre P (call f ts)
  call_are f ts all = applied_are (Function f) ts tt all

  choice_are : (b : Bool) (t u : Term) → VariablesAre P t → VariablesAre P u → VariablesAre P (if b then t else u)
  choice_are true t u s r = s
  choice_are false t u s r = r

  abbrev pub PairsAre : Substitution → Type 0
  PairsAre s = Each (λ (b : List ℕ × Term). VariablesAre P b.1) s

  value_at_are : (s : Substitution) (x : Name) → PairsAre s → P x → VariablesAre P (value_at s x)
  value_at_are [] x all p = p
  value_at_are (b ∷ s) x all p = choice_are (bytes_eq x b.0) b.1 (value_at s x) all.0 (value_at_are s x all.1 p)

  pub substituted_are : (s : Substitution) (t : Term) → PairsAre s → VariablesAre P t → VariablesAre P (substituted s t)
  substituted_are s (Variable x) all p = value_at_are s x all p
  substituted_are s (Function f) all p = tt
  substituted_are s (Applied t u) all p = (substituted_are s t all p.0, substituted_are s u all p.1)

  -- values have no variables
  numeral_are : (n : ℕ) → VariablesAre P (numeral n)
  unfolding numeral
  numeral_are zero = tt
  numeral_are (suc n) = (tt, numeral_are n)

  numerals_are : (ns : List ℕ) → VariablesAre P (numerals ns)
  numerals_are [] = tt
  numerals_are (n ∷ ns) = ((tt, numeral_are n), numerals_are ns)

  atom_are : (name : Name) → VariablesAre P (call1 "PACK" (numerals name))
  atom_are name = (tt, numerals_are name)

  pub nil_are : VariablesAre P nil_term
  nil_are = (tt, numerals_are (codes "NIL"))

  pub number_are : (negative : Bool) (n : ℕ) → VariablesAre P (number_term negative n)
  number_are false n = numeral_are n
  number_are true zero = numeral_are zero
  number_are true (suc n) = (tt, numeral_are (suc n))

  mutual
    unfolding value

    pub value_are : (f : Form) → VariablesAre P (value f)
    value_are (symbol x) = atom_are x
    value_are (number negative n) = number_are negative n
    value_are (text bytes) = nil_are
    value_are (quoted f) = ((tt, (tt, numerals_are (codes "QUOTE"))), ((tt, value_are f), nil_are))
    value_are (listed fs) = values_are fs

    values_are : (fs : Forms) → VariablesAre P (values fs)
    values_are end = nil_are
    values_are (dotted f) = value_are f
    values_are (next f fs) = ((tt, value_are f), values_are fs)

  pub quoted_are : (fs : Forms) → VariablesAre P (quoted_term fs)
  quoted_are end = nil_are
  quoted_are (dotted f) = nil_are
  quoted_are (next f fs) = value_are f

  pub list_are : (ts : List Term) → AllAre ts → VariablesAre P (list_term ts)
  list_are [] all = nil_are
  list_are (t ∷ ts) all = ((tt, all.0), list_are ts all.1)

  pub nested_are : (f : Name) (ts : List Term) → AllAre ts → VariablesAre P (nested_term f ts)
  nested_are f [] all = tt
  nested_are f (t ∷ []) all = (tt, all.0)
  nested_are f (t ∷ u ∷ []) all = ((tt, all.0), all.1.0)
  nested_are f (t ∷ u ∷ v ∷ ts) all = ((tt, all.0), nested_are f (u ∷ v ∷ ts) all.1)

  letter_are : (b : Bool) (t : Term) → VariablesAre P t → VariablesAre P (if b then call1 "CAR" t else call1 "CDR" t)
  letter_are true t s = (tt, s)
  letter_are false t s = (tt, s)

  path_are : (bs : List ℕ) (t : Term) → VariablesAre P t → VariablesAre P (path_term bs t)
  path_are [] t s = s
  path_are (b ∷ bs) t s = letter_are (nat_eq b 65) (path_term bs t) (path_are bs t s)

  pub path_call_are : (bs : List ℕ) (ts : List Term) → AllAre ts → VariablesAre P (path_call bs ts)
  path_call_are bs [] all = nil_are
  path_call_are bs (t ∷ ts) all = path_are bs t all.0

  -- T, F and NIL have no variables
  by_tests : (t f n : Bool) (x : Name) → P x → VariablesAre P (if t then true_term else (if f then false_term else (if n then nil_term else Variable x)))
  by_tests true f n x p = tt
  by_tests false true n x p = tt
  by_tests false false true x p = nil_are
  by_tests false false false x p = p

  pub symbol_are : (x : Name) → P x → VariablesAre P (symbol_term x)
  symbol_are x p = by_tests (is_word "T" x) (is_word "F" x) (is_word "NIL" x) x p
