-- The text of a term.
use Rattle.std.specs.Prelude.{◌≡◌, ◌⊎◌, ⊤, ℕ, zero, suc, ◌≤◌, Bool, true, false, nat_le, if◌then◌else◌, Option, None, Some, List, [], ◌∷◌, ◌++◌, length, codes}
use Rattle.nq_logic.specs.Terms.{Name, Symbol, Term, Variable, Function, Applied, Each, IsTerm}
use Rattle.nq_logic.specs.Ground.{symbols_of}
use Rattle.nq_form.specs.Form.{Form, Forms, symbol, numeral, quoted, listed, end, next, push}
use Rattle.nq_form.specs.Grammar.{Items}
use Rattle.nq_form.specs.Spelling.{spelled, nesting, IsName}
use Rattle.nq_language.specs.Arities.{arity_in}
use Rattle.nq_language.specs.Abbreviations.{is_word, Nesting, Plain, word_of}
use Rattle.nq_language.specs.Limits.{is_function, is_large}
use Rattle.nq_language.specs.Refusals.{is_constant, translation, sized}
use Rattle.nq_language.specs.Quotations.{object_of}

-- A quoted object. Numbers and NIL stand without a quote mark.
abbrev pub shown : Form → Form
shown (numeral negative n) = numeral negative n
shown (symbol x) = if is_word "NIL" x then symbol x else quoted (symbol x)
shown f = quoted f

-- T, F, 0, or a call without arguments
abbrev pub constant_form : Name → Form
constant_form f =
    if is_word "TRUE" f then symbol (codes "T")
    else (if is_word "FALSE" f then symbol (codes "F")
    else (if is_word "ZERO" f then numeral false 0 else listed (next (symbol f) end)))

-- the letter of CAR or CDR
abbrev pub letter_of : Term → Option ℕ
letter_of f = if is_function "CAR" f then Some 65 else (if is_function "CDR" f then Some 68 else None)

abbrev pub is_full : List ℕ → Bool
is_full letters = nat_le 200 (length letters)

-- C, these letters, R
abbrev pub path_name : List ℕ → Name
path_name letters = 67 ∷ letters ++ 82 ∷ []

-- a nest of CAR and CDR around a form, as one name
abbrev pub wrapped : List ℕ → Form → Form
wrapped [] f = f
wrapped (b ∷ bs) f = listed (next (symbol (path_name (b ∷ bs))) (next f end))

unfoldable mutual
  -- the form of a term inside these calls of CAR and CDR, at most 200 of which make one name
  pub form_under : List ℕ → Term → Form
  form_under letters (Variable x) = wrapped letters (symbol x)
  form_under letters (Function f) = wrapped letters (constant_form f)
  form_under letters (Applied t u) = elim (letter_of t) [
    | Some b ↦ elim (is_full letters) [ true ↦ wrapped letters (form_under (b ∷ []) u) | false ↦ form_under (letters ++ b ∷ []) u ]
    | None ↦ wrapped letters (elim (object_of (Applied t u)) [ Some f ↦ shown f | None ↦ listed (push (call_forms t) (form_under [] u)) ])
  ]

  -- a function and the arguments that it has been given
  pub call_forms : Term → Forms
  call_forms (Variable x) = end
  call_forms (Function f) = next (symbol f) end
  call_forms (Applied t u) = push (call_forms t) (form_under [] u)

-- the form of a term
abbrev pub printed_form : Term → Form
printed_form t = form_under [] t

-- the text of a term
abbrev pub printed : Term → List ℕ
printed t = if is_large t then codes "<large term>" else spelled (printed_form t)

-- a function with its arity whose name is a symbol and no word with another meaning
pub record IsUsable (arity : Name → Option ℕ) (f : Name) (n : ℕ) : Type 0 where
  pub name : IsName f
  pub known : arity f ≡ Some n
  pub word : (word_of f ≡ Plain) ⊎ ((word_of f ≡ Nesting) × (n ≡ 2))

-- a term over usable functions that is still to be given n arguments, whose variables are names other than T, F and NIL
abbrev pub IsPrintable : (Name → Option ℕ) → Term → ℕ → Type 0
IsPrintable arity (Variable x) zero = IsName x × (is_constant x ≡ false)
IsPrintable arity (Variable x) (suc n) = ⊥
IsPrintable arity (Function f) n = IsUsable arity f n
IsPrintable arity (Applied t u) n = IsPrintable arity t (suc n) × IsPrintable arity u zero

-- The text of a term spells one form, whose translation is the term, unless the term is large.
abbrev pub PrintedIsRead : Type 0
PrintedIsRead = (arity : Name → Option ℕ) (t : Term) → IsPrintable arity t 0 → is_large t ≡ false
    → (f : Form) × (translation arity f ≡ sized t) × ((levels : ℕ) → nesting f ≤ levels → Items levels (printed t) (next f end))

-- each variable is a name other than T, F and NIL
abbrev pub HasNames : Term → Type 0
HasNames (Variable x) = IsName x × (is_constant x ≡ false)
HasNames (Function f) = ⊤
HasNames (Applied t u) = HasNames t × HasNames u

-- The same for a term over these symbols, each of which is usable.
abbrev pub PrintedOverSymbols : Type 0
PrintedOverSymbols = (symbols : List Symbol) (arity : Name → Option ℕ) (t : Term) → Each (λ s. IsUsable arity s.0 s.1) symbols → IsTerm symbols t → HasNames t → is_large t ≡ false
    → (f : Form) × (translation arity f ≡ sized t) × ((levels : ℕ) → nesting f ≤ levels → Items levels (printed t) (next f end))

-- The ground symbols are usable.
abbrev pub GroundIsUsable : Type 0
GroundIsUsable = Each (λ s. IsUsable (arity_in (symbols_of [])) s.0 s.1) (symbols_of [])
