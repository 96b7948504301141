-- What is known of the term of a form that isn't refused.
use Rattle.std.specs.Prelude.{◌≡◌, ⊤, false, None, List, ◌∷◌, length}
use Rattle.nq_logic.specs.Terms.{Name, Symbol, Term, Variable, Function, Applied, IsTerm}
use Rattle.nq_logic.specs.Histories.{History}
use Rattle.nq_logic.specs.Ground.{symbols_of}
use Rattle.nq_form.specs.Form.{Form}
use Rattle.nq_language.specs.Refusals.{is_constant, met}
use Rattle.nq_language.specs.Translation.{translated}
use Rattle.nq_events.specs.TermRefusals.{arity_of, arity_with}

-- no variable of the term is T, F or NIL
abbrev pub HasPlainVariables : Term → Type 0
HasPlainVariables (Variable x) = is_constant x ≡ false
HasPlainVariables (Function f) = ⊤
HasPlainVariables (Applied t u) = HasPlainVariables t × HasPlainVariables u

-- a term over these symbols, no variable of which is T, F or NIL
pub record IsReadTerm (symbols : List Symbol) (t : Term) : Type 0 where
  pub over : IsTerm symbols t
  pub plain : HasPlainVariables t

-- The term of a form that isn't refused is a term over the functions of the history.
abbrev pub TermsAreOverHistories : Type 0
TermsAreOverHistories = (h : History) (f : Form) → met (arity_of h) f ≡ None → IsReadTerm (symbols_of h) (translated (arity_of h) f)

-- In a definition it is a term over these and the function of the definition.
abbrev pub TermsAreOverDefinitions : Type 0
TermsAreOverDefinitions =
    (h : History) (name : Name) (formals : List Name) (f : Form) → met (arity_with h name formals) f ≡ None
    → IsReadTerm ((name, length formals) ∷ symbols_of h) (translated (arity_with h name formals) f)
