-- What the rule of a shell says of a term.
use Rattle.std.specs.Prelude.{◌≡◌, List, [], ◌∷◌, ◌++◌, All, Option, Some, None, ⊤}
use Rattle.nq_logic.specs.Terms.{Name, Term, Variable, Function, Each, call}
use Rattle.nq_logic.specs.Words.{not_term, equal_term}
use Rattle.nq_logic.specs.Histories.{History, Shell}
use Rattle.nq_logic.specs.Shells.{accessed, is_base, recognizes, remade, whole}
use Rattle.nq_bank.specs.declared.node.TermId.{TermId}
use Rattle.nq_bank.specs.Content.{IsIdOf, Stands, term_at, terms_at}
use Rattle.nq_history.specs.declared.entry.Entry.{Entry}
use Rattle.nq_kernel.specs.declared.work.Work.{Work}
use Rattle.nq_lines.specs.Lines.{IsTermIn}
use Rattle.nq_lines.specs.OwnTerms.{IsOver}
use Rattle.nq_eliminate.specs.declared.shells.Made.{Made}

-- the term is not the base
abbrev pub base_denied : Term → Option Name → List Term
base_denied t None = []
base_denied t (Some b) = not_term (equal_term t (Function b)) ∷ []

abbrev pub hypotheses_on : Term → Shell → List Term
hypotheses_on t s = recognizes s t ∷ base_denied t s.base

-- the equation of the term and the base
abbrev pub base_on : Term → Option Name → List Term
base_on t None = []
base_on t (Some b) = equal_term t (Function b) ∷ []

-- what the row of a shell says of X: an object other than the base is made of its parts
abbrev pub made_row : Shell → List Term
made_row s = not_term (recognizes s whole) ∷ (is_base s.base ++ (equal_term (remade s) whole ∷ []))

-- the call of the constructor on the parts of a term
abbrev pub made_on : Term → Shell → Term
made_on t s = call s.constructor (accessed t s.parts)

-- the equation of the term and the base, where there is a base
abbrev pub IsBaseEquation : List Entry → Work → Term → Option Name → Option TermId → Type 0
IsBaseEquation history work t None None = ⊤
IsBaseEquation history work t None (Some e) = ⊥
IsBaseEquation history work t (Some b) None = ⊥
IsBaseEquation history work t (Some b) (Some e) = IsTermIn history work e × (term_at work.bank e ≡ equal_term t (Function b))

-- the variable, the calls of the shell's accessors on it, and the constructor's call of these
pub record IsMade (history : List Entry) (work : Work) (s : Shell) (x : Name) (m : Made) : Type 0 where
  pub variable : IsIdOf work.bank m.variable (Variable x)
  pub calls : terms_at work.bank m.calls.items ≡ accessed (Variable x) s.parts
  pub stand : All (Stands work.bank) m.calls.items
  pub whole : IsIdOf work.bank m.whole (made_on (Variable x) s)

-- what the rule of a shell names of a term is over the history's functions
pub record IsShellOver (h : History) (s : Shell) (t : Term) : Type 0 where
  pub made : IsOver h (made_on t s)
  pub calls : Each (IsOver h) (accessed t s.parts)
  pub recognized : IsOver h (recognizes s t)
  pub base : (b : Name) → s.base ≡ Some b → IsOver h (Function b)
