-- What the moves' definitions promise.
use Rattle.std.specs.Prelude.{◌≡◌, ℕ, All, ◌≤◌, ◌⊎◌, suc, false, Some, None, List, [], ◌∷◌, ◌++◌, length}
use Rattle.nq_logic.specs.Terms.{Name, Term, Variable, IsAmong, Substitution, substituted, call}
use Rattle.nq_logic.specs.Numerals.{number_of}
use Rattle.nq_logic.specs.Admissible.{AreDistinct}
use Rattle.nq_bank.specs.Parts.{occurs, parts_of}
use Rattle.nq_logic.specs.Words.{not_term, equal_term}
use Rattle.nq_logic.specs.Histories.{History}
use Rattle.nq_bank.specs.declared.node.TermId.{TermId}
use Rattle.nq_bank.specs.Content.{Content, Stands, Grows, terms_at}
use Rattle.nq_proof.specs.Clauses.{Clause, literal_at}
use Rattle.nq_rule.specs.Results.{with_argument}
use Rattle.nq_events.specs.Events.{Hints}
use Rattle.nq_moves.specs.declared.moved.Moved.{Moved}
use Rattle.nq_goals.specs.Substituting.{Substituting, substitutions_of, SubstituteMove}
use Rattle.nq_goals.specs.Dropping.{DropMove}
use Rattle.nq_moves.specs.Found.{IsSubstituted, goals_at}
use Rattle.nq_moves.specs.Dropped.{IsDropped}
use Rattle.nq_goals.specs.Replacing.{exchanged}
use Rattle.nq_goals.specs.Generalizing.{exchange_of}
use Rattle.nq_logic.specs.Names.{has_name}
use Rattle.nq_goals.specs.NewVariables.{new_variables}

-- each variable's term
abbrev pub terms_for : List Name → List Term → Substitution
terms_for [] ts = []
terms_for (x ∷ xs) [] = []
terms_for (x ∷ xs) (t ∷ ts) = (x, t) ∷ terms_for xs ts

-- no variable of these stands in the term
abbrev pub AreNew : List Name → Term → Type 0
AreNew xs t = (x : Name) → IsAmong x xs → occurs x t ≡ false

-- where distinct variables that do not stand in a term have taken other terms' places in it, an instance gives the term back
abbrev pub ExchangedBack : Type 0
ExchangedBack = (ts : List Term) (xs : List Name) (t : Term) → AreDistinct xs → AreNew xs t → substituted (terms_for xs ts) (exchanged (exchange_of ts xs) t) ≡ t

-- a candidate of SUBST is a literal of the goal that denies an equation of the variable and the term, in one order or the other
pub record IsEquation (goal : Clause) (s : Substituting) : Type 0 where
  pub among : IsAmong s.literal goal
  pub reads : (s.literal ≡ not_term (equal_term (Variable s.variable) s.term)) ⊎ (s.literal ≡ not_term (equal_term s.term (Variable s.variable)))
  pub apart : occurs s.variable s.term ≡ false

abbrev pub CandidatesAreEquations : Type 0
CandidatesAreEquations = (goal : Clause) (s : Substituting) → IsAmong s (substitutions_of goal) → IsEquation goal s

-- what the calls promise of ids is a move of the goals that these denote, on every path and under all hints
abbrev pub SubstitutedIsMove : Type 0
SubstitutedIsMove =
    (old new : Content) (h : History) (hints : Hints) (path : List Clause) (goal : List TermId) (moved : Moved) → IsSubstituted old new goal moved → SubstituteMove h hints path (terms_at old goal) (goals_at new moved.children.items)

abbrev pub DroppedIsMove : Type 0
DroppedIsMove =
    (bank : Content) (h : History) (hints : Hints) (path : List Clause) (goal : List TermId) (moved : Moved) → IsDropped bank h goal moved → DropMove h hints path (terms_at bank goal) (goals_at bank moved.children.items)

-- p is the next argument of the whole after these, and with v there it is the call of v after them
pub record IsNextArgument (f : Name) (done rest : List Term) (p v whole : Term) : Type 0 where
  pub at : literal_at (suc (length done)) (parts_of whole) ≡ Some p
  pub made : with_argument (suc (length done)) v whole ≡ call f (done ++ v ∷ rest)

-- the arguments of a call that is no numeral are replaced one after the other
abbrev pub ArgumentsFollow : Type 0
ArgumentsFollow = (f : Name) (done rest : List Term) (p v whole : Term) → whole ≡ call f (done ++ p ∷ rest) → number_of whole ≡ None → IsNextArgument f done rest p v whole

-- a call of several arguments is no numeral
abbrev pub SeveralAreNoNumeral : Type 0
SeveralAreNoNumeral = (f : Name) (ts : List Term) → 2 ≤ length ts → number_of (call f ts) ≡ None

-- new variables are distinct, none of the used ones, and as many as are asked for
pub record AreNewNames (used : List Name) (count : ℕ) : Type 0 where
  pub distinct : AreDistinct (new_variables used count)
  pub unused : (x : Name) → IsAmong x (new_variables used count) → has_name x used ≡ false
  pub many : length (new_variables used count) ≡ count

abbrev pub NewVariablesAreNew : Type 0
NewVariablesAreNew = (used : List Name) (count : ℕ) → AreNewNames used count

-- a move of SUBST that was made lasts while the bank grows
abbrev pub SubstitutedLasts : Type 0
SubstitutedLasts =
    (old new later : Content) (goal : List TermId) (moved : Moved) → Grows old new → Grows new later → All (Stands old) goal → IsSubstituted old new goal moved → IsSubstituted later later goal moved
