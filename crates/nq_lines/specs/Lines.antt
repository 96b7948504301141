-- Lines whose literals are among some terms.
use Rattle.std.specs.Prelude.{◌≡◌, ℕ, List, ◌∷◌, Option, Some}
use Rattle.nq_logic.specs.Terms.{Term, IsAmong}
use Rattle.nq_logic.specs.Words.{not_term, equal_term}
use Rattle.nq_bank.specs.declared.node.TermId.{TermId}
use Rattle.nq_bank.specs.Content.{Stands}
use Rattle.nq_history.specs.declared.entry.Entry.{Entry}
use Rattle.nq_bank.specs.Parts.{parts_of}
use Rattle.nq_proof.specs.Clauses.{Clause, literal_at}
use Rattle.nq_rule.specs.Results.{with_argument}
use Rattle.nq_proof.specs.Paths.{replaced_at}
use Rattle.nq_proof.specs.Rules.{Side, Forwards, Backwards, used_equation}
use Rattle.nq_kernel.specs.declared.work.Work.{Work}
use Rattle.nq_kernel.specs.Meaning.{clause_at}
use Rattle.nq_kernel.specs.Over.{TermIsIn}
use Rattle.nq_kernel.specs.Growing.{LineHolds}

-- each of the first is among the second
abbrev pub AreAmong : List Term → List Term → Type 0
AreAmong c d = (t : Term) → IsAmong t c → IsAmong t d

-- there is a clause, and each of its literals is among these
pub record HasOnly (clause : Option Clause) (these : List Term) : Type 0 where
  pub literals : Clause
  pub stands : clause ≡ Some literals
  pub only : AreAmong literals these

-- line n stands, and each of its literals is among these
abbrev pub LineHasOnly : Work → ℕ → List Term → Type 0
LineHasOnly work n these = HasOnly (clause_at work.bank work.log n) these

-- line n stands and begins with t, and each further literal is among these
pub record LineLeads (work : Work) (n : ℕ) (t : Term) (these : List Term) : Type 0 where
  pub rest : Clause
  pub holds : LineHolds work n (t ∷ rest)
  pub only : AreAmong rest these

-- the id stands, and its term is over the functions of the history, with variables that a log can spell
pub record IsTermIn (history : List Entry) (work : Work) (t : TermId) : Type 0 where
  pub stands : Stands work.bank t
  pub over : TermIsIn work.bank history t

-- line n is cut by t from the lines a and b
abbrev pub CutsTo : Work → Work → Term → ℕ → ℕ → ℕ → Type 0
CutsTo old new t a b n = (these : List Term) → LineHasOnly old a (t ∷ these) → LineHasOnly old b (not_term t ∷ these) → LineHasOnly new n these

-- the first literal of the line has a place at this path
pub record CanReplace (work : Work) (line : ℕ) (path : List ℕ) (u : Term) : Type 0 where
  pub first : Term
  pub these : Clause
  pub leads : LineLeads work line first these
  pub change : Term × Term
  pub changed : replaced_at path u first ≡ Some change

-- line n is another, with u in the place at a path of its first literal, and then the equation
abbrev pub ReplacesTo : Work → Work → ℕ → List ℕ → Term → Side → ℕ → Type 0
ReplacesTo old new line path u side n =
    (first : Term) (change : Term × Term) (these : List Term) → LineLeads old line first these → replaced_at path u first ≡ Some change →
    LineLeads new n change.1 (used_equation side change.0 u ∷ these)

-- literal k of line n, counted from 1, is t
pub record IsLiteralAt (work : Work) (n k : ℕ) (t : Term) : Type 0 where
  pub literals : Clause
  pub holds : LineHolds work n literals
  pub at : literal_at k literals ≡ Some t

-- t is no literal of line n
abbrev pub LacksLiteral : Work → ℕ → Term → Type 0
LacksLiteral work n t = (c : Clause) → LineHolds work n c → IsAmong t c → ⊥

-- line n is another with made and a hypothesis for the literal given
abbrev pub MakesUnder : Work → Work → Term → Term → Term → ℕ → ℕ → Type 0
MakesUnder old new given made hypothesis line n = (these : List Term) → LineHasOnly old line (given ∷ these) → LineHasOnly new n (made ∷ hypothesis ∷ these)

-- line n is another with u in the place at a path of a literal, and with the equation
abbrev pub ReplacesAnywhere : Work → Work → ℕ → Term → List ℕ → Term → Side → ℕ → Type 0
ReplacesAnywhere old new line literal path u side n =
    (change : Term × Term) → replaced_at path u literal ≡ Some change → MakesUnder old new literal change.1 (used_equation side change.0 u) line n

-- the equation of t and u that a replacement of t by u uses
abbrev pub equation_of : Side → Term → Term → Term
equation_of Forwards t u = equal_term t u
equation_of Backwards t u = equal_term u t

-- line n is another without the hypothesis of an equation that a line shows
abbrev pub DischargesTo : Work → Work → Side → Term → Term → ℕ → ℕ → ℕ → Type 0
DischargesTo old new side t u line equation n =
    (these : List Term) → LineHasOnly old line (used_equation side t u ∷ these) → LineHasOnly old equation (equation_of side t u ∷ these) →
    LineHasOnly new n these

-- line n is another with u for the literal t
abbrev pub RewritesTo : Work → Work → Side → Term → Term → ℕ → ℕ → ℕ → Type 0
RewritesTo old new side t u line equation n =
    (these : List Term) → LineHasOnly old line (t ∷ these) → LineHasOnly old equation (equation_of side t u ∷ these) → LineHasOnly new n (u ∷ these)

-- line n is another with (NOT u) for the literal (NOT t)
abbrev pub RewritesDenial : Work → Work → Side → Term → Term → ℕ → ℕ → ℕ → Type 0
RewritesDenial old new side t u line equation n =
    (these : List Term) → LineHasOnly old line (not_term t ∷ these) → LineHasOnly old equation (equation_of side t u ∷ these) → LineHasOnly new n (not_term u ∷ these)

-- line n is another with (EQUAL u t) for the literal (EQUAL t u)
abbrev pub TurnsTo : Work → Work → Term → Term → ℕ → ℕ → Type 0
TurnsTo old new t u line n = (these : List Term) → LineHasOnly old line (equal_term t u ∷ these) → LineHasOnly new n (equal_term u t ∷ these)

-- line n has (EQUAL t v), from a line with (EQUAL t u) and one with (EQUAL u v)
abbrev pub JoinsTo : Work → Work → Term → Term → Term → ℕ → ℕ → ℕ → Type 0
JoinsTo old new t u v first second n =
    (these : List Term) → LineHasOnly old first (equal_term t u ∷ these) → LineHasOnly old second (equal_term u v ∷ these) → LineHasOnly new n (equal_term t v ∷ these)

-- line n has the equation of a call and the call with u at a place, from a line with the equation of what stands there and u
abbrev pub CarriesTo : Work → Work → ℕ → Term → Term → ℕ → ℕ → Type 0
CarriesTo old new place t u equation n =
    (a : Term) (these : List Term) → literal_at place (parts_of t) ≡ Some a → LineHasOnly old equation (equal_term a u ∷ these) →
    LineHasOnly new n (equal_term t (with_argument place u t) ∷ these)

-- line n is another with made for the literal given
abbrev pub MakesOf : Work → Work → Term → Term → ℕ → ℕ → Type 0
MakesOf old new given made line n = (these : List Term) → LineHasOnly old line (given ∷ these) → LineHasOnly new n (made ∷ these)

-- line n has (EQUAL t v), from a line with (EQUAL t u) and one with (EQUAL v u)
abbrev pub MeetsIn : Work → Work → Term → Term → Term → ℕ → ℕ → ℕ → Type 0
MeetsIn old new t u v first second n =
    (these : List Term) → LineHasOnly old first (equal_term t u ∷ these) → LineHasOnly old second (equal_term v u ∷ these) → LineHasOnly new n (equal_term t v ∷ these)
