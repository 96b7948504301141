-- Lines whose literals are among some terms.
use Rattle.std.specs.Prelude.{◌≡◌, ℕ, Bool, true, false, List, ◌∷◌, Option, Some}
use Rattle.nq_logic.specs.Terms.{Term, IsAmong}
use Rattle.nq_logic.specs.Words.{not_term, if_term}
use Rattle.nq_logic.specs.Histories.{Definition}
use Rattle.nq_logic.specs.Ground.{and_definition, or_definition, implies_definition, iff_definition}
use Rattle.nq_bank.specs.declared.node.TermId.{TermId}
use Rattle.nq_bank.specs.Content.{Content, term_at, terms_at}
use Rattle.nq_history.specs.declared.entry.Entry.{Entry}
use Rattle.nq_rule.specs.declared.branching.Branches.{Branches}
use Rattle.nq_rule.specs.Conclusions.{IsDeep}
use Rattle.nq_fragments.specs.declared.connective.Connective.{Connective}
use Rattle.nq_fragments.specs.declared.connective.Connective.TheVariants.{And, Or, Implies, Iff}
use Rattle.nq_proof.specs.Clauses.{Clause}
use Rattle.nq_kernel.specs.declared.work.Work.{Work}
use Rattle.nq_kernel.specs.Meaning.{clause_at}
use Rattle.nq_kernel.specs.Growing.{WorkGrows}

-- each of the first is among the second
abbrev pub AreAmong : List Term → List Term → Type 0
AreAmong c d = (t : Term) → IsAmong t c → IsAmong t d

-- there is a clause, and each of its literals is among these
pub record HasOnly (clause : Option Clause) (these : List Term) : Type 0 where
  pub literals : Clause
  pub stands : clause ≡ Some literals
  pub only : AreAmong literals these

-- line n stands, and each of its literals is among these
abbrev pub LineHasOnly : Work → ℕ → List Term → Type 0
LineHasOnly work n these = HasOnly (clause_at work.bank work.log n) these

-- the term or its NOT, as it is true or false
abbrev pub signed : Bool → Term → Term
signed true t = t
signed false t = not_term t

-- the literal that is false where the term is true or false
abbrev pub denial : Bool → Term → Term
denial true t = not_term t
denial false t = t

-- line n has only t or its NOT, as t is true or false, and these literals
abbrev pub Says : Work → ℕ → Bool → TermId → List TermId → Type 0
Says work n value t others = LineHasOnly work n (signed value (term_at work.bank t) ∷ terms_at work.bank others)

-- no term of the clause is too deep
pub record IsShallow (clause : Option Clause) : Type 0 where
  pub not_deep : IsDeep clause → ⊥

-- the work grew, and no step was counted
pub record GrowsUncounted (history : List Entry) (old new : Work) : Type 0 where
  pub grows : WorkGrows history old new
  pub uncounted : new.counter ≡ old.counter

-- the definition of a connective
abbrev pub definition_of : Connective → Definition
definition_of And = and_definition
definition_of Or = or_definition
definition_of Implies = implies_definition
definition_of Iff = iff_definition

-- the IF of these parts
abbrev pub if_at : Content → Branches → Term
if_at bank parts = if_term (term_at bank parts.test) (term_at bank parts.first) (term_at bank parts.second)
