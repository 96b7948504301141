-- Definitions over a bank, and the axioms that open them.
use Rattle.std.specs.Prelude.{ℕ, ◌==◌, true, false, List, [], ◌∷◌, map, All, Option, Some, None}
use Rattle.nq_logic.specs.Terms.{Term, Variable, call}
use Rattle.nq_logic.specs.Words.{equal_term}
use Rattle.nq_bank.specs.Content.{Content, Stands, IsNamed, text_at, term_at}
use Rattle.nq_bank.specs.Shells.{texts_at}
use Rattle.nq_proof.specs.Clauses.{Clause}
use Rattle.nq_axiom.specs.declared.openings.Definition.{Definition}

-- (EQUAL call body)
abbrev pub opened : Content → Definition → Clause
opened bank d = equal_term (call (text_at bank d.function) (map Variable (texts_at bank d.formals.now))) (term_at bank d.body) ∷ []

-- the names and the body of the definition stand in the bank
pub record DefinitionStands (bank : Content) (d : Definition) : Type 0 where
  pub function : IsNamed bank d.function
  pub formals : All (IsNamed bank) d.formals.now
  pub body : Stands bank d.body

-- the opening of a definition stands in row 1
abbrev pub opening_in : ℕ → Option Clause → Option Clause
opening_in row None = None
opening_in row (Some c) = elim (row == 1) as (λ b. Option (List Term)) [ true ↦ Some c | false ↦ None ]
