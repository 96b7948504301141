-- Clauses of ids, and the axioms that are too deep for a bank.
use Rattle.std.specs.Prelude.{ℕ, List, All, Option, Some, None, Vec}
use Rattle.std.specs.declared.alloc.Global.{Global}
use Rattle.nq_logic.specs.Terms.{Term}
use Rattle.nq_logic.specs.Histories.{Shell}
use Rattle.nq_logic.specs.Shells.{IsShellClause}
use Rattle.nq_bank.specs.declared.node.TermId.{TermId}
use Rattle.nq_bank.specs.Content.{Content, Stands, terms_at}
use Rattle.nq_steps.specs.Steps.{HasDeep}

-- the terms of a clause, if there is one
abbrev pub clause_at : Content → Option (Vec TermId Global) → Option (List Term)
clause_at bank None = None
clause_at bank (Some c) = Some (terms_at bank c.items)

abbrev pub ClauseStands : Content → Option (Vec TermId Global) → Type 0
ClauseStands bank None = Unit {0}
ClauseStands bank (Some c) = All (Stands bank) c.items

-- there is an axiom, and a literal of it is too deep
abbrev pub HasDeepLiteral : Option (List Term) → Type 0
HasDeepLiteral None = ⊥
HasDeepLiteral (Some ts) = HasDeep ts

-- the axiom in this row of the table for the shell s, or nothing where there is none
abbrev pub IsAxiom : Content → List Shell → Shell → ℕ → ℕ → Option (Vec TermId Global) → Type 0
IsAxiom bank earlier s row i None = (c : List Term) → IsShellClause earlier s row i c → ⊥
IsAxiom bank earlier s row i (Some c) = IsShellClause earlier s row i (terms_at bank c.items)
