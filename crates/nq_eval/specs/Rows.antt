-- Rows of the tables of axioms, with terms in place of their variables.
use Rattle.std.specs.Prelude.{◌≡◌, ℕ, true, List, Option, Some, IsSome, All}
use Rattle.nq_logic.specs.Terms.{Substitution, Each}
use Rattle.nq_logic.specs.Ground.{symbols_of}
use Rattle.nq_proof.specs.Clauses.{Clause, distinct}
use Rattle.nq_proof.specs.Rules.{given, is_substitution, pair_terms}
use Rattle.nq_proof.specs.Rows.{axiom_clause}
use Rattle.nq_rule.specs.Results.{instance_of}
use Rattle.nq_bank.specs.declared.node.Sym.{Sym}
use Rattle.nq_bank.specs.Content.{Content, text_at}
use Rattle.nq_clause.specs.declared.substitution.Pair.{Pair}
use Rattle.nq_clause.specs.Substitution.{substitution_at, PairStands}
use Rattle.nq_history.specs.declared.entry.Entry.{Entry}
use Rattle.nq_history.specs.Events.{events_at}
use Rattle.nq_kernel.specs.Over.{IsVariable, IsTermOf, pair_names}
use Rattle.nq_eval.specs.Lines.{IsShallow}

-- the clause of a row
abbrev pub row_at : Content → List Entry → Sym → ℕ → Option Clause
row_at bank history name row = given (axiom_clause (events_at bank history) (text_at bank name) row 0) (λ c. Some (distinct c))

-- the same, with terms in place of its variables
abbrev pub row_instance : Content → List Entry → Sym → ℕ → Substitution → Option Clause
row_instance bank history name row s = given (row_at bank history name row) (λ c. Some (instance_of s c))

-- there is such a row, and neither it nor its instance has a term that is too deep
pub record HasRow (bank : Content) (history : List Entry) (name : Sym) (row : ℕ) (s : Substitution) : Type 0 where
  pub there : IsSome (row_at bank history name row)
  pub shallow : IsShallow (row_at bank history name row)
  pub instance : IsShallow (row_instance bank history name row s)

-- these are distinct variables that a log can spell, each with a term over the history's functions
pub record ArePairsIn (bank : Content) (history : List Entry) (pairs : List Pair) : Type 0 where
  pub stand : All (PairStands bank) pairs
  pub distinct : is_substitution (substitution_at bank pairs) ≡ true
  pub terms : Each (IsTermOf IsVariable (symbols_of (events_at bank history))) (pair_terms (substitution_at bank pairs))
  pub names : Each IsVariable (pair_names (substitution_at bank pairs))
