-- Clauses whose literals are variables and NOTs of variables.
use Rattle.std.specs.Prelude.{◌≡◌, ℕ, Bool, true, false, List, map}
use Rattle.nq_logic.specs.Terms.{Term, Variable}
use Rattle.nq_logic.specs.Words.{not_term}
use Rattle.nq_logic.specs.Names.{are_distinct}
use Rattle.nq_proof.specs.Clauses.{Clause}

-- a variable, denied or not
pub record Signed : Type 0 where
  pub name : List ℕ
  pub denied : Bool

abbrev pub literal : Signed → Term
literal s = elim s.denied as (λ b. Term) [ true ↦ not_term (Variable s.name) | false ↦ Variable s.name ]

abbrev pub literals : List Signed → Clause
literals ss = map literal ss

-- no variable stands in two of them
abbrev pub AreApart : List Signed → Type 0
AreApart ss = are_distinct (map (λ s. s.name) ss) ≡ true
