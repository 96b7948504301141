-- The cases of terms of a bank.
use Rattle.std.specs.declared.alloc.Global.{Global}
use Rattle.std.specs.Prelude.{◌≡◌, ◌≤◌, List, ◌++◌, All, Vec, map, length}
use Rattle.nq_logic.specs.Terms.{Term, Each}
use Rattle.nq_bank.specs.declared.node.TermId.{TermId}
use Rattle.nq_bank.specs.Content.{Content, Stands, terms_at}
use Rattle.nq_proof.specs.Clauses.{Clause}
use Rattle.nq_cases.specs.Paths.{paths_of, IsIfFree}
use Rattle.nq_cases.specs.Splits.{SplitsTo, AreCasesOf}

-- lists of ids, each a clause
abbrev pub Clauses : Type 0
Clauses = List (Vec TermId Global)

abbrev pub clauses_at : Content → Clauses → List Clause
clauses_at bank clauses = map (λ c. terms_at bank c.items) clauses

-- the ids of each clause stand in the bank
abbrev pub ClausesStand : Content → Clauses → Type 0
ClausesStand bank clauses = All (λ c. All (Stands bank) c.items) clauses

-- none of the terms has an IF
abbrev pub AreFree : Content → List TermId → Type 0
AreFree bank ids = Each IsIfFree (terms_at bank ids)

-- after these clauses stand clauses without IF at which splits of the goal end
pub record AddsCases (bank : Content) (goal : Clause) (before : List Clause) (after : Clauses) : Type 0 where
  pub nexts : List Clause
  pub whole : clauses_at bank after ≡ before ++ nexts
  pub splits : SplitsTo goal nexts
  pub free : Each (Each IsIfFree) nexts
  pub stand : ClausesStand bank after

-- these are clauses without IF at which splits of the term end, at most one for each path of it
pub record IsCases (bank : Content) (t : Term) (cases : Clauses) : Type 0 where
  pub stand : ClausesStand bank cases
  pub are : AreCasesOf t (clauses_at bank cases)
  pub count : length cases ≤ paths_of t
