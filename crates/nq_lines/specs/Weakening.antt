-- Lines that gain a literal.
use Rattle.std.specs.Prelude.{ℕ, [], ◌∷◌}
use Rattle.nq_logic.specs.Terms.{Term}
use Rattle.nq_proof.specs.Clauses.{Clause}
use Rattle.nq_rule.specs.Results.{weaker_of}
use Rattle.nq_kernel.specs.declared.work.Work.{Work}
use Rattle.nq_kernel.specs.Growing.{LineHolds}

-- line n has the literals of another, and then t
abbrev pub WeakensTo : Work → Work → ℕ → Term → ℕ → Type 0
WeakensTo old new line t n = (c : Clause) → LineHolds old line c → LineHolds new n (weaker_of (t ∷ []) c)
