-- Numbered variables that are new to literals.
use Rattle.std.specs.Prelude.{◌≡◌, ◌≤◌, ◌<◌, ℕ, true, List}
use Rattle.nq_bank.specs.declared.node.TermId.{TermId}
use Rattle.nq_bank.specs.declared.node.Sym.{Sym}
use Rattle.nq_bank.specs.Content.{text_at, terms_at}
use Rattle.nq_kernel.specs.declared.work.Work.{Work}
use Rattle.nq_goals.specs.NewVariables.{numbered}
use Rattle.nq_moves.specs.declared.numbering.Numbered.{Numbered}
use Rattle.nq_moves.specs.Naming.{occurs_in_one, IsNewName}

-- the name of the variable of this number, which stands in none of the literals
pub record IsNewAt (work : Work) (literals : List TermId) (number : ℕ) (s : Sym) : Type 0 where
  pub name : IsNewName work literals s
  pub reads : text_at work.bank s ≡ numbered number

-- the first number from one on whose variable stands in none of the literals, and its name
pub record IsNext (work : Work) (literals : List TermId) (first : ℕ) (n : Numbered) : Type 0 where
  pub new : IsNewAt work literals n.number n.name
  pub least : first ≤ n.number
  pub used : (k : ℕ) → first ≤ k → k < n.number → occurs_in_one (numbered k) (terms_at work.bank literals) ≡ true
