-- Terms in place of variables.
use Rattle.std.specs.Prelude.{ℕ, List}
use Rattle.nq_bank.specs.Content.{Content, NamesText, Stands}
use Rattle.nq_clause.specs.declared.substitution.Pair.{Pair}

-- the pair has a term for the variable of this text
pub record IsPair (bank : Content) (pair : Pair) (text : List ℕ) : Type 0 where
  pub name : NamesText bank pair.variable text
  pub term : Stands bank pair.term
