-- What the terms of hints are over.
use Rattle.std.specs.Prelude.{All, IfSome, List}
use Rattle.nq_bank.specs.Content.{Content, text_at}
use Rattle.nq_clause.specs.declared.substitution.Pair.{Pair}
use Rattle.nq_history.specs.declared.entry.Entry.{Entry}
use Rattle.nq_history.specs.declared.hints.Hints.{Hints}
use Rattle.nq_kernel.specs.Over.{IsVariable, TermIsIn}

-- the pair's term is over the history's functions, and its variables are such as a log can spell
pub record PairIsIn (bank : Content) (history : List Entry) (p : Pair) : Type 0 where
  pub variable : IsVariable (text_at bank p.variable)
  pub term : TermIsIn bank history p.term

-- so are all terms of the hints
pub record HintsAreIn (bank : Content) (history : List Entry) (hints : Hints) : Type 0 where
  pub instances : All (λ i. All (PairIsIn bank history) i.pairs.items) hints.instances.items
  pub expand : All (TermIsIn bank history) hints.expand.items
  pub induct : IfSome hints.induct (λ t. TermIsIn bank history t)
