-- Pairs of variables and terms, as a rule asks for them.
use Rattle.std.proofs.Common.{List, [], ◌∷◌}
use Rattle.std.specs.Prelude.{All}
use Rattle.nq_logic.specs.Terms.{Each}
use Rattle.nq_logic.specs.Ground.{symbols_of}
use Rattle.nq_bank.proofs.NodesLemmas.{All-head, All-tail}
use Rattle.nq_clause.specs.declared.substitution.Pair.{Pair}
use Rattle.nq_clause.specs.Substitution.{substitution_at, PairStands}
use Rattle.nq_proof.specs.Rules.{pair_terms}
use Rattle.nq_history.specs.declared.entry.Entry.{Entry}
use Rattle.nq_history.specs.Events.{events_at}
use Rattle.nq_kernel.specs.declared.work.Work.{Work}
use Rattle.nq_kernel.specs.Over.{IsVariable, IsTermOf, pair_names}
use Rattle.nq_descents.specs.Pairs.{IsPairOver}

module _ (history : List Entry) (work : Work) where
  pub pairs_stand : (pairs : List Pair) → All (IsPairOver history work) pairs → All (PairStands work.bank) pairs
  pairs_stand pairs all = λ k d below. (all k d below).stands

  pub pairs_terms : (pairs : List Pair) → All (IsPairOver history work) pairs → Each (IsTermOf IsVariable (symbols_of (events_at work.bank history))) (pair_terms (substitution_at work.bank pairs))
  pairs_terms [] all = tt
  pairs_terms (p ∷ pairs) all = ((All-head (IsPairOver history work) p pairs all).term, pairs_terms pairs (All-tail (IsPairOver history work) p pairs all))

  pub pairs_names : (pairs : List Pair) → All (IsPairOver history work) pairs → Each IsVariable (pair_names (substitution_at work.bank pairs))
  pairs_names [] all = tt
  pairs_names (p ∷ pairs) all = ((All-head (IsPairOver history work) p pairs all).name, pairs_names pairs (All-tail (IsPairOver history work) p pairs all))
