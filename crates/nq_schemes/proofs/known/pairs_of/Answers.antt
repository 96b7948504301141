use Rattle.std.proofs.Common.{◌∙◌, List, sym, subst}
use Rattle.std.specs.Prelude.{All, IsTrue}
use Rattle.nq_clause.specs.declared.substitution.Pair.{Pair}
use Rattle.nq_clause.specs.Substitution.{PairStands, substitution_at}
use Rattle.nq_proof.specs.Rules.{is_substitution}
use Rattle.nq_schemes.proofs.KnownLemmas.{pairs_in}
use Rattle.nq_schemes.proofs.known.pairs_of.Goals as goal

pub are_distinct_variables-requires : goal.are_distinct_variables-requires
are_distinct_variables-requires c = subst (All (PairStands c.args.work.now.bank)) (sym c.as_slice.ensures.value) (λ k d below. (c.in_ok-pairs.ensures.pairs k d below).stands)

pub returns-then-are_distinct_variables-clause-pairs : goal.returns-then-are_distinct_variables-clause-pairs
returns-then-are_distinct_variables-clause-pairs c = pairs_in c.args.history.now c.args.work.now c.in_ok-pairs.pairs.items c.in_ok-pairs.ensures.pairs (subst (λ (xs : List Pair). IsTrue (is_substitution (substitution_at c.args.work.now.bank xs))) c.as_slice.ensures.value (sym c.are_distinct_variables.ensures ∙ c.if-are_distinct_variables.true))
