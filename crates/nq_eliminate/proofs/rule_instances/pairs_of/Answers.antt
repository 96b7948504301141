use Rattle.std.proofs.Common.{◌∙◌, ◌++◌, ap, sym, subst}
use Rattle.std.specs.Prelude.{All}
use Rattle.nq_clause.specs.Substitution.{PairStands, substitution_at}
use Rattle.nq_goals.specs.Eliminating.{renaming}
use Rattle.nq_eliminate.proofs.NamingLemmas.{no_pair_stands}
use Rattle.nq_eliminate.proofs.rule_instances.pairs_of.Goals as goal

pub put_pairs-requires-clause-pairs : goal.put_pairs-requires-clause-pairs
put_pairs-requires-clause-pairs c = subst (All (PairStands c.args.bank.now)) (sym c.new-pairs.ensures.items) (no_pair_stands c.args.bank.now)

pub returns-clause-are : goal.returns-clause-are
returns-clause-are c = λ xs ys own named. c.in_ok-put_pairs.ensures.more xs ys own named ∙ ap (λ ps. substitution_at c.args.bank.now ps ++ renaming xs ys) c.new-pairs.ensures.items
