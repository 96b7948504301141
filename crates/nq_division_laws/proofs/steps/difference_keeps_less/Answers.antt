use Rattle.std.proofs.Common.{[], ◌∷◌}
use Rattle.nq_replay.specs.LawClauses.{less_is_transitive_clause}
use Rattle.nq_division_laws.specs.LawClauses.{difference_is_less_clause, difference_keeps_less_clause}
use Rattle.nq_division_laws.proofs.LawLemmas.{two_stand, two_law, by_table_of_two}
use Rattle.nq_division_laws.proofs.steps.difference_keeps_less.Goals as goal

pub replay-requires-clause-known : goal.replay-requires-clause-known
replay-requires-clause-known c = two_stand c.args.work.now c.args.first c.args.second difference_is_less_clause less_is_transitive_clause c.requires.first c.requires.second

pub replay-requires-clause-law : goal.replay-requires-clause-law
replay-requires-clause-law c = two_law c.args.work.now c.args.first c.args.second c.difference_keeps_less_law-law.result difference_is_less_clause less_is_transitive_clause difference_keeps_less_clause c.requires.first c.requires.second c.difference_keeps_less_law-law.ensures

pub returns-clause-line : goal.returns-clause-line
returns-clause-line c =
    by_table_of_two c.args.work.now c.replay.new.work c.replay.result c.args.first c.args.second c.difference_keeps_less_law-law.result difference_is_less_clause less_is_transitive_clause difference_keeps_less_clause c.requires.first c.requires.second c.difference_keeps_less_law-law.ensures c.replay.ensures.line
