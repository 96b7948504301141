use Rattle.nq_replay.specs.LawClauses.{less_is_transitive_clause, size_falls_clause}
use Rattle.nq_replay.proofs.LawLemmas.{known_stands, known_law, by_table_of_one}
use Rattle.nq_replay.proofs.descents.less_is_transitive.Goals as goal

pub replay-requires-clause-known : goal.replay-requires-clause-known
replay-requires-clause-known c = known_stands c.args.work.now c.args.line size_falls_clause c.requires.line

pub replay-requires-clause-law : goal.replay-requires-clause-law
replay-requires-clause-law c = known_law c.args.work.now c.args.line c.less_is_transitive_law-law.result size_falls_clause less_is_transitive_clause c.requires.line c.less_is_transitive_law-law.ensures

pub returns-clause-line : goal.returns-clause-line
returns-clause-line c =
    by_table_of_one c.args.work.now c.replay.new.work c.replay.result c.args.line c.less_is_transitive_law-law.result size_falls_clause less_is_transitive_clause c.requires.line c.less_is_transitive_law-law.ensures c.replay.ensures.line
