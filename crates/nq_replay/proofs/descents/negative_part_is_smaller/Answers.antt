use Rattle.nq_replay.specs.LawClauses.{negative_part_is_smaller_clause, less_than_one_more_clause}
use Rattle.nq_replay.proofs.LawLemmas.{known_stands, known_law, by_table_of_one}
use Rattle.nq_replay.proofs.descents.negative_part_is_smaller.Goals as goal

pub replay-requires-clause-known : goal.replay-requires-clause-known
replay-requires-clause-known c = known_stands c.args.work.now c.args.line less_than_one_more_clause c.requires.line

pub replay-requires-clause-law : goal.replay-requires-clause-law
replay-requires-clause-law c = known_law c.args.work.now c.args.line c.negative_part_is_smaller_law-law.result less_than_one_more_clause negative_part_is_smaller_clause c.requires.line c.negative_part_is_smaller_law-law.ensures

pub returns-clause-line : goal.returns-clause-line
returns-clause-line c =
    by_table_of_one c.args.work.now c.replay.new.work c.replay.result c.args.line c.negative_part_is_smaller_law-law.result less_than_one_more_clause negative_part_is_smaller_clause c.requires.line c.negative_part_is_smaller_law-law.ensures c.replay.ensures.line
