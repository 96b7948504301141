use Rattle.nq_replay.specs.LawClauses.{rest_by_no_atom_clause, rest_is_smaller_clause}
use Rattle.nq_replay.proofs.LawLemmas.{known_stands, known_law, by_table_of_one}
use Rattle.nq_replay.proofs.descents.rest_by_no_atom.Goals as goal

pub replay-requires-clause-known : goal.replay-requires-clause-known
replay-requires-clause-known c = known_stands c.args.work.now c.args.line rest_is_smaller_clause c.requires.line

pub replay-requires-clause-law : goal.replay-requires-clause-law
replay-requires-clause-law c = known_law c.args.work.now c.args.line c.rest_by_no_atom_law-law.result rest_is_smaller_clause rest_by_no_atom_clause c.requires.line c.rest_by_no_atom_law-law.ensures

pub returns-clause-line : goal.returns-clause-line
returns-clause-line c =
    by_table_of_one c.args.work.now c.replay.new.work c.replay.result c.args.line c.rest_by_no_atom_law-law.result rest_is_smaller_clause rest_by_no_atom_clause c.requires.line c.rest_by_no_atom_law-law.ensures c.replay.ensures.line
