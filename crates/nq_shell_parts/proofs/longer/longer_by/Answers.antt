use Rattle.std.proofs.Common.{[], ◌∷◌, ap, ◌∙◌}
use Rattle.std.specs.Prelude.{is_some}
use Rattle.nq_replay.specs.LawClauses.{less_is_transitive_clause, less_than_one_more_clause, size_falls_clause}
use Rattle.nq_replay.specs.Parts.{lines_held}
use Rattle.nq_replay.specs.Replaying.{law_clause}
use Rattle.nq_replay.proofs.LawLemmas.{by_table}
use Rattle.nq_shell_parts.specs.LawClauses.{less_than_longer_sum_clause}
use Rattle.nq_shell_parts.proofs.LongerLemmas.{three_held, three_stand}
use Rattle.nq_shell_parts.proofs.longer.longer_by.Goals as goal

pub replay-requires-clause-known : goal.replay-requires-clause-known
replay-requires-clause-known c = λ k d below. three_stand c.args.work.now c.args.falls c.args.transitive c.args.one size_falls_clause less_is_transitive_clause less_than_one_more_clause c.requires.falls c.requires.transitive c.requires.one k d below

pub replay-requires-clause-law : goal.replay-requires-clause-law
replay-requires-clause-law c =
    ap is_some (ap (law_clause c.less_than_longer_sum_law-law.result) (three_held c.args.work.now c.args.falls c.args.transitive c.args.one size_falls_clause less_is_transitive_clause less_than_one_more_clause c.requires.falls c.requires.transitive c.requires.one) ∙ c.less_than_longer_sum_law-law.ensures)

pub returns-clause-line : goal.returns-clause-line
returns-clause-line c =
    by_table c.replay.new.work c.replay.result c.less_than_longer_sum_law-law.result (lines_held c.args.work.now (c.args.falls ∷ c.args.transitive ∷ c.args.one ∷ [])) less_than_longer_sum_clause
    (ap (law_clause c.less_than_longer_sum_law-law.result) (three_held c.args.work.now c.args.falls c.args.transitive c.args.one size_falls_clause less_is_transitive_clause less_than_one_more_clause c.requires.falls c.requires.transitive c.requires.one) ∙ c.less_than_longer_sum_law-law.ensures) c.replay.ensures.line
