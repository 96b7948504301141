use Rattle.nq_bank.specs.Content.{terms_at}
use Rattle.nq_lines.proofs.LineLemmas.{only_stands}
use Rattle.nq_reduce.proofs.StepLemmas.{right_rewritten}
use Rattle.nq_reduce.proofs.equations.by_right.Goals as goal

pub symmetric-requires-clause-line : goal.symmetric-requires-clause-line
symmetric-requires-clause-line c = only_stands c.args.work.now c.args.fact.line _ c.requires.fact.line

pub returns-clause-ok : goal.returns-clause-ok
returns-clause-ok c = right_rewritten c.args.history.now c.args.work.now c.symmetric.new.work (terms_at c.args.work.now.bank c.args.assumed.now) c.args.t c.args.fact c.args.sides c.in_ok-line.line c.requires.can.stands c.symmetric.ensures.grows c.requires.fact c.requires.sides c.requires.same c.in_ok-line.ensures.line
