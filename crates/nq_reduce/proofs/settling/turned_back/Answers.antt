use Rattle.nq_bank.specs.Content.{terms_at}
use Rattle.nq_lines.proofs.LineLemmas.{only_stands}
use Rattle.nq_reduce.proofs.StepLemmas.{turned_true}
use Rattle.nq_reduce.proofs.settling.turned_back.Goals as goal

pub symmetric-requires-clause-line : goal.symmetric-requires-clause-line
symmetric-requires-clause-line c = only_stands c.args.work.now c.args.known.line _ c.requires.known.shown

pub returns-in_ok-line-clause-known : goal.returns-in_ok-line-clause-known
returns-in_ok-line-clause-known c = turned_true c.args.history.now c.args.work.now c.symmetric.new.work (terms_at c.args.work.now.bank c.args.assumed.now) c.args.t c.args.sides c.args.turned c.args.known c.in_ok-line.line c.requires.sides c.requires.turned c.if-known.true c.requires.known c.in_ok-line.ensures.line
