use Rattle.nq_bank.specs.Content.{terms_at}
use Rattle.nq_waterfall.specs.Trails.{goals_at}
use Rattle.nq_legal.proofs.ClosingLemmas.{lines_stand, way_counted, way_closed}
use Rattle.nq_legal.proofs.closing.close_simplified.Goals as goal

pub close-requires-clause-lines : goal.close-requires-clause-lines
close-requires-clause-lines c = lines_stand c.args.work.now (goals_at c.args.work.now.bank c.args.nexts.now) c.args.lines.now c.requires.lines

pub close-requires-clause-count : goal.close-requires-clause-count
close-requires-clause-count c =
    way_counted c.args.work.now c.args.steps.now (terms_at c.args.work.now.bank c.args.goal.now) (goals_at c.args.work.now.bank c.args.nexts.now) c.args.lines.now c.requires.leads c.requires.lines

pub returns-clause-line : goal.returns-clause-line
returns-clause-line c =
    way_closed c.args.work.now c.close.new.work c.args.steps.now (terms_at c.args.work.now.bank c.args.goal.now) (goals_at c.args.work.now.bank c.args.nexts.now) c.args.lines.now c.close.result c.requires.leads c.requires.lines c.close.ensures.line
