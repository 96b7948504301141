use Rattle.nq_bank.specs.Content.{terms_at}
use Rattle.nq_search.specs.Goals.{goals_at}
use Rattle.nq_tactic.proofs.TacticLemmas.{lines_stand, way_counted, way_closed}
use Rattle.nq_tactic.proofs.closing.close_simplified.Goals as goal

pub close-requires-clause-lines : goal.close-requires-clause-lines
close-requires-clause-lines c = lines_stand c.args.work.now (goals_at c.args.work.now.bank c.args.simplified.now.nexts.items) c.args.lines.now c.requires.lines

pub close-requires-clause-count : goal.close-requires-clause-count
close-requires-clause-count c =
    way_counted c.args.work.now c.args.simplified.now.way (terms_at c.args.work.now.bank c.args.goal.now) (goals_at c.args.work.now.bank c.args.simplified.now.nexts.items) c.args.lines.now c.requires.way.leads c.requires.lines

pub returns-clause-line : goal.returns-clause-line
returns-clause-line c =
    way_closed c.args.work.now c.close.new.work c.args.simplified.now.way (terms_at c.args.work.now.bank c.args.goal.now) (goals_at c.args.work.now.bank c.args.simplified.now.nexts.items) c.args.lines.now c.close.result c.requires.way.leads c.requires.lines c.close.ensures.line
