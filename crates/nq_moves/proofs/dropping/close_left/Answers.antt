use Rattle.nq_bank.specs.Content.{terms_at}
use Rattle.nq_moves.specs.Found.{goals_at}
use Rattle.nq_lines.proofs.LineLemmas.{only_more}
use Rattle.nq_moves.proofs.DroppingLemmas.{hold_one}
use Rattle.nq_moves.proofs.dropping.close_left.Goals as goal

pub returns-clause-line : goal.returns-clause-line
returns-clause-line c =
    let bank = c.args.work.now.bank in
    let m = c.requires.moved in
    only_more c.args.work.now _ m.child (terms_at bank c.args.goal.now) m.within (hold_one c.args.work.now (goals_at bank c.args.moved.now.children.items) m.child c.args.lines.now _ m.leads c.requires.lines)
