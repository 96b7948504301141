use Rattle.nq_bank.specs.Content.{terms_at}
use Rattle.nq_history.specs.Events.{events_at}
use Rattle.nq_goals.specs.Inducting.{suggesting_in}
use Rattle.nq_legal.proofs.LeavingLemmas.{left_for_want, none_suggest}
use Rattle.nq_legal.proofs.leaving.left_free.Goals as goal

pub returns-else-branch : goal.returns-else-branch
returns-else-branch c =
    let bank = c.args.bank.now in
    let h = c.args.history.now in
    left_for_want bank h c.args.hints.now c.args.path.now c.args.goal.now c.requires.free c.requires.stuck
    (none_suggest (suggesting_in (events_at bank h) (terms_at bank c.args.goal.now)) c.in_ok-suggests_induction.field-0 c.if-branch.false c.in_ok-suggests_induction.ensures)
