use Rattle.nq_logic.specs.Histories.{events_shells}
use Rattle.nq_history.specs.Events.{events_at}
use Rattle.nq_decrease.proofs.OwnShellLemmas.{behind_stand, ground_first, own_behind}
use Rattle.nq_decrease.proofs.descents.users_shells.Goals as goal

pub slice_bounds-result-count : goal.slice_bounds-result-count
slice_bounds-result-count c =
    let b = c.args.bank.now in
    ground_first b c.shells-shells.result.now (events_shells (events_at b c.args.history.now)) (c.shells-shells.ensures.logic b c.requires)

pub slice_bounds-result-start : goal.slice_bounds-result-start
slice_bounds-result-start c =
    let b = c.args.bank.now in
    ground_first b c.shells-shells.result.now (events_shells (events_at b c.args.history.now)) (c.shells-shells.ensures.logic b c.requires)

pub returns-clause-shells : goal.returns-clause-shells
returns-clause-shells c =
    let b = c.args.bank.now in
    own_behind b c.shells-shells.result.now (events_shells (events_at b c.args.history.now)) (c.shells-shells.ensures.logic b c.requires)

pub returns-clause-stand : goal.returns-clause-stand
returns-clause-stand c =
    let b = c.args.bank.now in
    behind_stand b c.shells-shells.result.now (events_shells (events_at b c.args.history.now)) (c.shells-shells.ensures.logic b c.requires) (c.shells-shells.ensures.stand b c.requires)
