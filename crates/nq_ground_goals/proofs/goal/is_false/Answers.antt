use Rattle.nq_bank.specs.Content.{terms_at}
use Rattle.nq_history.specs.Events.{events_at}
use Rattle.nq_eval.proofs.LineLemmas.{grown_refl}
use Rattle.nq_ground_goals.proofs.FalseLemmas.{variable_told}
use Rattle.nq_ground_goals.proofs.goal.is_false.Goals as goal

pub returns-in_err-is_ground-clause-grows : goal.returns-in_err-is_ground-clause-grows
returns-in_err-is_ground-clause-grows c = grown_refl c.args.history.now c.args.work.now c.requires.stands

pub returns-else-branch-clause-answer : goal.returns-else-branch-clause-answer
returns-else-branch-clause-answer c =
    let bank = c.args.work.now.bank in
    variable_told (events_at bank c.args.history.now) (terms_at bank c.args.goal.now) c.in_ok-is_ground.field-0 c.in_ok-is_ground.ensures c.if-branch.false

pub returns-else-branch-clause-grows : goal.returns-else-branch-clause-grows
returns-else-branch-clause-grows c = grown_refl c.args.history.now c.args.work.now c.requires.stands
