use Rattle.std.proofs.Common.{ap, ◌∙◌}
use Rattle.std.specs.Prelude.{not}
use Rattle.nq_bank.specs.Content.{terms_at}
use Rattle.nq_history.specs.Events.{events_at}
use Rattle.nq_goals.specs.Normal.{has_connective, has_openable, has_decided_test, has_settled}
use Rattle.nq_normal.specs.Definitions.{hints_at}
use Rattle.nq_normal.proofs.GoalLemmas.{parts_split, plain_split}
use Rattle.nq_normal.proofs.goal.is_plain.Goals as goal

pub returns : goal.returns
returns c =
    let h = events_at c.args.bank.now c.args.history.now in
    let hints = hints_at c.args.bank.now c.args.hints.now in
    let g = terms_at c.args.bank.now c.args.goal.now in
    ap not c.is_either.ensures
    ∙ plain_split (has_connective g) (has_openable h hints g) (has_decided_test h g) (has_settled g) c.in_ok-barred.barred c.has_settled-settled.result
    (c.in_ok-barred.ensures ∙ parts_split h hints g) c.has_settled-settled.ensures
