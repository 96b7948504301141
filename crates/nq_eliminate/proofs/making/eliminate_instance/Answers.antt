use Rattle.std.proofs.Common.{◌≡◌}
use Rattle.nq_bank.specs.Content.{terms_at}
use Rattle.nq_kernel.proofs.GrowingLemmas.{WorkGrows-trans}
use Rattle.nq_rule.proofs.Made.{for_ok}
use Rattle.nq_moves.specs.Eliminated.{eliminated_goals}
use Rattle.nq_moves.specs.Found.{goals_at}
use Rattle.nq_moves.proofs.SwappedLemmas.{goal_in_grown, goal_same}
use Rattle.nq_eliminate.specs.Instances.{EliminatesOf}
use Rattle.nq_eliminate.proofs.MakingLemmas.{eliminates}
use Rattle.nq_eliminate.proofs.making.eliminate_instance.Goals as goal

pub eliminate_by-requires-clause-goal : goal.eliminate_by-requires-clause-goal
eliminate_by-requires-clause-goal c = goal_in_grown c.args.history.now c.args.work.now c.eliminated.new.work c.requires.stands c.eliminated.ensures.grows c.args.goal.now c.requires.goal

pub returns-clause-legal : goal.returns-clause-legal
returns-clause-legal c =
    let hs = c.args.history.now in
    let old = c.args.work.now in
    let mid = c.eliminated.new.work in
    let new = c.eliminate_by.new.work in
    let same = goal_same hs old mid c.requires.stands c.eliminated.ensures.grows c.args.goal.now c.requires.goal in
    for_ok c.eliminate_by.result (λ m. goals_at new.bank m.children.items ≡ eliminated_goals mid.bank c.args.goal.now c.in_ok-e.e) (EliminatesOf hs old new c.args.path.now c.args.goal.now c.args.r)
    (λ m leads.
    record {
      each = λ h hints e candidate plain instance.
          record { leads = eliminates h hints mid.bank (goals_at old.bank c.args.path.now) c.args.goal.now (terms_at old.bank c.args.goal.now) c.in_ok-e.e (goals_at new.bank m.children.items) same (c.in_ok-e.ensures.chosen.each h hints e candidate plain instance) leads };
    }) c.eliminate_by.ensures.leads

pub returns-clause-grows : goal.returns-clause-grows
returns-clause-grows c = WorkGrows-trans c.args.history.now c.args.work.now c.eliminated.new.work c.eliminate_by.new.work c.eliminated.ensures.grows c.eliminate_by.ensures.grows
