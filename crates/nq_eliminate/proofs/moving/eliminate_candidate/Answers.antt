use Rattle.nq_bank.specs.Content.{terms_at}
use Rattle.nq_history.specs.Events.{events_at}
use Rattle.nq_event.specs.EventsAt.{hints_at}
use Rattle.nq_kernel.proofs.GrowingLemmas.{WorkGrows-trans}
use Rattle.nq_rule.proofs.Made.{for_ok}
use Rattle.nq_moves.proofs.ClosingLemmas.{all_stand}
use Rattle.nq_moves.proofs.LastingLemmas.{goals_grown}
use Rattle.nq_moves.proofs.SwappedLemmas.{goal_in_grown, goal_same}
use Rattle.nq_eliminate.specs.Choosing.{chosen_at}
use Rattle.nq_eliminate.specs.Instances.{Eliminates, EliminatesOf}
use Rattle.nq_eliminate.proofs.FillingLemmas.{candidate}
use Rattle.nq_eliminate.proofs.MakingLemmas.{candidate_at, eliminates_before}
use Rattle.nq_eliminate.proofs.PlainLemmas.{plain_candidate}
use Rattle.nq_eliminate.proofs.moving.eliminate_candidate.Goals as goal

pub rule_instance-requires-clause-candidate : goal.rule_instance-requires-clause-candidate
rule_instance-requires-clause-candidate c = record { hints = hints_at c.args.work.now.bank c.args.hints.now; is = c.requires.candidate }

pub eliminate_instance-requires-clause-path : goal.eliminate_instance-requires-clause-path
eliminate_instance-requires-clause-path c = λ k d below. goal_in_grown c.args.history.now c.args.work.now c.rule_instance.new.work c.requires.stands c.rule_instance.ensures.grows _ (c.requires.path k d below)

pub eliminate_instance-requires-clause-goal : goal.eliminate_instance-requires-clause-goal
eliminate_instance-requires-clause-goal c = goal_in_grown c.args.history.now c.args.work.now c.rule_instance.new.work c.requires.stands c.rule_instance.ensures.grows c.args.goal.now c.requires.goal

pub eliminate_instance-requires-clause-instance : goal.eliminate_instance-requires-clause-instance
eliminate_instance-requires-clause-instance c =
    let w = c.args.work.now in
    let h = events_at w.bank c.args.history.now in
    let hints = hints_at w.bank c.args.hints.now in
    let g = terms_at w.bank c.args.goal.now in
    let e = chosen_at w.bank g c.args.c in
    record { chosen = e; plain = plain_candidate h hints g e (candidate c.args.history.now w c.args.goal.now c.requires.goal c.requires.ready (c.own_terms.ensures w.bank c.args.history.now c.requires.ready) c.args.c hints c.requires.candidate); instance = c.in_ok-r.ensures.instance }

pub returns-clause-legal : goal.returns-clause-legal
returns-clause-legal c =
    let hs = c.args.history.now in
    let old = c.args.work.now in
    let mid = c.rule_instance.new.work in
    let new = c.eliminate_instance.new.work in
    let h = events_at old.bank hs in
    let hints = hints_at old.bank c.args.hints.now in
    let g = terms_at old.bank c.args.goal.now in
    let e = chosen_at old.bank g c.args.c in
    let made = candidate hs old c.args.goal.now c.requires.goal c.requires.ready (c.own_terms.ensures old.bank hs c.requires.ready) c.args.c hints c.requires.candidate in
    let same = goal_same hs old mid c.requires.stands c.rule_instance.ensures.grows c.args.goal.now c.requires.goal in
    for_ok c.eliminate_instance.result (EliminatesOf hs mid new c.args.path.now c.args.goal.now c.in_ok-r.r) (Eliminates h hints old.bank new.bank c.args.path.now c.args.goal.now)
    (λ m of. eliminates_before h hints old.bank mid.bank new.bank c.args.path.now c.args.goal.now m same (goals_grown old.bank mid.bank c.args.path.now c.rule_instance.ensures.grows.bank (λ k d below. all_stand hs old _ (c.requires.path k d below)))
    (of.each h hints e (candidate_at h hints g (terms_at mid.bank c.args.goal.now) e same made) (plain_candidate h hints g e made) c.in_ok-r.ensures.instance)) c.eliminate_instance.ensures.legal

pub returns-clause-grows : goal.returns-clause-grows
returns-clause-grows c = WorkGrows-trans c.args.history.now c.args.work.now c.rule_instance.new.work c.eliminate_instance.new.work c.rule_instance.ensures.grows c.eliminate_instance.ensures.grows
