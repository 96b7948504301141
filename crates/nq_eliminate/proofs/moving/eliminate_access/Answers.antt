use Rattle.nq_logic.specs.Terms.{Applied, Function, Variable}
use Rattle.nq_bank.specs.Content.{terms_at, text_at}
use Rattle.nq_bank.specs.Shells.{shell_at}
use Rattle.nq_history.specs.Events.{events_at}
use Rattle.nq_event.specs.EventsAt.{hints_at}
use Rattle.nq_kernel.specs.Over.{IsVariable}
use Rattle.nq_kernel.proofs.GrowingLemmas.{WorkGrows-trans}
use Rattle.nq_rule.proofs.Made.{for_ok}
use Rattle.nq_moves.proofs.ClosingLemmas.{all_stand, each_over}
use Rattle.nq_moves.proofs.LastingLemmas.{goals_grown}
use Rattle.nq_moves.proofs.SwappedLemmas.{goal_in_grown, goal_same}
use Rattle.nq_eliminate.specs.Instances.{Eliminates, EliminatesOf}
use Rattle.nq_eliminate.specs.Shells.{eliminating_by}
use Rattle.nq_eliminate.proofs.MakingLemmas.{candidate_at, eliminates_before}
use Rattle.nq_eliminate.proofs.OverLemmas.{one_are}
use Rattle.nq_eliminate.proofs.PlainLemmas.{plain_candidate}
use Rattle.nq_eliminate.proofs.moving.eliminate_access.Goals as goal

pub shell_instance-requires-clause-plain : goal.shell_instance-requires-clause-plain
shell_instance-requires-clause-plain c =
    let w = c.args.work.now in
    let x = text_at w.bank c.args.access.variable in
    (one_are IsVariable (Applied (Function c.requires.candidate.accessor) (Variable x)) (terms_at w.bank c.args.goal.now) (λ t m. (each_over c.args.history.now w c.args.goal.now c.requires.goal t m).variables) c.requires.candidate.called).1

pub eliminate_instance-requires-clause-path : goal.eliminate_instance-requires-clause-path
eliminate_instance-requires-clause-path c = λ k d below. goal_in_grown c.args.history.now c.args.work.now c.shell_instance.new.work c.requires.stands c.shell_instance.ensures.grows _ (c.requires.path k d below)

pub eliminate_instance-requires-clause-goal : goal.eliminate_instance-requires-clause-goal
eliminate_instance-requires-clause-goal c = goal_in_grown c.args.history.now c.args.work.now c.shell_instance.new.work c.requires.stands c.shell_instance.ensures.grows c.args.goal.now c.requires.goal

pub eliminate_instance-requires-clause-instance : goal.eliminate_instance-requires-clause-instance
eliminate_instance-requires-clause-instance c =
    let w = c.args.work.now in
    let s = shell_at w.bank c.args.access.shell.now in
    let x = text_at w.bank c.args.access.variable in
    let hints = hints_at w.bank c.args.hints.now in
    record { chosen = eliminating_by s x; plain = plain_candidate (events_at w.bank c.args.history.now) hints (terms_at w.bank c.args.goal.now) (eliminating_by s x) (c.requires.candidate.candidate hints); instance = c.in_ok-r.ensures.instance }

pub returns-clause-legal : goal.returns-clause-legal
returns-clause-legal c =
    let hs = c.args.history.now in
    let old = c.args.work.now in
    let mid = c.shell_instance.new.work in
    let new = c.eliminate_instance.new.work in
    let h = events_at old.bank hs in
    let hints = hints_at old.bank c.args.hints.now in
    let s = shell_at old.bank c.args.access.shell.now in
    let x = text_at old.bank c.args.access.variable in
    let e = eliminating_by s x in
    let same = goal_same hs old mid c.requires.stands c.shell_instance.ensures.grows c.args.goal.now c.requires.goal in
    for_ok c.eliminate_instance.result (EliminatesOf hs mid new c.args.path.now c.args.goal.now c.in_ok-r.r) (Eliminates h hints old.bank new.bank c.args.path.now c.args.goal.now)
    (λ m of. eliminates_before h hints old.bank mid.bank new.bank c.args.path.now c.args.goal.now m same (goals_grown old.bank mid.bank c.args.path.now c.shell_instance.ensures.grows.bank (λ k d below. all_stand hs old _ (c.requires.path k d below)))
    (of.each h hints e (candidate_at h hints (terms_at old.bank c.args.goal.now) (terms_at mid.bank c.args.goal.now) e same (c.requires.candidate.candidate hints)) (plain_candidate h hints (terms_at old.bank c.args.goal.now) e (c.requires.candidate.candidate hints)) c.in_ok-r.ensures.instance)) c.eliminate_instance.ensures.legal

pub returns-clause-grows : goal.returns-clause-grows
returns-clause-grows c = WorkGrows-trans c.args.history.now c.args.work.now c.shell_instance.new.work c.eliminate_instance.new.work c.shell_instance.ensures.grows c.eliminate_instance.ensures.grows
