use Rattle.nq_bank.specs.Content.{terms_at}
use Rattle.nq_history.specs.Events.{events_at}
use Rattle.nq_event.specs.EventsAt.{hints_at}
use Rattle.nq_kernel.proofs.GrowingLemmas.{WorkGrows-refl}
use Rattle.nq_moves.proofs.ClosingLemmas.{all_stand}
use Rattle.nq_moves.proofs.NumberingLemmas.{some_is}
use Rattle.nq_eliminate.specs.declared.finding.Candidate.{Candidate}
use Rattle.nq_eliminate.specs.Finding.{IsCandidate}
use Rattle.nq_eliminate.proofs.FillingLemmas.{not_none}
use Rattle.nq_eliminate.proofs.moving.eliminate_by_rule.Goals as goal

pub find_rule-requires-clause-goal : goal.find_rule-requires-clause-goal
find_rule-requires-clause-goal c = all_stand c.args.history.now c.args.work.now c.args.goal.now c.requires.goal

pub returns-in_err-c-clause-grows : goal.returns-in_err-c-clause-grows
returns-in_err-c-clause-grows c = WorkGrows-refl c.args.history.now c.args.work.now c.requires.stands

pub returns-in-None-clause-grows : goal.returns-in-None-clause-grows
returns-in-None-clause-grows c = WorkGrows-refl c.args.history.now c.args.work.now c.requires.stands

pub returns-in_err-moved-in-Some-clause-candidate : goal.returns-in_err-moved-in-Some-clause-candidate
returns-in_err-moved-in-Some-clause-candidate c =
    let w = c.args.work.now in
    let h = events_at w.bank c.args.history.now in
    let hints = hints_at w.bank c.args.hints.now in
    let g = terms_at w.bank c.args.goal.now in
    λ e none. not_none c.args.history.now w c.args.goal.now c.requires.goal c.requires.ready (c.own_terms.ensures w.bank c.args.history.now c.requires.ready) c.in-Some.c hints (some_is _ (λ (x : Candidate). IsCandidate w.bank h hints g h x) _ c.in-Some.c c.in_ok-c.ensures.found c.in-Some.is) none
