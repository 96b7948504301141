use Rattle.nq_bank.specs.Content.{terms_at}
use Rattle.nq_history.specs.Events.{events_at}
use Rattle.nq_event.specs.EventsAt.{hints_at}
use Rattle.nq_kernel.proofs.GrowingLemmas.{WorkGrows-refl}
use Rattle.nq_moves.proofs.NumberingLemmas.{some_is}
use Rattle.nq_eliminate.specs.declared.accesses.Access.{Access}
use Rattle.nq_eliminate.specs.Shells.{IsShellCandidate}
use Rattle.nq_eliminate.proofs.ShellLemmas.{not_none}
use Rattle.nq_eliminate.proofs.moving.eliminate_by_shell.Goals as goal

pub returns-in_err-access-clause-grows : goal.returns-in_err-access-clause-grows
returns-in_err-access-clause-grows c = WorkGrows-refl c.args.history.now c.args.work.now c.requires.stands

pub returns-in-None-clause-grows : goal.returns-in-None-clause-grows
returns-in-None-clause-grows c = WorkGrows-refl c.args.history.now c.args.work.now c.requires.stands

pub returns-in_err-moved-in-Some-clause-candidate : goal.returns-in_err-moved-in-Some-clause-candidate
returns-in_err-moved-in-Some-clause-candidate c =
    let bank = c.args.work.now.bank in
    let h = events_at bank c.args.history.now in
    let g = terms_at bank c.args.goal.now in
    λ e none. not_none bank h (hints_at bank c.args.hints.now) g c.in-Some.access (some_is _ (λ (a : Access). IsShellCandidate bank h g a) _ c.in-Some.access c.in_ok-access.ensures.access c.in-Some.is) none
