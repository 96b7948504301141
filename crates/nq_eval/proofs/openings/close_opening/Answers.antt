use Rattle.std.proofs.Common.{◌≡◌, ◌-◌, subst}
use Rattle.nq_fragments.specs.Outcomes.{BlockedAt, OutOfFuel}
use Rattle.nq_bank.specs.Content.{term_at}
use Rattle.nq_eval.specs.Known.{IsFoundFor, IsReached, IsBlocked, outcome_at}
use Rattle.nq_eval.proofs.LineLemmas.{grown_refl}
use Rattle.nq_eval.proofs.ClosingLemmas.{opening_reached, opening_outcome}
use Rattle.nq_eval.proofs.openings.close_opening.Goals as goal

pub returns-in_ok-line-in-Value-clause-found : goal.returns-in_ok-line-in-Value-clause-found
returns-in_ok-line-in-Value-clause-found c =
    let old = c.args.work.now in
    let h = c.args.history.now in
    let found : IsReached h old c.args.opened.body (c.args.nesting - 1) (c.args.calls - 1) c.in-Value.known = subst (IsFoundFor h old c.args.opened.body (c.args.nesting - 1) (c.args.calls - 1)) c.in-Value.is c.requires.found in
    opening_reached h old c.chain.new.work c.requires.stands c.chain.ensures.grows c.args.u c.args.nesting c.args.calls c.in_ok-line-in-Value.line c.args.opened c.in-Value.known c.requires.some_nesting c.requires.some_calls c.requires.term c.requires.opened found c.in_ok-line-in-Value.ensures.line

pub returns-in-Blocked-clause-found : goal.returns-in-Blocked-clause-found
returns-in-Blocked-clause-found c =
    let old = c.args.work.now in
    let h = c.args.history.now in
    let found : IsBlocked old c.in-Blocked.w (outcome_at h old c.args.opened.body (c.args.nesting - 1) (c.args.calls - 1)) = subst (IsFoundFor h old c.args.opened.body (c.args.nesting - 1) (c.args.calls - 1)) c.in-Blocked.is c.requires.found in
    record { stands = found.stands; blocked = opening_outcome h old c.args.u c.args.nesting c.args.calls c.args.opened (BlockedAt (term_at old.bank c.in-Blocked.w)) c.requires.some_nesting c.requires.some_calls c.requires.opened found.blocked }

pub returns-in-Fuel-clause-found : goal.returns-in-Fuel-clause-found
returns-in-Fuel-clause-found c =
    let old = c.args.work.now in
    let h = c.args.history.now in
    let found : outcome_at h old c.args.opened.body (c.args.nesting - 1) (c.args.calls - 1) ≡ OutOfFuel = subst (IsFoundFor h old c.args.opened.body (c.args.nesting - 1) (c.args.calls - 1)) c.in-Fuel.is c.requires.found in
    opening_outcome h old c.args.u c.args.nesting c.args.calls c.args.opened OutOfFuel c.requires.some_nesting c.requires.some_calls c.requires.opened found

pub returns-in-Blocked-clause-grows : goal.returns-in-Blocked-clause-grows
returns-in-Blocked-clause-grows c = grown_refl c.args.history.now c.args.work.now c.requires.stands

pub returns-in-Fuel-clause-grows : goal.returns-in-Fuel-clause-grows
returns-in-Fuel-clause-grows c = grown_refl c.args.history.now c.args.work.now c.requires.stands
