use Rattle.std.proofs.Common.{◌≡◌, refl, subst, arith}
use Rattle.nq_bank.specs.Content.{term_at}
use Rattle.nq_fragments.specs.Outcomes.{BlockedAt, OutOfFuel}
use Rattle.nq_eval.specs.Known.{IsBlocked, outcome_at}
use Rattle.nq_eval.specs.Frames.{child_of, IsFoundAt}
use Rattle.nq_eval.proofs.LineLemmas.{grown_refl}
use Rattle.nq_eval.proofs.FrameLemmas.{frame_stops}
use Rattle.nq_eval.proofs.WeightLemmas.{found_weight}
use Rattle.nq_eval.proofs.resuming.resume.Goals as goal

pub returns-in-Blocked-clause-step : goal.returns-in-Blocked-clause-step
returns-in-Blocked-clause-step c =
    let h = c.args.history.now in
    let old = c.args.work.now in
    let f = c.args.frame in
    let part = child_of f in
    let found : IsBlocked old c.in-Blocked.u (outcome_at h old part.term part.nesting part.calls) = subst (IsFoundAt h old part) c.in-Blocked.is c.requires.found in
    record {
      stands = record { stands = found.stands; blocked = frame_stops h old f (BlockedAt (term_at old.bank c.in-Blocked.u)) c.requires.waiting (λ next. refl) found.blocked };
      lighter = found_weight old.bank f.wait;
      fewer = omega arith;
    }

pub returns-in-Blocked-clause-grows : goal.returns-in-Blocked-clause-grows
returns-in-Blocked-clause-grows c = grown_refl c.args.history.now c.args.work.now c.requires.stands

pub returns-in-Fuel-clause-step : goal.returns-in-Fuel-clause-step
returns-in-Fuel-clause-step c =
    let h = c.args.history.now in
    let old = c.args.work.now in
    let f = c.args.frame in
    let part = child_of f in
    let found : outcome_at h old part.term part.nesting part.calls ≡ OutOfFuel = subst (IsFoundAt h old part) c.in-Fuel.is c.requires.found in
    record {
      stands = frame_stops h old f OutOfFuel c.requires.waiting (λ next. refl) found;
      lighter = found_weight old.bank f.wait;
      fewer = omega arith;
    }

pub returns-in-Fuel-clause-grows : goal.returns-in-Fuel-clause-grows
returns-in-Fuel-clause-grows c = grown_refl c.args.history.now c.args.work.now c.requires.stands
