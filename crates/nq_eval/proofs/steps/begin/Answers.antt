use Rattle.std.proofs.Common.{◌≤◌, ◌∙◌, sym, ap, refl, arith}
use Rattle.nq_bank.specs.Content.{term_at}
use Rattle.nq_history.specs.Events.{events_at}
use Rattle.nq_fragments.specs.Outcomes.{BlockedAt}
use Rattle.nq_fragments.specs.Evaluation.{outcome_within}
use Rattle.nq_eval.specs.Weights.{term_weight}
use Rattle.nq_eval.proofs.CostLemmas.{variable_outcome}
use Rattle.nq_eval.proofs.LineLemmas.{grown_refl}
use Rattle.nq_eval.proofs.WeightLemmas.{two_turns, choice_weight}
use Rattle.nq_eval.proofs.steps.begin.Goals as goal

pub returns-in-Variable-clause-step : goal.returns-in-Variable-clause-step
returns-in-Variable-clause-step c =
    let old = c.args.work.now in
    let h = events_at old.bank c.args.history.now in
    let r = c.args.request in
    let e = c.in-Variable.ensures.is in
    let two : 2 ≤ term_weight (term_at old.bank r.term) = two_turns (term_at old.bank r.term) in
    record {
      stands = record { stands = c.requires.term.stands; blocked = ap (λ v. outcome_within h r.nesting v r.calls) e ∙ variable_outcome h r.nesting c.in-Variable.ensures.name r.calls ∙ ap BlockedAt (sym e) };
      lighter = omega (arith, two);
      fewer = omega arith;
    }

pub returns-in-Variable-clause-grows : goal.returns-in-Variable-clause-grows
returns-in-Variable-clause-grows c = grown_refl c.args.history.now c.args.work.now c.requires.stands

pub returns-in-Choice-clause-step : goal.returns-in-Choice-clause-step
returns-in-Choice-clause-step c =
    let old = c.args.work.now in
    let parts = c.in-Choice.parts in
    let p = term_at old.bank parts.test in
    let x = term_at old.bank parts.first in
    let y = term_at old.bank parts.second in
    let whole = ap term_weight c.in-Choice.ensures.is in
    let more = choice_weight p x y in
    record {
      stands = (record { usable = c.requires.term; large = c.requires.large; can = tt; waits = c.in-Choice.ensures }, refl);
      lighter = omega (arith, whole, more);
      fewer = omega arith;
    }

pub returns-in-Choice-clause-grows : goal.returns-in-Choice-clause-grows
returns-in-Choice-clause-grows c = grown_refl c.args.history.now c.args.work.now c.requires.stands
