use Rattle.std.proofs.Common.{◌∙◌, ap, refl}
use Rattle.nq_answers.specs.Shown.{shown_steps}
use Rattle.nq_waterfall.specs.Trails.{steps_at}
use Rattle.nq_giving_up.proofs.tracing.follow_over.Goals as goal

pub returns-in_ok-shown-in-Ok : goal.returns-in_ok-shown-in-Ok
returns-in_ok-shown-in-Ok g c =
    let later = c.follow_first.new.work in
    record {
      later = later;
      grows = c.follow_first.ensures.grows;
      bank_is = refl;
      told = record {
        steps = steps_at later.bank c.in-Ok.steps.items;
        trace = c.in-Ok.ensures.trace;
        shown_is = c.in_ok-shown-in-Ok.ensures ∙ ap (λ l. shown_steps (steps_at later.bank l)) c.as_slice.ensures.value;
      };
    }

pub returns-in-Err-OutOfSteps : goal.returns-in-Err-OutOfSteps
returns-in-Err-OutOfSteps g c = record { later = c.follow_first.new.work; grows = c.follow_first.ensures.grows; bank_is = refl; told = tt }
