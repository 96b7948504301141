use Rattle.std.proofs.Common.{◌∙◌, List, sym, refl, subst}
use Rattle.nq_eval.specs.declared.frames.Frame.{Frame}
use Rattle.nq_eval.specs.declared.frames.Request.{Request}
use Rattle.nq_eval.specs.Frames.{AreWaiting}
use Rattle.nq_eval.proofs.LineLemmas.{grown_refl, grown_trans}
use Rattle.nq_eval.proofs.evaluation.value_of.Goals as goal

pub loop-run-init : goal.loop-run-init
loop-run-init c =
    let h = c.args.history.now in
    let work = c.args.work.now in
    let whole : Request = record { term = c.args.t; nesting = c.args.nesting; calls = c.args.calls } in
    record {
      grows = grown_refl h work c.requires.can.stands;
      is_run = record { can = c.requires.can; waiting = subst (λ (fs : List Frame). AreWaiting h work fs whole whole) (sym c.new.ensures.items) refl; turn_is = c.requires.term };
      whole = refl;
      at_rest = tt;
    }

pub loop-run-preserved : goal.loop-run-preserved
loop-run-preserved c =
    let inv = c.loop-run.invariant in
    record {
      grows = grown_trans c.args.history.now c.args.work.now c.loop-run.work c.go_on.new.work inv.grows c.go_on.ensures.grows;
      is_run = c.in_ok-go_on.ensures.run;
      whole = c.go_on.ensures.whole ∙ inv.whole;
      at_rest = c.in_ok-go_on.ensures.rests;
    }

pub returns-in_err-go_on-clause-grows : goal.returns-in_err-go_on-clause-grows
returns-in_err-go_on-clause-grows c = grown_trans c.args.history.now c.args.work.now c.loop-run.work c.go_on.new.work c.loop-run.invariant.grows c.go_on.ensures.grows
