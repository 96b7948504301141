use Rattle.nq_eval.proofs.LineLemmas.{grown_refl}
use Rattle.nq_hinted.proofs.UnwindLemmas.{grown_counted}
use Rattle.nq_hinted.proofs.uncounted.unwind_uncounted.Goals as goal

pub returns-in_err-long-clause-grows : goal.returns-in_err-long-clause-grows
returns-in_err-long-clause-grows c = grown_refl c.args.history.now c.args.work.now c.requires.stands

pub returns-in-Ok-clause-grows : goal.returns-in-Ok-clause-grows
returns-in-Ok-clause-grows c =
    grown_counted c.args.history.now c.args.work.now c.unwind-answer.new.work c.replace-kept.new.dest c.replace-kept.result c.unwind-answer.ensures.grows c.replace-kept.ensures.value

pub returns-in-Err-clause-grows : goal.returns-in-Err-clause-grows
returns-in-Err-clause-grows c =
    grown_counted c.args.history.now c.args.work.now c.unwind-answer.new.work c.replace-kept.new.dest c.replace-kept.result c.unwind-answer.ensures.grows c.replace-kept.ensures.value
