use Rattle.std.proofs.lemmas.Result.{IfOk-weaker}
use Rattle.nq_kernel.proofs.GrowingLemmas.{WorkGrows-refl}
use Rattle.nq_schemes.proofs.schemes.scheme_of_goal.Goals as goal

pub returns-in_err-calls-clause-grows : goal.returns-in_err-calls-clause-grows
returns-in_err-calls-clause-grows c = WorkGrows-refl c.args.history.now c.args.work.now c.requires.stands

pub returns-in_err-is_suggested-clause-grows : goal.returns-in_err-is_suggested-clause-grows
returns-in_err-is_suggested-clause-grows c = WorkGrows-refl c.args.history.now c.args.work.now c.requires.stands

pub returns-then-not-branch-clause-grows : goal.returns-then-not-branch-clause-grows
returns-then-not-branch-clause-grows c = WorkGrows-refl c.args.history.now c.args.work.now c.requires.stands

pub returns-clause-told : goal.returns-clause-told
returns-clause-told c = λ zero. IfOk-weaker c.scheme_suggested.result _ _ (λ found not_none is. absurd (not_none is)) (c.scheme_suggested.ensures.told zero)

pub returns-then-is_empty-clause-grows : goal.returns-then-is_empty-clause-grows
returns-then-is_empty-clause-grows c = WorkGrows-refl c.args.history.now c.args.work.now c.requires.stands
