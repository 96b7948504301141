use Rattle.std.proofs.lemmas.Result.{IfOk-weaker}
use Rattle.nq_kernel.proofs.GrowingLemmas.{WorkGrows-refl}
use Rattle.nq_lines.specs.Lines.{IsTermIn}
use Rattle.nq_schemes.proofs.GrownLemmas.{one_all}
use Rattle.nq_schemes.proofs.schemes.scheme_of_hint.Goals as goal

pub scheme_suggested-requires-clause-goal : goal.scheme_suggested-requires-clause-goal
scheme_suggested-requires-clause-goal c = one_all (IsTermIn c.args.history.now c.args.work.now) c.args.t c.requires.hint

pub returns-in_err-is_suggested-clause-grows : goal.returns-in_err-is_suggested-clause-grows
returns-in_err-is_suggested-clause-grows c = WorkGrows-refl c.args.history.now c.args.work.now c.requires.stands

pub returns-then-not-branch-clause-grows : goal.returns-then-not-branch-clause-grows
returns-then-not-branch-clause-grows c = WorkGrows-refl c.args.history.now c.args.work.now c.requires.stands

pub returns-clause-told : goal.returns-clause-told
returns-clause-told c = λ zero. IfOk-weaker c.scheme_suggested.result _ _ (λ found not_none is. absurd (not_none is)) (c.scheme_suggested.ensures.told zero)
