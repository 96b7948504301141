use Rattle.std.proofs.Common.{◌∙◌, sym, subst, ap}
use Rattle.std.specs.Prelude.{All}
use Rattle.nq_bank.specs.Content.{Stands, terms_at}
use Rattle.nq_eval.proofs.LineLemmas.{grown_trans}
use Rattle.nq_hinted.proofs.HintedLemmas.{answer_before, can_grown, goal_same}
use Rattle.nq_hinted.proofs.UnwindLemmas.{grows_bank, with_bank}
use Rattle.nq_hinted.proofs.hinted.prove_distinct.Goals as goal

pub prove_literals-requires-clause-can : goal.prove_literals-requires-clause-can
prove_literals-requires-clause-can c =
    can_grown c.args.history.now c.args.hints.now c.args.work.now (with_bank c.first_goal.new.bank c.args.work.now) c.args.goal
    (grows_bank c.args.history.now c.args.work.now c.first_goal.new.bank c.requires.can.stands c.in-Ok.ensures.grows c.in-Ok.ensures.names).grows c.requires.can

pub prove_literals-requires-clause-stand : goal.prove_literals-requires-clause-stand
prove_literals-requires-clause-stand c = subst (All (Stands c.first_goal.new.bank)) (sym c.as_slice.ensures.value) c.in-Ok.ensures.stand

pub prove_literals-requires-clause-literals : goal.prove_literals-requires-clause-literals
prove_literals-requires-clause-literals c =
    ap (terms_at c.first_goal.new.bank) c.as_slice.ensures.value ∙ c.in-Ok.ensures.are
    ∙ sym (goal_same c.args.history.now c.args.hints.now c.args.work.now (with_bank c.first_goal.new.bank c.args.work.now) c.args.goal
    (grows_bank c.args.history.now c.args.work.now c.first_goal.new.bank c.requires.can.stands c.in-Ok.ensures.grows c.in-Ok.ensures.names).grows c.requires.can)

pub returns-in-Ok-clause-answer : goal.returns-in-Ok-clause-answer
returns-in-Ok-clause-answer c =
    answer_before c.args.history.now c.args.hints.now c.args.work.now (with_bank c.first_goal.new.bank c.args.work.now) c.args.goal
    (grows_bank c.args.history.now c.args.work.now c.first_goal.new.bank c.requires.can.stands c.in-Ok.ensures.grows c.in-Ok.ensures.names).grows c.prove_literals.new.work c.prove_literals.result c.requires.can c.prove_literals.ensures.answer

pub returns-in-Ok-clause-grows : goal.returns-in-Ok-clause-grows
returns-in-Ok-clause-grows c =
    grown_trans c.args.history.now c.args.work.now (with_bank c.first_goal.new.bank c.args.work.now) c.prove_literals.new.work
    (grows_bank c.args.history.now c.args.work.now c.first_goal.new.bank c.requires.can.stands c.in-Ok.ensures.grows c.in-Ok.ensures.names) c.prove_literals.ensures.grows

pub returns-in-Err-clause-grows : goal.returns-in-Err-clause-grows
returns-in-Err-clause-grows c = grows_bank c.args.history.now c.args.work.now c.first_goal.new.bank c.requires.can.stands c.in-Err.ensures.grows c.in-Err.ensures.names
