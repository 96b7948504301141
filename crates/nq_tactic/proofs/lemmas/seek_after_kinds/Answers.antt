use Rattle.nq_bank.specs.Content.{terms_at}
use Rattle.nq_kernel.proofs.GrowingLemmas.{WorkGrows-trans}
use Rattle.nq_search.proofs.SearchingLemmas.{ready_grown, goal_grown, same_goal}
use Rattle.nq_tactic.proofs.TacticLemmas.{found_before}
use Rattle.nq_tactic.proofs.lemmas.seek_after_kinds.Goals as goal

pub seek_after_falls-requires-clause-can : goal.seek_after_falls-requires-clause-can
seek_after_falls-requires-clause-can c = ready_grown c.args.history.now c.args.work.now c.learn_truths.new.work c.requires.can.stands c.learn_truths.ensures.grows c.ready_histories.ensures.grown c.args.hints.now c.requires.can

pub seek_after_falls-requires-clause-goal : goal.seek_after_falls-requires-clause-goal
seek_after_falls-requires-clause-goal c = goal_grown c.args.history.now c.args.work.now c.learn_truths.new.work c.requires.can.stands c.learn_truths.ensures.grows c.args.goal.now c.requires.goal

pub returns-clause-found : goal.returns-clause-found
returns-clause-found c =
    found_before c.seek_after_falls.new.work (terms_at c.learn_truths.new.work.bank c.args.goal.now) (terms_at c.args.work.now.bank c.args.goal.now) c.seek_after_falls.result
    (same_goal c.args.history.now c.args.work.now c.learn_truths.new.work c.requires.can.stands c.learn_truths.ensures.grows c.args.goal.now c.requires.goal) c.seek_after_falls.ensures.found

pub returns-clause-grows : goal.returns-clause-grows
returns-clause-grows c = WorkGrows-trans c.args.history.now c.args.work.now c.learn_truths.new.work c.seek_after_falls.new.work c.learn_truths.ensures.grows c.seek_after_falls.ensures.grows
