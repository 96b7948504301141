use Rattle.nq_bank.specs.Content.{terms_at}
use Rattle.nq_kernel.proofs.GrowingLemmas.{WorkGrows-trans}
use Rattle.nq_search.proofs.SearchingLemmas.{ready_grown, goal_grown, same_goal}
use Rattle.nq_tactic.proofs.TacticLemmas.{found_before}
use Rattle.nq_tactic.proofs.lemmas.seek_rounds.Goals as goal

pub seek_after_kinds-requires-clause-can : goal.seek_after_kinds-requires-clause-can
seek_after_kinds-requires-clause-can c = ready_grown c.args.history.now c.args.work.now c.learn_kinds.new.work c.requires.can.stands c.learn_kinds.ensures.grows c.ready_histories.ensures.grown c.args.hints.now c.requires.can

pub seek_after_kinds-requires-clause-goal : goal.seek_after_kinds-requires-clause-goal
seek_after_kinds-requires-clause-goal c = goal_grown c.args.history.now c.args.work.now c.learn_kinds.new.work c.requires.can.stands c.learn_kinds.ensures.grows c.args.goal.now c.requires.goal

pub returns-clause-found : goal.returns-clause-found
returns-clause-found c =
    found_before c.seek_after_kinds.new.work (terms_at c.learn_kinds.new.work.bank c.args.goal.now) (terms_at c.args.work.now.bank c.args.goal.now) c.seek_after_kinds.result
    (same_goal c.args.history.now c.args.work.now c.learn_kinds.new.work c.requires.can.stands c.learn_kinds.ensures.grows c.args.goal.now c.requires.goal) c.seek_after_kinds.ensures.found

pub returns-clause-grows : goal.returns-clause-grows
returns-clause-grows c = WorkGrows-trans c.args.history.now c.args.work.now c.learn_kinds.new.work c.seek_after_kinds.new.work c.learn_kinds.ensures.grows c.seek_after_kinds.ensures.grows
