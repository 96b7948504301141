use Rattle.std.proofs.Common.{rules}
use Rattle.nq_bank.specs.Content.{terms_at}
use Rattle.nq_history.specs.declared.entry.Entry.{Entry}
use Rattle.std.proofs.Common.{List}
use Rattle.nq_kernel.specs.declared.work.Work.{Work}
use Rattle.nq_kernel.specs.Growing.{WorkGrows}
use Rattle.nq_kernel.proofs.GrowingLemmas.{WorkGrows-refl, WorkGrows-trans}
use Rattle.nq_search.specs.Goals.{CanSearch, IsGoalIn}
use Rattle.nq_search.proofs.SearchingLemmas.{ready_grown, goal_grown, same_goal}
use Rattle.nq_tactic.proofs.TacticLemmas.{found_before}
use Rattle.nq_tactic.proofs.lemmas.+rounds.Goals as goal

pub seek_widening-returns-in-None-clause-grows : goal.seek_widening-returns-in-None-clause-grows
seek_widening-returns-in-None-clause-grows t c = WorkGrows-refl c.args.history.now c.args.work.now c.requires.can.stands

pub seek_round-seek_again-requires : goal.seek_round-seek_again-requires
seek_round-seek_again-requires t c =
    let h : List Entry = c.args.history.now in
    let old : Work = c.args.work.now in
    let new : Work = c.seek.new.work in
    let up : WorkGrows h old new = c.seek.ensures.grows in
    let can : CanSearch h c.args.hints.now new = ready_grown h old new c.requires.can.stands up c.ready_histories.ensures.grown c.args.hints.now c.requires.can in
    let inside : IsGoalIn h new c.args.goal.now = goal_grown h old new c.requires.can.stands up c.args.goal.now c.requires.goal in
    search rules

pub seek_round-returns-in-None-clause-found : goal.seek_round-returns-in-None-clause-found
seek_round-returns-in-None-clause-found t c =
    found_before c.seek_again.new.work (terms_at c.seek.new.work.bank c.args.goal.now) (terms_at c.args.work.now.bank c.args.goal.now) c.seek_again.result
    (same_goal c.args.history.now c.args.work.now c.seek.new.work c.requires.can.stands c.seek.ensures.grows c.args.goal.now c.requires.goal) c.seek_again.ensures.found

pub seek_round-returns-in-None-clause-grows : goal.seek_round-returns-in-None-clause-grows
seek_round-returns-in-None-clause-grows t c = WorkGrows-trans c.args.history.now c.args.work.now c.seek.new.work c.seek_again.new.work c.seek.ensures.grows c.seek_again.ensures.grows

pub seek_again-returns-then-is_exhausted-clause-grows : goal.seek_again-returns-then-is_exhausted-clause-grows
seek_again-returns-then-is_exhausted-clause-grows t c = WorkGrows-refl c.args.history.now c.args.work.now c.requires.can.stands
