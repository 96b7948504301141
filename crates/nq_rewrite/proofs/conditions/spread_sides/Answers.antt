use Rattle.nq_kernel.proofs.GrowingLemmas.{WorkGrows-trans}
use Rattle.nq_lines.proofs.TermLemmas.{term_grown}
use Rattle.nq_rewrite.proofs.conditions.spread_sides.Goals as goal

pub condition-requires-2-clause-parts : goal.condition-requires-2-clause-parts
condition-requires-2-clause-parts c =
    record { test = (term_grown c.args.history.now c.args.work.now c.condition.new.work c.args.test.first c.requires.stands c.condition.ensures.grows c.requires.test.first); first = (term_grown c.args.history.now c.args.work.now c.condition.new.work c.args.x c.requires.stands c.condition.ensures.grows c.requires.first); second = (term_grown c.args.history.now c.args.work.now c.condition.new.work c.args.y c.requires.stands c.condition.ensures.grows c.requires.second) }

pub condition-requires-3-clause-parts : goal.condition-requires-3-clause-parts
condition-requires-3-clause-parts c =
    record { test = (term_grown c.args.history.now c.args.work.now c.condition-2.new.work c.args.test.second c.requires.stands (WorkGrows-trans c.args.history.now c.args.work.now c.condition.new.work c.condition-2.new.work c.condition.ensures.grows c.condition-2.ensures.grows) c.requires.test.second); first = (term_grown c.args.history.now c.args.work.now c.condition-2.new.work c.args.x c.requires.stands (WorkGrows-trans c.args.history.now c.args.work.now c.condition.new.work c.condition-2.new.work c.condition.ensures.grows c.condition-2.ensures.grows) c.requires.first); second = (term_grown c.args.history.now c.args.work.now c.condition-2.new.work c.args.y c.requires.stands (WorkGrows-trans c.args.history.now c.args.work.now c.condition.new.work c.condition-2.new.work c.condition.ensures.grows c.condition-2.ensures.grows) c.requires.second) }

pub sides_of_parts-requires-clause-left : goal.sides_of_parts-requires-clause-left
sides_of_parts-requires-clause-left c =
    record { test = (term_grown c.args.history.now c.condition.new.work c.condition-3.new.work c.in_ok-whole.whole c.condition.ensures.grows.stands (WorkGrows-trans c.args.history.now c.condition.new.work c.condition-2.new.work c.condition-3.new.work c.condition-2.ensures.grows c.condition-3.ensures.grows) c.in_ok-whole.ensures.over); first = (term_grown c.args.history.now c.args.work.now c.condition-3.new.work c.args.x c.requires.stands (WorkGrows-trans c.args.history.now c.args.work.now c.condition.new.work c.condition-3.new.work c.condition.ensures.grows (WorkGrows-trans c.args.history.now c.condition.new.work c.condition-2.new.work c.condition-3.new.work c.condition-2.ensures.grows c.condition-3.ensures.grows)) c.requires.first); second = (term_grown c.args.history.now c.args.work.now c.condition-3.new.work c.args.y c.requires.stands (WorkGrows-trans c.args.history.now c.args.work.now c.condition.new.work c.condition-3.new.work c.condition.ensures.grows (WorkGrows-trans c.args.history.now c.condition.new.work c.condition-2.new.work c.condition-3.new.work c.condition-2.ensures.grows c.condition-3.ensures.grows)) c.requires.second) }

pub sides_of_parts-requires-clause-right : goal.sides_of_parts-requires-clause-right
sides_of_parts-requires-clause-right c =
    record { test = (term_grown c.args.history.now c.args.work.now c.condition-3.new.work c.args.test.test c.requires.stands (WorkGrows-trans c.args.history.now c.args.work.now c.condition.new.work c.condition-3.new.work c.condition.ensures.grows (WorkGrows-trans c.args.history.now c.condition.new.work c.condition-2.new.work c.condition-3.new.work c.condition-2.ensures.grows c.condition-3.ensures.grows)) c.requires.test.test); first = (term_grown c.args.history.now c.condition-2.new.work c.condition-3.new.work c.in_ok-first.first c.condition-2.ensures.grows.stands c.condition-3.ensures.grows c.in_ok-first.ensures.over); second = c.in_ok-second.ensures.over }

pub returns-in_err-first-clause-grows : goal.returns-in_err-first-clause-grows
returns-in_err-first-clause-grows c =
    (WorkGrows-trans c.args.history.now c.args.work.now c.condition.new.work c.condition-2.new.work c.condition.ensures.grows c.condition-2.ensures.grows)

pub returns-in_err-second-clause-grows : goal.returns-in_err-second-clause-grows
returns-in_err-second-clause-grows c =
    (WorkGrows-trans c.args.history.now c.args.work.now c.condition.new.work c.condition-3.new.work c.condition.ensures.grows (WorkGrows-trans c.args.history.now c.condition.new.work c.condition-2.new.work c.condition-3.new.work c.condition-2.ensures.grows c.condition-3.ensures.grows))

pub returns-clause-grows : goal.returns-clause-grows
returns-clause-grows c =
    (WorkGrows-trans c.args.history.now c.args.work.now c.condition.new.work c.sides_of_parts.new.work c.condition.ensures.grows (WorkGrows-trans c.args.history.now c.condition.new.work c.condition-2.new.work c.sides_of_parts.new.work c.condition-2.ensures.grows (WorkGrows-trans c.args.history.now c.condition-2.new.work c.condition-3.new.work c.sides_of_parts.new.work c.condition-3.ensures.grows c.sides_of_parts.ensures.grows)))
