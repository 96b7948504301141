use Rattle.nq_kernel.proofs.GrowingLemmas.{WorkGrows-trans}
use Rattle.nq_lines.proofs.TermLemmas.{term_grown}
use Rattle.nq_rewrite.proofs.ConditionLemmas.{a_plain, x_plain, y_plain}
use Rattle.nq_rewrite.proofs.conditions.turned_sides.Goals as goal

pub variable-requires-clause-name : goal.variable-requires-clause-name
variable-requires-clause-name c =
    a_plain

pub variable-requires-2-clause-name : goal.variable-requires-2-clause-name
variable-requires-2-clause-name c =
    x_plain

pub variable-requires-3-clause-name : goal.variable-requires-3-clause-name
variable-requires-3-clause-name c =
    y_plain

pub deny-requires-clause-term : goal.deny-requires-clause-term
deny-requires-clause-term c =
    (term_grown c.args.history.now c.variable.new.work c.variable-3.new.work c.in_ok-a.a c.variable.ensures.grows.stands (WorkGrows-trans c.args.history.now c.variable.new.work c.variable-2.new.work c.variable-3.new.work c.variable-2.ensures.grows c.variable-3.ensures.grows) c.in_ok-a.ensures.over)

pub sides_of_parts-requires-clause-left : goal.sides_of_parts-requires-clause-left
sides_of_parts-requires-clause-left c =
    record { test = c.in_ok-test.ensures.over; first = (term_grown c.args.history.now c.variable-2.new.work c.deny.new.work c.in_ok-x.x c.variable-2.ensures.grows.stands (WorkGrows-trans c.args.history.now c.variable-2.new.work c.variable-3.new.work c.deny.new.work c.variable-3.ensures.grows c.deny.ensures.grows) c.in_ok-x.ensures.over); second = (term_grown c.args.history.now c.variable-3.new.work c.deny.new.work c.in_ok-y.y c.variable-3.ensures.grows.stands c.deny.ensures.grows c.in_ok-y.ensures.over) }

pub sides_of_parts-requires-clause-right : goal.sides_of_parts-requires-clause-right
sides_of_parts-requires-clause-right c =
    record { test = (term_grown c.args.history.now c.variable.new.work c.deny.new.work c.in_ok-a.a c.variable.ensures.grows.stands (WorkGrows-trans c.args.history.now c.variable.new.work c.variable-2.new.work c.deny.new.work c.variable-2.ensures.grows (WorkGrows-trans c.args.history.now c.variable-2.new.work c.variable-3.new.work c.deny.new.work c.variable-3.ensures.grows c.deny.ensures.grows)) c.in_ok-a.ensures.over); first = (term_grown c.args.history.now c.variable-3.new.work c.deny.new.work c.in_ok-y.y c.variable-3.ensures.grows.stands c.deny.ensures.grows c.in_ok-y.ensures.over); second = (term_grown c.args.history.now c.variable-2.new.work c.deny.new.work c.in_ok-x.x c.variable-2.ensures.grows.stands (WorkGrows-trans c.args.history.now c.variable-2.new.work c.variable-3.new.work c.deny.new.work c.variable-3.ensures.grows c.deny.ensures.grows) c.in_ok-x.ensures.over) }

pub returns-in_err-x-clause-grows : goal.returns-in_err-x-clause-grows
returns-in_err-x-clause-grows c =
    (WorkGrows-trans c.args.history.now c.args.work.now c.variable.new.work c.variable-2.new.work c.variable.ensures.grows c.variable-2.ensures.grows)

pub returns-in_err-y-clause-grows : goal.returns-in_err-y-clause-grows
returns-in_err-y-clause-grows c =
    (WorkGrows-trans c.args.history.now c.args.work.now c.variable.new.work c.variable-3.new.work c.variable.ensures.grows (WorkGrows-trans c.args.history.now c.variable.new.work c.variable-2.new.work c.variable-3.new.work c.variable-2.ensures.grows c.variable-3.ensures.grows))

pub returns-in_err-test-clause-grows : goal.returns-in_err-test-clause-grows
returns-in_err-test-clause-grows c =
    (WorkGrows-trans c.args.history.now c.args.work.now c.variable.new.work c.deny.new.work c.variable.ensures.grows (WorkGrows-trans c.args.history.now c.variable.new.work c.variable-2.new.work c.deny.new.work c.variable-2.ensures.grows (WorkGrows-trans c.args.history.now c.variable-2.new.work c.variable-3.new.work c.deny.new.work c.variable-3.ensures.grows c.deny.ensures.grows)))

pub returns-clause-grows : goal.returns-clause-grows
returns-clause-grows c =
    (WorkGrows-trans c.args.history.now c.args.work.now c.variable.new.work c.sides_of_parts.new.work c.variable.ensures.grows (WorkGrows-trans c.args.history.now c.variable.new.work c.variable-2.new.work c.sides_of_parts.new.work c.variable-2.ensures.grows (WorkGrows-trans c.args.history.now c.variable-2.new.work c.variable-3.new.work c.sides_of_parts.new.work c.variable-3.ensures.grows (WorkGrows-trans c.args.history.now c.variable-3.new.work c.deny.new.work c.sides_of_parts.new.work c.deny.ensures.grows c.sides_of_parts.ensures.grows))))
