use Rattle.nq_kernel.proofs.GrowingLemmas.{WorkGrows-trans}
use Rattle.nq_lines.proofs.TermLemmas.{term_grown}
use Rattle.nq_rewrite.proofs.ConditionLemmas.{a_plain, b_plain, x_plain, y_plain, z_plain}
use Rattle.nq_rewrite.proofs.conditions.nested_sides.Goals as goal

pub variable-requires-clause-name : goal.variable-requires-clause-name
variable-requires-clause-name c =
    a_plain

pub variable-requires-2-clause-name : goal.variable-requires-2-clause-name
variable-requires-2-clause-name c =
    b_plain

pub variable-requires-3-clause-name : goal.variable-requires-3-clause-name
variable-requires-3-clause-name c =
    z_plain

pub variable-requires-4-clause-name : goal.variable-requires-4-clause-name
variable-requires-4-clause-name c =
    x_plain

pub variable-requires-5-clause-name : goal.variable-requires-5-clause-name
variable-requires-5-clause-name c =
    y_plain

pub spread_sides-requires-clause-test : goal.spread_sides-requires-clause-test
spread_sides-requires-clause-test c =
    record { test = (term_grown c.args.history.now c.variable.new.work c.variable-5.new.work c.in_ok-a.a c.variable.ensures.grows.stands (WorkGrows-trans c.args.history.now c.variable.new.work c.variable-2.new.work c.variable-5.new.work c.variable-2.ensures.grows (WorkGrows-trans c.args.history.now c.variable-2.new.work c.variable-3.new.work c.variable-5.new.work c.variable-3.ensures.grows (WorkGrows-trans c.args.history.now c.variable-3.new.work c.variable-4.new.work c.variable-5.new.work c.variable-4.ensures.grows c.variable-5.ensures.grows))) c.in_ok-a.ensures.over); first = (term_grown c.args.history.now c.variable-2.new.work c.variable-5.new.work c.in_ok-b.b c.variable-2.ensures.grows.stands (WorkGrows-trans c.args.history.now c.variable-2.new.work c.variable-3.new.work c.variable-5.new.work c.variable-3.ensures.grows (WorkGrows-trans c.args.history.now c.variable-3.new.work c.variable-4.new.work c.variable-5.new.work c.variable-4.ensures.grows c.variable-5.ensures.grows)) c.in_ok-b.ensures.over); second = (term_grown c.args.history.now c.variable-3.new.work c.variable-5.new.work c.in_ok-z.z c.variable-3.ensures.grows.stands (WorkGrows-trans c.args.history.now c.variable-3.new.work c.variable-4.new.work c.variable-5.new.work c.variable-4.ensures.grows c.variable-5.ensures.grows) c.in_ok-z.ensures.over) }

pub spread_sides-requires-clause-first : goal.spread_sides-requires-clause-first
spread_sides-requires-clause-first c =
    (term_grown c.args.history.now c.variable-4.new.work c.variable-5.new.work c.in_ok-x.x c.variable-4.ensures.grows.stands c.variable-5.ensures.grows c.in_ok-x.ensures.over)

pub returns-in_err-b-clause-grows : goal.returns-in_err-b-clause-grows
returns-in_err-b-clause-grows c =
    (WorkGrows-trans c.args.history.now c.args.work.now c.variable.new.work c.variable-2.new.work c.variable.ensures.grows c.variable-2.ensures.grows)

pub returns-in_err-z-clause-grows : goal.returns-in_err-z-clause-grows
returns-in_err-z-clause-grows c =
    (WorkGrows-trans c.args.history.now c.args.work.now c.variable.new.work c.variable-3.new.work c.variable.ensures.grows (WorkGrows-trans c.args.history.now c.variable.new.work c.variable-2.new.work c.variable-3.new.work c.variable-2.ensures.grows c.variable-3.ensures.grows))

pub returns-in_err-x-clause-grows : goal.returns-in_err-x-clause-grows
returns-in_err-x-clause-grows c =
    (WorkGrows-trans c.args.history.now c.args.work.now c.variable.new.work c.variable-4.new.work c.variable.ensures.grows (WorkGrows-trans c.args.history.now c.variable.new.work c.variable-2.new.work c.variable-4.new.work c.variable-2.ensures.grows (WorkGrows-trans c.args.history.now c.variable-2.new.work c.variable-3.new.work c.variable-4.new.work c.variable-3.ensures.grows c.variable-4.ensures.grows)))

pub returns-in_err-y-clause-grows : goal.returns-in_err-y-clause-grows
returns-in_err-y-clause-grows c =
    (WorkGrows-trans c.args.history.now c.args.work.now c.variable.new.work c.variable-5.new.work c.variable.ensures.grows (WorkGrows-trans c.args.history.now c.variable.new.work c.variable-2.new.work c.variable-5.new.work c.variable-2.ensures.grows (WorkGrows-trans c.args.history.now c.variable-2.new.work c.variable-3.new.work c.variable-5.new.work c.variable-3.ensures.grows (WorkGrows-trans c.args.history.now c.variable-3.new.work c.variable-4.new.work c.variable-5.new.work c.variable-4.ensures.grows c.variable-5.ensures.grows))))

pub returns-clause-grows : goal.returns-clause-grows
returns-clause-grows c =
    (WorkGrows-trans c.args.history.now c.args.work.now c.variable.new.work c.spread_sides.new.work c.variable.ensures.grows (WorkGrows-trans c.args.history.now c.variable.new.work c.variable-2.new.work c.spread_sides.new.work c.variable-2.ensures.grows (WorkGrows-trans c.args.history.now c.variable-2.new.work c.variable-3.new.work c.spread_sides.new.work c.variable-3.ensures.grows (WorkGrows-trans c.args.history.now c.variable-3.new.work c.variable-4.new.work c.spread_sides.new.work c.variable-4.ensures.grows (WorkGrows-trans c.args.history.now c.variable-4.new.work c.variable-5.new.work c.spread_sides.new.work c.variable-5.ensures.grows c.spread_sides.ensures.grows)))))
