use Rattle.nq_kernel.proofs.GrowingLemmas.{WorkGrows-trans}
use Rattle.nq_lines.proofs.LineLemmas.{only_stands, leads_only}
use Rattle.nq_lines.proofs.TermLemmas.{term_grown}
use Rattle.nq_simplify.proofs.BasisLemmas.{basis_is}
use Rattle.nq_simplify.proofs.basis.make_basis.Goals as goal

pub returns-in_err-t-clause-grows : goal.returns-in_err-t-clause-grows
returns-in_err-t-clause-grows c = (WorkGrows-trans c.args.history.now c.args.work.now c.add_if_rows.new.work c.truth.new.work c.add_if_rows.ensures.grows c.truth.ensures.grows)

pub returns-in_err-f-clause-grows : goal.returns-in_err-f-clause-grows
returns-in_err-f-clause-grows c = (WorkGrows-trans c.args.history.now c.args.work.now c.add_if_rows.new.work c.falsity.new.work c.add_if_rows.ensures.grows (WorkGrows-trans c.args.history.now c.add_if_rows.new.work c.truth.new.work c.falsity.new.work c.truth.ensures.grows c.falsity.ensures.grows))

pub returns-in_err-same-clause-grows : goal.returns-in_err-same-clause-grows
returns-in_err-same-clause-grows c = (WorkGrows-trans c.args.history.now c.args.work.now c.add_if_rows.new.work c.reflexive.new.work c.add_if_rows.ensures.grows (WorkGrows-trans c.args.history.now c.add_if_rows.new.work c.truth.new.work c.reflexive.new.work c.truth.ensures.grows (WorkGrows-trans c.args.history.now c.truth.new.work c.falsity.new.work c.reflexive.new.work c.falsity.ensures.grows c.reflexive.ensures.grows)))

pub returns-in_err-not_false-clause-grows : goal.returns-in_err-not_false-clause-grows
returns-in_err-not_false-clause-grows c = (WorkGrows-trans c.args.history.now c.args.work.now c.add_if_rows.new.work c.from_equal_false.new.work c.add_if_rows.ensures.grows (WorkGrows-trans c.args.history.now c.add_if_rows.new.work c.truth.new.work c.from_equal_false.new.work c.truth.ensures.grows (WorkGrows-trans c.args.history.now c.truth.new.work c.falsity.new.work c.from_equal_false.new.work c.falsity.ensures.grows (WorkGrows-trans c.args.history.now c.falsity.new.work c.reflexive.new.work c.from_equal_false.new.work c.reflexive.ensures.grows c.from_equal_false.ensures.grows))))

pub returns-clause-grows : goal.returns-clause-grows
returns-clause-grows c = (WorkGrows-trans c.args.history.now c.args.work.now c.add_if_rows.new.work c.from_equal_false.new.work c.add_if_rows.ensures.grows (WorkGrows-trans c.args.history.now c.add_if_rows.new.work c.truth.new.work c.from_equal_false.new.work c.truth.ensures.grows (WorkGrows-trans c.args.history.now c.truth.new.work c.falsity.new.work c.from_equal_false.new.work c.falsity.ensures.grows (WorkGrows-trans c.args.history.now c.falsity.new.work c.reflexive.new.work c.from_equal_false.new.work c.reflexive.ensures.grows c.from_equal_false.ensures.grows))))

pub reflexive-requires-clause-term : goal.reflexive-requires-clause-term
reflexive-requires-clause-term c = c.in_ok-f.ensures.over

pub from_equal_false-requires-clause-term : goal.from_equal_false-requires-clause-term
from_equal_false-requires-clause-term c = term_grown c.args.history.now c.falsity.new.work c.reflexive.new.work c.in_ok-f.f c.falsity.ensures.grows.stands c.reflexive.ensures.grows c.in_ok-f.ensures.over

pub from_equal_false-requires-clause-line : goal.from_equal_false-requires-clause-line
from_equal_false-requires-clause-line c = only_stands c.reflexive.new.work c.in_ok-same.same _ (leads_only c.reflexive.new.work c.in_ok-same.same _ _ c.in_ok-same.ensures.line)

pub returns-clause-basis : goal.returns-clause-basis
returns-clause-basis c =
    basis_is c.args.history.now c.add_if_rows.new.work c.truth.new.work c.falsity.new.work c.reflexive.new.work c.from_equal_false.new.work c.in_ok-rows.rows c.in_ok-t.t c.in_ok-f.f c.in_ok-same.same c.in_ok-not_false.not_false c.add_if_rows.ensures.grows.stands c.truth.ensures.grows.stands c.falsity.ensures.grows.stands c.reflexive.ensures.grows.stands c.truth.ensures.grows c.falsity.ensures.grows c.reflexive.ensures.grows c.from_equal_false.ensures.grows
    c.in_ok-rows.ensures.rows c.in_ok-t.ensures.over c.in_ok-t.ensures.term c.in_ok-f.ensures.over c.in_ok-f.ensures.term c.in_ok-same.ensures.line c.in_ok-not_false.ensures.line
