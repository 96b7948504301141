use Rattle.nq_kernel.proofs.GrowingLemmas.{WorkGrows-trans}
use Rattle.nq_lines.proofs.TermLemmas.{term_grown}
use Rattle.nq_reduce.proofs.RewritingLemmas.{can_grown, can_term, rewritten_now, rewritten_after}
use Rattle.nq_reduce.proofs.EqualLemmas.{shows_back}
use Rattle.nq_reduce.proofs.same_parts.parts_by_step.Goals as goal

pub lost_kind-requires-clause-can : goal.lost_kind-requires-clause-can
lost_kind-requires-clause-can c = (can_term c.args.history.now c.args.work.now c.args.assumed.now c.args.a c.args.step.term c.requires.can c.requires.step.new)

pub lost_kind-requires-clause-side : goal.lost_kind-requires-clause-side
lost_kind-requires-clause-side c = c.requires.object

pub lost_kind-requires-clause-equation : goal.lost_kind-requires-clause-equation
lost_kind-requires-clause-equation c = c.requires.assumed

pub parts_followed-requires-clause-can : goal.parts_followed-requires-clause-can
parts_followed-requires-clause-can c = can_grown c.args.history.now c.args.work.now c.lost_kind.new.work c.lost_kind.ensures.grows c.args.assumed.now c.args.a c.requires.can

pub parts_followed-requires-clause-right : goal.parts_followed-requires-clause-right
parts_followed-requires-clause-right c = term_grown c.args.history.now c.args.work.now c.lost_kind.new.work c.args.b c.requires.can.stands c.lost_kind.ensures.grows c.requires.right

pub parts_followed-requires-clause-step : goal.parts_followed-requires-clause-step
parts_followed-requires-clause-step c = rewritten_after c.args.history.now c.args.work.now c.lost_kind.new.work c.lost_kind.ensures.grows c.args.assumed.now c.args.a c.args.step c.requires.can c.requires.step

pub parts_followed-requires-clause-rest : goal.parts_followed-requires-clause-rest
parts_followed-requires-clause-rest c = rewritten_now c.args.history.now c.args.assumed.now c.args.work.now c.lost_kind.new.work c.args.step.term c.in_ok-rest.rest c.lost_kind.ensures.grows (can_term c.args.history.now c.args.work.now c.args.assumed.now c.args.a c.args.step.term c.requires.can c.requires.step.new) c.in_ok-rest.ensures.ok

pub returns-clause-line : goal.returns-clause-line
returns-clause-line c = shows_back c.args.history.now c.args.work.now c.lost_kind.new.work c.parts_followed.new.work c.lost_kind.ensures.grows c.args.assumed.now c.args.a c.args.b c.parts_followed.result c.requires.can c.requires.right c.parts_followed.ensures.line

pub returns-clause-grows : goal.returns-clause-grows
returns-clause-grows c = WorkGrows-trans c.args.history.now c.args.work.now c.lost_kind.new.work c.parts_followed.new.work c.lost_kind.ensures.grows c.parts_followed.ensures.grows
