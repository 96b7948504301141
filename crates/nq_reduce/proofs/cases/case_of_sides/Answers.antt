use Rattle.std.specs.Prelude.{codes}
use Rattle.nq_reduce.proofs.RewritingLemmas.{can_term, rewritten_now}
use Rattle.nq_reduce.proofs.StepLemmas.{sides_grown}
use Rattle.nq_reduce.proofs.ShellLemmas.{led_back}
use Rattle.nq_reduce.proofs.cases.case_of_sides.Goals as goal

pub part_under-requires-clause-can : goal.part_under-requires-clause-can
part_under-requires-clause-can c = (can_term c.args.history.now c.args.work.now c.args.assumed.now c.args.kept c.args.sides.left c.requires.can c.requires.sides.left)

pub ends_in-requires-clause-sides : goal.ends_in-requires-clause-sides
ends_in-requires-clause-sides c = sides_grown c.args.history.now c.args.work.now c.part_under.new.work c.part_under.ensures.grows (codes "EQUAL") c.args.kept c.args.sides c.requires.can.stands c.requires.can.term c.requires.sides

pub ends_in-requires-clause-new : goal.ends_in-requires-clause-new
ends_in-requires-clause-new c = rewritten_now c.args.history.now c.args.assumed.now c.args.work.now c.part_under.new.work c.args.sides.left c.in_ok-new.new c.part_under.ensures.grows (can_term c.args.history.now c.args.work.now c.args.assumed.now c.args.kept c.args.sides.left c.requires.can c.requires.sides.left) c.in_ok-new.ensures.ok

pub returns-clause-line : goal.returns-clause-line
returns-clause-line c = led_back c.args.history.now c.args.work.now c.part_under.new.work c.part_under.ensures.grows c.args.assumed.now c.args.kept c.requires.can c.ends_in.result c.ends_in.ensures
