use Rattle.nq_kernel.proofs.GrowingLemmas.{WorkGrows-trans}
use Rattle.nq_lines.proofs.TermLemmas.{term_grown}
use Rattle.std.proofs.Common.{subst}
use Rattle.std.specs.Prelude.{IfSome}
use Rattle.nq_bank.specs.Content.{terms_at}
use Rattle.nq_reduce.specs.Held.{IsHeld}
use Rattle.nq_reduce.proofs.RewritingLemmas.{can_grown, can_term}
use Rattle.nq_reduce.proofs.HeldLemmas.{held_now}
use Rattle.nq_reduce.proofs.ShellLemmas.{assumed_still}
use Rattle.nq_reduce.proofs.EqualLemmas.{shows_back}
use Rattle.nq_reduce.proofs.same_parts.parts_under.Goals as goal

pub part_fact-requires : goal.part_fact-requires
part_fact-requires c = record { can = can_term c.args.history.now c.args.work.now c.args.assumed.now c.args.a c.args.l c.requires.can c.requires.object }

pub parts_by_fact-requires-clause-can : goal.parts_by_fact-requires-clause-can
parts_by_fact-requires-clause-can c = can_grown c.args.history.now c.args.work.now c.part_fact.new.work c.part_fact.ensures.grows c.args.assumed.now c.args.a c.requires.can

pub parts_by_fact-requires-clause-right : goal.parts_by_fact-requires-clause-right
parts_by_fact-requires-clause-right c = term_grown c.args.history.now c.args.work.now c.part_fact.new.work c.args.b c.requires.can.stands c.part_fact.ensures.grows c.requires.right

pub parts_by_fact-requires-clause-assumed : goal.parts_by_fact-requires-clause-assumed
parts_by_fact-requires-clause-assumed c = assumed_still c.args.history.now c.args.work.now c.part_fact.new.work c.part_fact.ensures.grows c.args.assumed.now c.args.e c.args.a c.requires.can c.requires.assumed

pub parts_by_fact-requires-clause-object : goal.parts_by_fact-requires-clause-object
parts_by_fact-requires-clause-object c = term_grown c.args.history.now c.args.work.now c.part_fact.new.work c.args.l c.requires.can.stands c.part_fact.ensures.grows c.requires.object

pub parts_by_fact-requires-clause-fact : goal.parts_by_fact-requires-clause-fact
parts_by_fact-requires-clause-fact c = held_now c.args.history.now c.args.work.now c.part_fact.new.work c.part_fact.ensures.grows c.args.assumed.now c.args.a c.requires.can c.in-Some.fact (subst (λ o. IfSome o (IsHeld c.args.history.now c.part_fact.new.work (terms_at c.args.work.now.bank c.args.assumed.now))) c.in-Some.is c.in_ok-fact.ensures.held)

pub returns-in-Some-clause-line : goal.returns-in-Some-clause-line
returns-in-Some-clause-line c = shows_back c.args.history.now c.args.work.now c.part_fact.new.work c.parts_by_fact.new.work c.part_fact.ensures.grows c.args.assumed.now c.args.a c.args.b c.parts_by_fact.result c.requires.can c.requires.right c.parts_by_fact.ensures.line

pub returns-in-Some-clause-grows : goal.returns-in-Some-clause-grows
returns-in-Some-clause-grows c = WorkGrows-trans c.args.history.now c.args.work.now c.part_fact.new.work c.parts_by_fact.new.work c.part_fact.ensures.grows c.parts_by_fact.ensures.grows
