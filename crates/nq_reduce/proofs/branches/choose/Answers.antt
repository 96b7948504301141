use Rattle.std.proofs.Common.{◌≡◌, subst}
use Rattle.std.specs.Prelude.{IfOk}
use Rattle.nq_reduce.specs.Rewriting.{branch_of}
use Rattle.nq_kernel.proofs.GrowingLemmas.{WorkGrows-trans}
use Rattle.nq_reduce.proofs.RewritingLemmas.{can_grown, can_term, known_now, told_before}
use Rattle.nq_instances.proofs.PartLemmas.{if_grown}
use Rattle.nq_reduce.proofs.branches.choose.Goals as goal

pub chosen-requires-clause-can : goal.chosen-requires-clause-can
chosen-requires-clause-can c = can_grown c.args.history.now c.args.work.now c.known_before.new.work c.known_before.ensures.grows c.args.assumed.now c.args.t c.requires.can

pub chosen-requires-clause-parts : goal.chosen-requires-clause-parts
chosen-requires-clause-parts c = if_grown c.args.history.now c.args.work.now c.known_before.new.work c.known_before.ensures.grows c.args.t c.args.parts c.requires.can.stands c.requires.can.term c.requires.parts

pub chosen-requires-clause-known : goal.chosen-requires-clause-known
chosen-requires-clause-known c = known_now c.args.history.now c.args.assumed.now c.args.work.now c.known_before.new.work c.args.parts.test c.in_ok-before.before c.known_before.ensures.grows (can_term c.args.history.now c.args.work.now c.args.assumed.now c.args.t c.args.parts.test c.requires.can c.requires.parts.test) c.in_ok-before.ensures.known

pub returns-clause-term : goal.returns-clause-term
returns-clause-term c = subst (λ b. IfOk c.chosen.result (λ r. r.term ≡ branch_of c.args.parts b)) c.in_ok-before.ensures.value c.chosen.ensures.term

pub returns-clause-ok : goal.returns-clause-ok
returns-clause-ok c = told_before c.args.history.now c.args.assumed.now c.args.work.now c.known_before.new.work c.chosen.new.work c.args.t c.chosen.result c.known_before.ensures.grows c.requires.can c.chosen.ensures.ok

pub returns-clause-grows : goal.returns-clause-grows
returns-clause-grows c = WorkGrows-trans c.args.history.now c.args.work.now c.known_before.new.work c.chosen.new.work c.known_before.ensures.grows c.chosen.ensures.grows
