use Rattle.nq_kernel.proofs.GrowingLemmas.{WorkGrows-trans}
use Rattle.nq_lines.proofs.TermLemmas.{term_grown}
use Rattle.std.proofs.Common.{subst, ◌∷◌}
use Rattle.std.specs.Prelude.{IfSome, codes}
use Rattle.nq_bank.specs.Content.{term_at, terms_at}
use Rattle.nq_reduce.proofs.RewritingLemmas.{can_grown, can_term, can_more, told_before, argument_grown}
use Rattle.nq_reduce.proofs.HeldLemmas.{unchanged_after}
use Rattle.nq_reduce.proofs.StepLemmas.{sides_grown}
use Rattle.nq_reduce.specs.Rewriting.{ShowsEqual}
use Rattle.nq_reduce.proofs.EqualLemmas.{shows_now}
use Rattle.nq_reduce.proofs.equal_parts.by_unequal_terms.Goals as goal

pub by_parts_line-requires-clause-can : goal.by_parts_line-requires-clause-can
by_parts_line-requires-clause-can c = can_grown c.args.history.now c.args.work.now c.parts_line.new.work c.parts_line.ensures.grows c.args.assumed.now c.args.t c.requires.can

pub by_parts_line-requires-clause-sides : goal.by_parts_line-requires-clause-sides
by_parts_line-requires-clause-sides c = sides_grown c.args.history.now c.args.work.now c.parts_line.new.work c.parts_line.ensures.grows (codes "EQUAL") c.args.t c.args.sides c.requires.can.stands c.requires.can.term c.requires.sides

pub by_parts_line-requires-clause-left : goal.by_parts_line-requires-clause-left
by_parts_line-requires-clause-left c = argument_grown c.args.history.now c.args.work.now c.parts_line.new.work c.parts_line.ensures.grows c.args.sides.left c.args.unequal.part c.args.a c.requires.can.stands c.requires.sides.left c.requires.left

pub by_parts_line-requires-clause-right : goal.by_parts_line-requires-clause-right
by_parts_line-requires-clause-right c = term_grown c.args.history.now c.args.work.now c.parts_line.new.work c.args.b c.requires.can.stands c.parts_line.ensures.grows c.requires.right

pub by_parts_line-requires-clause-line : goal.by_parts_line-requires-clause-line
by_parts_line-requires-clause-line c = shows_now c.args.history.now c.args.work.now c.parts_line.new.work c.parts_line.ensures.grows (c.args.t ∷ c.args.assumed.now) c.args.a c.args.b c.in-Some.line (can_more c.args.history.now c.args.assumed.now c.args.work.now c.args.t c.args.a (can_term c.args.history.now c.args.work.now c.args.assumed.now c.args.t c.args.a c.requires.can c.requires.left.argument) c.requires.can.term) c.requires.right (subst (λ o. IfSome o (λ n. ShowsEqual c.parts_line.new.work n ((term_at c.args.work.now.bank c.args.t) ∷ terms_at c.args.work.now.bank c.args.assumed.now) (term_at c.args.work.now.bank c.args.a) (term_at c.args.work.now.bank c.args.b))) c.in-Some.is c.in_ok-line.ensures.line)

pub returns-in-Some-clause-ok : goal.returns-in-Some-clause-ok
returns-in-Some-clause-ok c = told_before c.args.history.now c.args.assumed.now c.args.work.now c.parts_line.new.work c.by_parts_line.new.work c.args.t c.by_parts_line.result c.parts_line.ensures.grows c.requires.can c.by_parts_line.ensures.ok

pub returns-in-Some-clause-grows : goal.returns-in-Some-clause-grows
returns-in-Some-clause-grows c = WorkGrows-trans c.args.history.now c.args.work.now c.parts_line.new.work c.by_parts_line.new.work c.parts_line.ensures.grows c.by_parts_line.ensures.grows

pub returns-in-None-clause-ok : goal.returns-in-None-clause-ok
returns-in-None-clause-ok c = unchanged_after c.args.history.now c.args.work.now c.parts_line.new.work c.args.assumed.now c.args.t c.unchanged.result c.parts_line.ensures.grows c.requires.can c.unchanged.ensures.term c.unchanged.ensures.line
