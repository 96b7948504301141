use Rattle.std.proofs.Common.{subst}
use Rattle.std.specs.Prelude.{IfSome}
use Rattle.nq_kernel.specs.Growing.{LineStands}
use Rattle.nq_kernel.proofs.GrowingLemmas.{WorkGrows-trans}
use Rattle.nq_lines.proofs.TermLemmas.{term_grown}
use Rattle.nq_tactic.proofs.told_truths.line_of_turned.Goals as goal

pub symmetric-requires-clause-left : goal.symmetric-requires-clause-left
symmetric-requires-clause-left c = term_grown c.args.history.now c.args.work.now c.known_at.new.work c.args.t c.requires.stands c.known_at.ensures.grows c.requires.term

pub symmetric-requires-clause-right : goal.symmetric-requires-clause-right
symmetric-requires-clause-right c = term_grown c.args.history.now c.args.work.now c.known_at.new.work c.args.yes c.requires.stands c.known_at.ensures.grows c.requires.yes

pub symmetric-requires-clause-line : goal.symmetric-requires-clause-line
symmetric-requires-clause-line c = subst (λ o. IfSome o (LineStands c.known_at.new.work)) c.in-Some.is c.in_ok-line.ensures.line

pub returns-in_err-turned-in-Some-clause-grows : goal.returns-in_err-turned-in-Some-clause-grows
returns-in_err-turned-in-Some-clause-grows c = WorkGrows-trans c.args.history.now c.args.work.now c.known_at.new.work c.symmetric.new.work c.known_at.ensures.grows c.symmetric.ensures.grows

pub returns-in_ok-turned-in-Some-clause-grows : goal.returns-in_ok-turned-in-Some-clause-grows
returns-in_ok-turned-in-Some-clause-grows c = WorkGrows-trans c.args.history.now c.args.work.now c.known_at.new.work c.symmetric.new.work c.known_at.ensures.grows c.symmetric.ensures.grows
