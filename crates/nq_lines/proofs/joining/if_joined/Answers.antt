use Rattle.nq_kernel.proofs.GrowingLemmas.{WorkGrows-trans}
use Rattle.nq_lines.proofs.LineLemmas.{only_grown, line_grown}
use Rattle.nq_lines.proofs.TermLemmas.{same_term_grown}
use Rattle.nq_lines.proofs.BranchLemmas.{branches_grown, if_id}
use Rattle.nq_lines.proofs.LineLemmas.{only_grown}
use Rattle.nq_lines.proofs.joining.if_joined.Goals as goal

pub condition-requires-clause-parts : goal.condition-requires-clause-parts
condition-requires-clause-parts c = branches_grown c.args.history.now c.args.work.now c.joined_line.new.work c.args.after c.requires.stands c.joined_line.ensures.grows c.requires.after

pub returns-in_err-term-clause-grows : goal.returns-in_err-term-clause-grows
returns-in_err-term-clause-grows c = (WorkGrows-trans c.args.history.now c.args.work.now c.joined_line.new.work c.condition.new.work c.joined_line.ensures.grows c.condition.ensures.grows)

pub returns-clause-grows : goal.returns-clause-grows
returns-clause-grows c = (WorkGrows-trans c.args.history.now c.args.work.now c.joined_line.new.work c.condition.new.work c.joined_line.ensures.grows c.condition.ensures.grows)

pub returns-clause-condition : goal.returns-clause-condition
returns-clause-condition c = if_id c.args.work.now c.joined_line.new.work c.condition.new.work c.in_ok-term.term c.args.after (same_term_grown c.args.history.now c.args.work.now c.joined_line.new.work c.args.after.test c.joined_line.ensures.grows c.requires.after.test) (same_term_grown c.args.history.now c.args.work.now c.joined_line.new.work c.args.after.first c.joined_line.ensures.grows c.requires.after.first) (same_term_grown c.args.history.now c.args.work.now c.joined_line.new.work c.args.after.second c.joined_line.ensures.grows c.requires.after.second) c.in_ok-term.ensures.condition

pub returns-clause-line : goal.returns-clause-line
returns-clause-line c = λ these a b d. only_grown c.args.history.now c.joined_line.new.work c.condition.new.work c.in_ok-line.line _ c.joined_line.ensures.grows.stands c.condition.ensures.grows (c.in_ok-line.ensures.line these a b d)

pub returns-clause-stands : goal.returns-clause-stands
returns-clause-stands c = (line_grown c.args.history.now c.joined_line.new.work c.condition.new.work c.in_ok-line.line c.joined_line.ensures.grows.stands c.condition.ensures.grows c.in_ok-line.ensures.stands)
