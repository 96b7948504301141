use Rattle.nq_kernel.specs.declared.work.Work.{Work}
use Rattle.nq_kernel.proofs.GrowingLemmas.{WorkGrows-trans}
use Rattle.nq_lines.proofs.LineLemmas.{leads_only, only_stands}
use Rattle.nq_lines.proofs.TermLemmas.{term_grown}
use Rattle.nq_tactic.proofs.comparisons.comparison_fact.Goals as goal

pub from_equal_true-requires-clause-term : goal.from_equal_true-requires-clause-term
from_equal_true-requires-clause-term c = term_grown c.args.history.now c.args.work.now c.opposites.new.work c.args.p c.requires.stands c.opposites.ensures.grows c.requires.comparison

pub from_equal_true-requires-clause-line : goal.from_equal_true-requires-clause-line
from_equal_true-requires-clause-line c = only_stands c.opposites.new.work c.in_ok-law.law _ (leads_only c.opposites.new.work c.in_ok-law.law _ _ c.in_ok-law.ensures.line)

pub returns-in_err-line-clause-grows : goal.returns-in_err-line-clause-grows
returns-in_err-line-clause-grows c = WorkGrows-trans c.args.history.now c.args.work.now c.opposites.new.work c.from_equal_true.new.work c.opposites.ensures.grows c.from_equal_true.ensures.grows

pub returns-clause-fact : goal.returns-clause-fact
returns-clause-fact c =
    let h = c.args.history.now in
    let w0 : Work = c.args.work.now in
    let w2 : Work = c.from_equal_true.new.work in
    record { term = term_grown h w0 w2 c.args.p c.requires.stands (WorkGrows-trans h w0 c.opposites.new.work w2 c.opposites.ensures.grows c.from_equal_true.ensures.grows) c.requires.comparison; line = c.in_ok-line.ensures.stands }

pub returns-clause-grows : goal.returns-clause-grows
returns-clause-grows c = WorkGrows-trans c.args.history.now c.args.work.now c.opposites.new.work c.from_equal_true.new.work c.opposites.ensures.grows c.from_equal_true.ensures.grows
