use Rattle.nq_kernel.proofs.GrowingLemmas.{WorkGrows-refl}
use Rattle.nq_lines.proofs.LineLemmas.{line_grown}
use Rattle.nq_types.proofs.replacing.said_there.Goals as goal

pub returns-then-not-recognizes_there-clause-grows : goal.returns-then-not-recognizes_there-clause-grows
returns-then-not-recognizes_there-clause-grows c = WorkGrows-refl c.args.history.now c.args.work.now c.requires.stands

pub returns-in_err-path-clause-grows : goal.returns-in_err-path-clause-grows
returns-in_err-path-clause-grows c = WorkGrows-refl c.args.history.now c.args.work.now c.requires.stands

pub returns-in-None-clause-line : goal.returns-in-None-clause-line
returns-in-None-clause-line c = (line_grown c.args.history.now c.args.work.now c.replaced.new.work c.args.line c.requires.stands c.replaced.ensures.grows c.requires.line)
