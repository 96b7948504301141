use Rattle.std.proofs.Common.{sym, subst}
use Rattle.std.specs.Prelude.{All}
use Rattle.nq_kernel.proofs.GrowingLemmas.{WorkGrows-refl}
use Rattle.nq_lines.specs.Lines.{IsTermIn}
use Rattle.nq_elim.proofs.reasons.reason_of.Goals as goal

pub returns-in_err-more-clause-grows : goal.returns-in_err-more-clause-grows
returns-in_err-more-clause-grows c = WorkGrows-refl c.args.history.now c.args.work.now c.requires.stands
