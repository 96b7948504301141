use Rattle.std.proofs.Common.{subst, sym}
use Rattle.std.specs.Prelude.{All}
use Rattle.nq_bank.proofs.Standing.{All-push}
use Rattle.nq_lines.specs.Lines.{IsTermIn}
use Rattle.nq_arithmetic.proofs.refuting.with_literal.Goals as goal

pub returns-clause-literals : goal.returns-clause-literals
returns-clause-literals c = subst (All (IsTermIn c.args.history.now c.args.work.now)) (sym c.in_ok-push_term.ensures.ok) (All-push (IsTermIn c.args.history.now c.args.work.now) c.in_ok-all.all.items c.args.more c.in_ok-all.ensures.terms c.requires.more)
