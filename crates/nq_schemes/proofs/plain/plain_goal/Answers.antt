use Rattle.std.proofs.Common.{sym, subst}
use Rattle.std.specs.Prelude.{All}
use Rattle.nq_bank.proofs.Standing.{All-push}
use Rattle.nq_lines.specs.Lines.{IsTermIn}
use Rattle.nq_schemes.proofs.GrownLemmas.{none_all}
use Rattle.nq_schemes.proofs.plain.plain_goal.Goals as goal

pub loop-literal-init : goal.loop-literal-init
loop-literal-init c = none_all (IsTermIn c.args.history.now c.args.work.now) c.new-plain.result.items c.new-plain.ensures.items

pub loop-literal-preserved : goal.loop-literal-preserved
loop-literal-preserved c = subst (All (IsTermIn c.args.history.now c.args.work.now)) (sym c.in_ok-add_literal.ensures.more) (All-push (IsTermIn c.args.history.now c.args.work.now) c.loop-literal.plain.items c.plain_of-t.result c.loop-literal.invariant c.plain_of-t.ensures)
