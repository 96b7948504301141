use Rattle.std.proofs.Common.{List, ap}
use Rattle.nq_history.specs.declared.entry.Entry.{Entry}
use Rattle.nq_kernel.specs.declared.work.Work.{Work}
use Rattle.nq_eval.specs.Lines.{GrowsUncounted}
use Rattle.nq_eval.proofs.LineLemmas.{line_is, each_shallow, equation_shallow, equates_here}
use Rattle.std.specs.Prelude.{is_some}
use Rattle.nq_bank.specs.Content.{term_at}
use Rattle.nq_eval.proofs.ChoiceLemmas.{falsity_cut}
use Rattle.nq_eval.proofs.choices.cut_false_test.Goals as goal

pub add_line-requires-clause-allowed : goal.add_line-requires-clause-allowed
add_line-requires-clause-allowed c =
    let h : List Entry = c.args.history.now in
    let w0 : Work = c.args.work.now in
    ap is_some (falsity_cut h w0 c.args.first c.args.second c.args.v (term_at w0.bank c.args.u) (term_at w0.bank c.args.y) c.requires.test.is c.requires.first c.requires.second)

pub add_line-requires-clause-shallow : goal.add_line-requires-clause-shallow
add_line-requires-clause-shallow c =
    let h : List Entry = c.args.history.now in
    let w0 : Work = c.args.work.now in
    each_shallow _ _ (falsity_cut h w0 c.args.first c.args.second c.args.v (term_at w0.bank c.args.u) (term_at w0.bank c.args.y) c.requires.test.is c.requires.first c.requires.second) (equation_shallow (term_at w0.bank c.args.u) (term_at w0.bank c.args.y) c.requires.left.shallow c.requires.right.shallow, tt)

pub add_line-requires-clause-over : goal.add_line-requires-clause-over
add_line-requires-clause-over c =
    record { terms = (c.requires.test.usable.over, tt); names = tt }

pub returns-clause-line : goal.returns-clause-line
returns-clause-line c =
    let h : List Entry = c.args.history.now in
    let w0 : Work = c.args.work.now in
    let w1 : Work = c.add_line.new.work in
    let d1 : GrowsUncounted h w0 w1 = c.add_line.ensures.grows in
    equates_here c.add_line.result h w0 w1 c.args.u c.args.y d1.grows.bank c.requires.left c.requires.right (line_is c.add_line.result w1 _ _ (falsity_cut h w0 c.args.first c.args.second c.args.v (term_at w0.bank c.args.u) (term_at w0.bank c.args.y) c.requires.test.is c.requires.first c.requires.second) c.add_line.ensures.line)
