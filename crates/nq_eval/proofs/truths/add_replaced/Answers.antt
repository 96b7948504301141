use Rattle.std.proofs.Common.{◌∷◌, [], ap}
use Rattle.std.specs.Prelude.{is_some}
use Rattle.nq_logic.specs.Terms.{Term}
use Rattle.nq_logic.specs.Words.{false_term, not_term}
use Rattle.nq_bank.specs.Content.{term_at}
use Rattle.nq_kernel.specs.declared.work.Work.{Work}
use Rattle.nq_eval.proofs.LineLemmas.{each_shallow, line_is, held_here}
use Rattle.nq_eval.proofs.ClosingLemmas.{small_value}
use Rattle.nq_eval.proofs.TruthLemmas.{replaced_truth, truth_literals_shallow, twice_false}
use Rattle.nq_eval.proofs.truths.add_replaced.Goals as goal

pub add_line-requires-clause-allowed : goal.add_line-requires-clause-allowed
add_line-requires-clause-allowed c =
    let work : Work = c.args.work.now in
    let v : Term = term_at work.bank c.args.v in
    ap is_some (replaced_truth c.args.history.now work v (small_value v c.requires.truth.small) c.requires.truth.is_true c.args.line c.new-path.result c.args.f c.new-path.ensures.items c.requires.falsity.is c.requires.line)

pub add_line-requires-clause-shallow : goal.add_line-requires-clause-shallow
add_line-requires-clause-shallow c =
    let work : Work = c.args.work.now in
    let v : Term = term_at work.bank c.args.v in
    each_shallow _ _ (replaced_truth c.args.history.now work v (small_value v c.requires.truth.small) c.requires.truth.is_true c.args.line c.new-path.result c.args.f c.new-path.ensures.items c.requires.falsity.is c.requires.line) (truth_literals_shallow v c.requires.truth.small)

pub add_line-requires-clause-over : goal.add_line-requires-clause-over
add_line-requires-clause-over c = record { terms = (c.requires.falsity.usable.over, tt); names = tt }

pub returns-clause-line : goal.returns-clause-line
returns-clause-line c =
    let work : Work = c.args.work.now in
    let new : Work = c.add_line.new.work in
    let v : Term = term_at work.bank c.args.v in
    held_here c.add_line.result work new c.args.v c.args.v (λ t u. t ∷ false_term ∷ not_term (twice_false u) ∷ []) c.add_line.ensures.grows.grows.bank c.requires.truth.usable.stands c.requires.truth.usable.stands
    (line_is c.add_line.result new _ _ (replaced_truth c.args.history.now work v (small_value v c.requires.truth.small) c.requires.truth.is_true c.args.line c.new-path.result c.args.f c.new-path.ensures.items c.requires.falsity.is c.requires.line) c.add_line.ensures.line)
