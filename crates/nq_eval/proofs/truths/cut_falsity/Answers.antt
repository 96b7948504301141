use Rattle.std.proofs.Common.{◌∷◌, [], ap}
use Rattle.std.specs.Prelude.{is_some}
use Rattle.nq_logic.specs.Terms.{Term}
use Rattle.nq_bank.specs.Content.{term_at}
use Rattle.nq_kernel.specs.declared.work.Work.{Work}
use Rattle.nq_eval.proofs.LineLemmas.{each_shallow, line_is, held_here}
use Rattle.nq_eval.proofs.ClosingLemmas.{small_value}
use Rattle.nq_eval.proofs.TruthLemmas.{truth_alone, one_literal_shallow}
use Rattle.nq_eval.proofs.truths.cut_falsity.Goals as goal

pub add_line-requires-clause-allowed : goal.add_line-requires-clause-allowed
add_line-requires-clause-allowed c =
    let v : Term = term_at c.args.work.now.bank c.args.v in
    ap is_some (truth_alone c.args.history.now c.args.work.now v (small_value v c.requires.truth.small) c.requires.truth.is_true c.args.first c.args.second c.args.f c.requires.falsity.is c.requires.first c.requires.second)

pub add_line-requires-clause-shallow : goal.add_line-requires-clause-shallow
add_line-requires-clause-shallow c =
    let v : Term = term_at c.args.work.now.bank c.args.v in
    each_shallow _ _ (truth_alone c.args.history.now c.args.work.now v (small_value v c.requires.truth.small) c.requires.truth.is_true c.args.first c.args.second c.args.f c.requires.falsity.is c.requires.first c.requires.second) (one_literal_shallow v c.requires.truth.small)

pub add_line-requires-clause-over : goal.add_line-requires-clause-over
add_line-requires-clause-over c = record { terms = (c.requires.falsity.usable.over, tt); names = tt }

pub returns-clause-line : goal.returns-clause-line
returns-clause-line c =
    let new : Work = c.add_line.new.work in
    let v : Term = term_at c.args.work.now.bank c.args.v in
    held_here c.add_line.result c.args.work.now new c.args.v c.args.v (λ t u. t ∷ []) c.add_line.ensures.grows.grows.bank c.requires.truth.usable.stands c.requires.truth.usable.stands
    (line_is c.add_line.result new _ _ (truth_alone c.args.history.now c.args.work.now v (small_value v c.requires.truth.small) c.requires.truth.is_true c.args.first c.args.second c.args.f c.requires.falsity.is c.requires.first c.requires.second) c.add_line.ensures.line)
