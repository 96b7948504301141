use Rattle.std.proofs.Common.{◌∷◌, []}
use Rattle.nq_logic.specs.Terms.{Term}
use Rattle.nq_logic.specs.Words.{false_term, equal_term}
use Rattle.nq_bank.specs.Content.{term_at}
use Rattle.nq_clause.specs.Substitution.{substitution_at}
use Rattle.nq_kernel.specs.declared.work.Work.{Work}
use Rattle.nq_eval.specs.Truths.{IsTruth}
use Rattle.nq_eval.proofs.LineLemmas.{grown_trans, line_is, held_here}
use Rattle.nq_eval.proofs.ClosingLemmas.{small_value}
use Rattle.nq_eval.proofs.TruthLemmas.{truth_after, small_depth, either_has, either_instance}
use Rattle.nq_eval.proofs.truths.add_either.Goals as goal

pub add_row_instance-requires-clause-row : goal.add_row_instance-requires-clause-row
add_row_instance-requires-clause-row c =
    let h = c.args.history.now in
    let mid : Work = c.pair_of.new.work in
    let v : Term = term_at mid.bank c.args.v in
    let truth : IsTruth mid.bank h c.args.v = truth_after h c.args.work.now mid c.requires.stands c.pair_of.ensures.grows c.args.v c.requires.truth in
    either_has mid.bank h c.ground_name-name.result c.ground_name-name.ensures.reads v (substitution_at mid.bank c.in_ok-pairs.pairs.items) (small_value v truth.small) (small_depth v truth.small) c.in_ok-pairs.ensures.reads

pub returns-clause-line : goal.returns-clause-line
returns-clause-line c =
    let h = c.args.history.now in
    let mid : Work = c.pair_of.new.work in
    let new : Work = c.add_row_instance.new.work in
    let v : Term = term_at mid.bank c.args.v in
    let truth : IsTruth mid.bank h c.args.v = truth_after h c.args.work.now mid c.requires.stands c.pair_of.ensures.grows c.args.v c.requires.truth in
    held_here c.add_row_instance.result mid new c.args.v c.args.v (λ t u. t ∷ equal_term u false_term ∷ []) c.add_row_instance.ensures.grows.grows.bank truth.usable.stands truth.usable.stands
    (line_is c.add_row_instance.result new _ _ (either_instance mid.bank h c.ground_name-name.result c.ground_name-name.ensures.reads v (substitution_at mid.bank c.in_ok-pairs.pairs.items) (small_value v truth.small) c.in_ok-pairs.ensures.reads) c.add_row_instance.ensures.line)

pub returns-clause-grows : goal.returns-clause-grows
returns-clause-grows c = grown_trans c.args.history.now c.args.work.now c.pair_of.new.work c.add_row_instance.new.work c.pair_of.ensures.grows c.add_row_instance.ensures.grows
