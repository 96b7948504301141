use Rattle.std.proofs.Common.{◌∙◌, sym, refl}
use Rattle.nq_rule.proofs.Made.{for_ok}
use Rattle.nq_linear_rule.specs.Sums.{summands_at}
use Rattle.nq_kernel.specs.declared.rule.Rule.TheVariants.{Linear}
use Rattle.nq_kernel.specs.Meaning.{clause_at}
use Rattle.nq_kernel.proofs.Concluding.{linear_is, linear_test}
use Rattle.nq_linear.proofs.RefutingLemmas.{drawn_over, drawn_stand, only_literals}
use Rattle.nq_linear.proofs.refuting.add_refutation.Goals as goal

pub add-requires-clause-rule : goal.add-requires-clause-rule
add-requires-clause-rule c = drawn_stand c.args.work.now.bank c.args.literals.now c.args.summands.items c.requires.refuted.draws

pub add-requires-clause-over : goal.add-requires-clause-over
add-requires-clause-over c = drawn_over c.args.work.now.bank c.args.literals.now c.args.history.now c.args.summands.items c.requires.refuted.draws c.requires.over

pub add-requires-clause-allowed : goal.add-requires-clause-allowed
add-requires-clause-allowed c =
    let work = c.args.work.now in
    sym (linear_test work.bank c.args.history.now work.log (Linear c.args.summands) (summands_at work.bank c.args.summands.items) refl) ∙ c.requires.refuted.refuted

pub returns-clause-line : goal.returns-clause-line
returns-clause-line c =
    let work = c.args.work.now in
    let new = c.add.new.self in
    for_ok c.add.result _ _
    (λ n is.
    only_literals work.bank new.bank c.args.literals.now c.args.summands.items (clause_at new.bank new.log n) c.add.ensures.grows.bank c.requires.literals c.requires.refuted.draws c.requires.refuted.refuted
    (is ∙ linear_is work.bank c.args.history.now work.log (Linear c.args.summands) (summands_at work.bank c.args.summands.items) refl)) c.add.ensures.line
