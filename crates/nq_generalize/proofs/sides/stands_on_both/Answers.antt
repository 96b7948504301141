use Rattle.nq_bank.specs.Content.{text_at, term_at}
use Rattle.nq_generalize.proofs.SideLemmas.{both_sides, no_sides}
use Rattle.nq_generalize.proofs.sides.stands_on_both.Goals as goal

pub returns-then-is_comparison-clause-answer : goal.returns-then-is_comparison-clause-answer
returns-then-is_comparison-clause-answer c =
    let bank = c.args.bank.now in
    both_sides (term_at bank c.args.a) (term_at bank c.args.left) (term_at bank c.args.right) (text_at bank c.args.f) c.is_comparison.result c.stands_in_both.result c.is_comparison.ensures c.if-is_comparison.true c.stands_in_both.ensures.answer

pub returns-else-is_comparison-clause-answer : goal.returns-else-is_comparison-clause-answer
returns-else-is_comparison-clause-answer c =
    let bank = c.args.bank.now in
    no_sides (term_at bank c.args.a) (term_at bank c.args.left) (term_at bank c.args.right) (text_at bank c.args.f) c.is_comparison.result c.is_comparison.ensures c.if-is_comparison.false
