use Rattle.std.proofs.Common.{ap, ◌∙◌}
use Rattle.nq_bank.specs.Content.{term_at}
use Rattle.nq_goals.specs.Substituting.{from_sides}
use Rattle.nq_moves.proofs.EquationLemmas.{from_sides-numeral}
use Rattle.nq_moves.proofs.substituting.find_in_sides.Goals as goal

pub returns-in-Num : goal.returns-in-Num
returns-in-Num c =
    ap (λ t. from_sides (term_at c.args.bank.now c.args.literal) t (term_at c.args.bank.now c.args.right)) c.in-Num.ensures.head.1 ∙
    from_sides-numeral (term_at c.args.bank.now c.args.literal) c.in-Num.field-0 (term_at c.args.bank.now c.args.right)
