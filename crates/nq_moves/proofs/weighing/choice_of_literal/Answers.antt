use Rattle.std.proofs.Common.{sym, ap, subst}
use Rattle.std.specs.Prelude.{IfOk}
use Rattle.nq_bank.specs.Content.{term_at, terms_at}
use Rattle.nq_goals.specs.Equations.{both_orders}
use Rattle.nq_goals.specs.Fertilizing.{from_readings}
use Rattle.nq_moves.specs.Fertilized.{ChoosesOne}
use Rattle.nq_moves.proofs.weighing.choice_of_literal.Goals as goal

pub returns-in-Some-clause-choice : goal.returns-in-Some-clause-choice
returns-in-Some-clause-choice c =
    let bank = c.args.bank.now in
    subst (λ o. IfOk c.choice_of_sides.result (ChoosesOne bank (from_readings (terms_at bank c.args.goal.now) (term_at bank c.args.literal) (both_orders o)))) c.in-Some.ensures.sides c.choice_of_sides.ensures.choice

pub returns-in-None-clause-choice : goal.returns-in-None-clause-choice
returns-in-None-clause-choice c =
    let bank = c.args.bank.now in
    ap (λ o. from_readings (terms_at bank c.args.goal.now) (term_at bank c.args.literal) (both_orders o)) (sym c.in-None.ensures.sides)
