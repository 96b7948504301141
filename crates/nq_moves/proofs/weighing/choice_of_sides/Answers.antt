use Rattle.std.proofs.Common.{List, [], ◌∷◌, sym, subst}
use Rattle.nq_bank.specs.Content.{term_at, terms_at}
use Rattle.nq_goals.specs.Equations.{Equation}
use Rattle.nq_goals.specs.Fertilizing.{Fertilizing, from_readings}
use Rattle.nq_moves.specs.Fertilized.{ChoosesOne}
use Rattle.nq_moves.proofs.ChoosingLemmas.{of_both}
use Rattle.nq_moves.proofs.weighing.choice_of_sides.Goals as goal

pub returns-clause-choice : goal.returns-clause-choice
returns-clause-choice c =
    let bank = c.args.bank.now in
    let goal = terms_at bank c.args.goal.now in
    let l = term_at bank c.args.literal in
    let e : Equation = record { left = term_at bank c.args.sides.left; right = term_at bank c.args.sides.right } in
    let f : Equation = record { left = term_at bank c.args.sides.right; right = term_at bank c.args.sides.left } in
    let xs : List Fertilizing = from_readings goal l (e ∷ []) in
    let ys : List Fertilizing = from_readings goal l (f ∷ []) in
    subst (λ zs. ChoosesOne bank zs c.heavier.result) (sym (of_both goal l e f)) (c.heavier.ensures bank xs ys c.in_ok-first.ensures.choice c.in_ok-second.ensures.choice)
