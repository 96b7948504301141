use Rattle.std.proofs.Common.{List, ◌-◌, length, get_or, take, drop, sym, subst}
use Rattle.nq_bank.specs.declared.node.TermId.{TermId}
use Rattle.nq_bank.specs.Content.{term_at, terms_at}
use Rattle.nq_goals.specs.Equations.{readings}
use Rattle.nq_goals.specs.Fertilizing.{Fertilizing, from_readings, from_literals}
use Rattle.nq_moves.specs.Fertilized.{ChoosesOne}
use Rattle.nq_moves.proofs.ChoosingLemmas.{apart}
use Rattle.nq_moves.proofs.weighing.+choice_among.Goals as goal

pub returns-in_ok-later-in-len1-up-clause-choice : goal.returns-in_ok-later-in-len1-up-clause-choice
returns-in_ok-later-in-len1-up-clause-choice t c =
    let none : TermId = record { 0 = 0 } in
    let bank = c.args.bank.now in
    let goal = terms_at bank c.args.goal.now in
    let ids = c.args.literals.now in
    let l = term_at bank (get_or ids 0 none) in
    let xs : List Fertilizing = from_readings goal l (readings l) in
    let ys : List Fertilizing = from_literals goal (terms_at bank (take (length ids - 1) (drop 1 ids))) in
    subst (λ ts. ChoosesOne bank (from_literals goal ts) c.heavier.result) (sym (apart bank ids none c.in-len1-up.len_at_least)) (c.heavier.ensures bank xs ys c.in_ok-here-in-len1-up.ensures.choice c.in_ok-later-in-len1-up.ensures.choice)
