use Rattle.std.proofs.Common.{◌∙◌, sym, ap}
use Rattle.nq_bank.specs.Content.{term_at, terms_at}
use Rattle.nq_goals.specs.Replacing.{stands_in_one}
use Rattle.nq_moves.proofs.ChoosingLemmas.{stands_nowhere}
use Rattle.nq_moves.proofs.weighing.choice_of_call.Goals as goal

pub chosen-requires-clause-inside : goal.chosen-requires-clause-inside
chosen-requires-clause-inside c =
    let bank = c.args.bank.now in
    let side = term_at bank c.args.r.from in
    sym (c.in_ok-inside.ensures.answer ∙ ap (λ xs. stands_in_one side (terms_at bank xs)) c.as_slice.ensures.value ∙ ap (stands_in_one side) c.in_ok-others.ensures.clause) ∙ c.if-inside.true

pub returns-clause-choice : goal.returns-clause-choice
returns-clause-choice c =
    let bank = c.args.bank.now in
    let side = term_at bank c.args.r.from in
    let told = sym (c.in_ok-inside.ensures.answer ∙ ap (λ xs. stands_in_one side (terms_at bank xs)) c.as_slice.ensures.value ∙ ap (stands_in_one side) c.in_ok-others.ensures.clause) in
    stands_nowhere bank (terms_at bank c.args.goal.now) c.args.r (told ∙ c.if-inside.false)
