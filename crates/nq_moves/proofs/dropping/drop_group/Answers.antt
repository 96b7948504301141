use Rattle.std.proofs.Common.{◌∙◌, sym, ap, refl}
use Rattle.nq_logic.specs.Histories.{History}
use Rattle.nq_bank.specs.Content.{Content, terms_at}
use Rattle.nq_history.specs.Events.{events_at}
use Rattle.nq_goals.specs.Dropping.{is_irrelevant, is_empty, others}
use Rattle.nq_moves.proofs.DroppingLemmas.{can}
use Rattle.nq_moves.proofs.dropping.drop_group.Goals as goal

pub returns-then-not-is_none-clause-dropped : goal.returns-then-not-is_none-clause-dropped
returns-then-not-is_none-clause-dropped c =
    let bank : Content = c.args.bank.now in
    let h : History = events_at bank c.args.history.now in
    let goal_at = terms_at bank c.args.goal.now in
    let rest = c.in_ok-rest.ensures.clause ∙ ap (λ xs. others (terms_at bank xs) goal_at) c.as_slice-2.ensures.value in
    let irrelevant = sym (c.in_ok-irrelevant.ensures.answer ∙ ap (λ xs. is_irrelevant h (terms_at bank xs)) c.as_slice.ensures.value) ∙ c.if-irrelevant.true in
    let some = ap (λ xs. is_empty (terms_at bank xs)) (sym c.as_slice-then-irrelevant.ensures.value) ∙ sym (c.is_none.ensures bank) ∙ c.if-not-is_none.true in (
      can h goal_at (terms_at bank c.args.group.items) (terms_at bank c.in_ok-rest.rest.items) irrelevant some rest,
      record { group_is = refl; rest_is = rest; stand = c.in_ok-rest.ensures.stand },
    )
