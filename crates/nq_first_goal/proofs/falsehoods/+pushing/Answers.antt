use Rattle.std.proofs.Common.{◌∙◌}
use Rattle.std.proofs.lemmas.Result.{on_ok_weaker}
use Rattle.nq_bank.specs.Content.{term_at}
use Rattle.nq_comment.specs.ReportViews.{steps_of}
use Rattle.nq_fragments.specs.Propositions.{proposition_of}
use Rattle.nq_first_goal.proofs.FalsehoodLemmas.{both_pushed}
use Rattle.nq_first_goal.proofs.falsehoods.+pushing.Goals as goal

pub push_both-returns : goal.push_both-returns
push_both-returns t c =
    let bank = c.args.bank.now in
    on_ok_weaker c.push_clauses-2.result
    (λ two. both_pushed bank c.args.first c.args.rest.now c.args.denied (proposition_of (term_at bank c.args.lemma)) c.args.trues.now c.args.literals.now c.as_slice.result.now c.as_slice-2.result.now c.as_slice-3.result.now
    (steps_of c.args.steps.now.items) (steps_of c.push_clauses.new.steps.items) (steps_of c.push_clauses-2.new.steps.items) c.requires.denied.denotes
    (c.as_slice.ensures.value ∙ c.in_ok-held.ensures) (c.as_slice-2.ensures.value ∙ c.in_ok-with_not.ensures) (c.as_slice-3.ensures.value ∙ c.in_ok-with_first.ensures) c.in_ok-push_clauses.ensures two)
    c.push_clauses-2.ensures
