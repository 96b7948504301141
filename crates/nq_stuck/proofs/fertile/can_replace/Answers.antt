use Rattle.std.proofs.Common.{sym, ap, ◌∙◌, subst}
use Rattle.nq_proof.specs.Clauses.{has_term}
use Rattle.nq_bank.specs.Content.{term_at, terms_at}
use Rattle.nq_stuck.specs.Calls.{HoldsAll}
use Rattle.nq_stuck.proofs.StandingLemmas.{not_replaced}
use Rattle.nq_stuck.proofs.fertile.can_replace.Goals as goal

pub returns : goal.returns
returns c =
    let bank = c.args.bank.now in
    let side = term_at bank c.args.side in
    let held = subst (λ ids. HoldsAll bank c.in_ok-calls.calls.items (terms_at bank ids)) c.as_slice.ensures.value c.in_ok-calls.ensures.holds in
    λ absent.
    not_replaced bank c.in_ok-calls.calls.items (terms_at bank c.args.goal.now) (terms_at bank c.in_ok-others.others.items) (term_at bank c.args.literal) side held c.in_ok-others.ensures.clause
    (sym c.is_value.ensures ∙ c.if-is_value.false) (ap (λ ids. has_term side (terms_at bank ids)) (sym c.as_slice-2.ensures.value) ∙ (sym c.contains.ensures ∙ absent))
