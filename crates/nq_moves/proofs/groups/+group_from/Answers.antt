use Rattle.std.proofs.Common.{◌≡◌, ◌∙◌, ◌++◌, ◌-◌, ap, arith}
use Rattle.std.proofs.lemmas.List.{map-append}
use Rattle.nq_bank.specs.Content.{Content, terms_at, term_from}
use Rattle.nq_proof.specs.Clauses.{Clause}
use Rattle.nq_rule.proofs.Made.{for_ok}
use Rattle.nq_goals.specs.Dropping.{tied, untied, group_from}
use Rattle.nq_moves.proofs.LeavingLemmas.{one_round}
use Rattle.nq_moves.proofs.groups.+group_from.Goals as goal

pub returns-clause-clause : goal.returns-clause-clause
returns-clause-clause t c =
    let bank : Content = c.args.bank.now in
    let i : Clause = terms_at bank c.args.inside.items in
    let o : Clause = terms_at bank c.args.outside.items in
    let is_tied : terms_at bank c.in_ok-tied.tied.items ≡ tied i o =
    c.in_ok-tied.ensures.clause ∙ ap (λ xs. tied (terms_at bank xs) (terms_at bank c.as_slice-2.result.now)) c.as_slice.ensures.value ∙ ap (λ xs. tied i (terms_at bank xs)) c.as_slice-2.ensures.value in
    let is_left : terms_at bank c.in_ok-left.left.items ≡ untied i o =
    c.in_ok-left.ensures.clause ∙ ap (λ xs. untied (terms_at bank xs) (terms_at bank c.as_slice-4.result.now)) c.as_slice-3.ensures.value ∙ ap (λ xs. untied i (terms_at bank xs)) c.as_slice-4.ensures.value in
    let is_more : terms_at bank c.in_ok-more.more.items ≡ i ++ tied i o =
    ap (terms_at bank) (c.in_ok-more.ensures.ok ∙ ap (λ xs. c.args.inside.items ++ xs) c.as_slice-5.ensures.value) ∙ map-append (term_from bank.terms) c.args.inside.items c.in_ok-tied.tied.items ∙ ap (λ xs. i ++ xs) is_tied in
    for_ok c.group_from.result (λ v. terms_at bank v.items ≡ group_from (c.args.rounds - 1) (terms_at bank c.in_ok-more.more.items) (terms_at bank c.in_ok-left.left.items)) (λ v. terms_at bank v.items ≡ group_from c.args.rounds i o) (λ v is. is ∙
    ap (λ xs. group_from (c.args.rounds - 1) xs (terms_at bank c.in_ok-left.left.items)) is_more ∙ ap (λ xs. group_from (c.args.rounds - 1) (i ++ tied i o) xs) is_left ∙ one_round c.args.rounds i o (omega (arith, c.if-rounds-eq0.false))) c.group_from.ensures.clause
