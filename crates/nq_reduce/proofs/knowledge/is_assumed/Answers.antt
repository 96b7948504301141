use Rattle.std.proofs.Common.{ℕ, subst}
use Rattle.nq_logic.specs.Terms.{IsAmong}
use Rattle.nq_bank.specs.declared.node.TermId.{TermId}
use Rattle.nq_bank.specs.Content.{term_at, terms_at}
use Rattle.nq_reduce.proofs.RewritingLemmas.{member_among}
use Rattle.nq_reduce.proofs.knowledge.is_assumed.Goals as goal

pub returns-then-a-t : goal.returns-then-a-t
returns-then-a-t c =
    let first : TermId = record { 0 = 0 } in
    let id : ℕ → TermId = λ n. record { 0 = n } in
    λ _. subst (λ n. IsAmong (term_at c.args.bank.now (id n)) (terms_at c.args.bank.now c.args.assumed.now)) c.if-a-t.true (member_among c.args.bank.now c.args.assumed.now c.loop-a.a-index first c.loop-a-test.true)
