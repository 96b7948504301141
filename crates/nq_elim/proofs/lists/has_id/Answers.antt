use Rattle.std.proofs.Common.{ℕ, subst}
use Rattle.nq_logic.specs.Terms.{IsAmong}
use Rattle.nq_bank.specs.declared.node.TermId.{TermId}
use Rattle.nq_bank.specs.Content.{term_at, terms_at}
use Rattle.nq_elim.proofs.ListLemmas.{member_among}
use Rattle.nq_elim.proofs.lists.has_id.Goals as goal

pub returns-then-u-t : goal.returns-then-u-t
returns-then-u-t c =
    let first : TermId = record { 0 = 0 } in
    let id : ℕ → TermId = λ n. record { 0 = n } in
    λ _. subst (λ n. IsAmong (term_at c.args.bank.now (id n)) (terms_at c.args.bank.now c.args.these.now)) c.if-u-t.true (member_among c.args.bank.now c.args.these.now c.loop-u.u-index first c.loop-u-test.true)
