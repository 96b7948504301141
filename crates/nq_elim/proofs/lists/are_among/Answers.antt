use Rattle.nq_logic.specs.Terms.{IsAmong}
use Rattle.nq_bank.specs.declared.node.TermId.{TermId}
use Rattle.nq_bank.specs.Content.{term_at, terms_at}
use Rattle.nq_elim.proofs.ListLemmas.{up_to_more}
use Rattle.nq_elim.proofs.lists.are_among.Goals as goal

pub loop-t-preserved : goal.loop-t-preserved
loop-t-preserved c =
    let none : TermId = record { 0 = 0 } in
    let bank = c.args.bank.now in
    up_to_more (λ t. IsAmong (term_at bank t) (terms_at bank c.args.these.now)) c.args.ids.now c.loop-t.t-index none c.loop-t-test.true c.loop-t.invariant (c.has_id.ensures c.if-not-has_id.false)
