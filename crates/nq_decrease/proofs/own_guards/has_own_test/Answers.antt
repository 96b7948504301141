use Rattle.nq_bank.specs.declared.node.TermId.{TermId}
use Rattle.nq_bank.specs.Content.{term_at}
use Rattle.nq_rule.proofs.ClauseLemmas.{has_term-more}
use Rattle.nq_decrease.specs.OwnGuards.{own_test}
use Rattle.nq_decrease.proofs.own_guards.has_own_test.Goals as goal

pub loop-u-preserved : goal.loop-u-preserved
loop-u-preserved c =
    let first : TermId = record { 0 = 0 } in
    has_term-more c.args.bank.now (own_test c.args.bank.now c.args.test (term_at c.args.bank.now c.args.y)) c.args.tests.now c.loop-u.u-index first c.loop-u.found c.is_own_test-same.result c.is_either-found.result c.loop-u-test.true c.loop-u.invariant c.is_own_test-same.ensures c.is_either-found.ensures
