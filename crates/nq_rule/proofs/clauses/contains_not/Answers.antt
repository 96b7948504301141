use Rattle.nq_logic.specs.Words.{not_term}
use Rattle.nq_bank.specs.declared.node.TermId.{TermId}
use Rattle.nq_bank.specs.Content.{term_at}
use Rattle.nq_rule.proofs.ClauseLemmas.{has_term-more}
use Rattle.nq_rule.proofs.clauses.contains_not.Goals as goal

pub loop-u-preserved : goal.loop-u-preserved
loop-u-preserved c =
    let first : TermId = record { 0 = 0 } in
    has_term-more c.args.bank.now (not_term (term_at c.args.bank.now c.args.t)) c.args.terms.now c.loop-u.u-index first c.loop-u.found c.is_not_of-same.result c.is_either-found.result c.loop-u-test.true c.loop-u.invariant c.is_not_of-same.ensures c.is_either-found.ensures
