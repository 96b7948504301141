use Rattle.std.proofs.Common.{refl, get_or}
use Rattle.nq_logic.specs.Words.{not_term}
use Rattle.nq_bank.specs.declared.node.TermId.{TermId}
use Rattle.nq_bank.specs.Content.{term_at, terms_at}
use Rattle.nq_proof.specs.Clauses.{has_term}
use Rattle.nq_rule.proofs.ClauseLemmas.{has_opposite-more}
use Rattle.nq_rule.proofs.clauses.contains_opposite.Goals as goal

pub loop-t-preserved : goal.loop-t-preserved
loop-t-preserved c =
    let first : TermId = record { 0 = 0 } in
    let here = has_term (not_term (term_at c.args.bank.now (get_or c.args.these.now c.loop-t.t-index first))) (terms_at c.args.bank.now c.args.terms.now) in
    has_opposite-more c.args.bank.now (terms_at c.args.bank.now c.args.terms.now) c.args.these.now c.loop-t.t-index first c.loop-t.found here c.found_or_contains_not-found.result c.loop-t-test.true c.loop-t.invariant refl c.found_or_contains_not-found.ensures
