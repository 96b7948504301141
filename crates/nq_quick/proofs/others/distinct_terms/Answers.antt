use Rattle.std.proofs.Common.{◌∙◌, ap, get_or}
use Rattle.nq_proof.specs.Clauses.{has_term}
use Rattle.nq_bank.specs.declared.node.TermId.{TermId}
use Rattle.nq_bank.specs.Content.{term_at, terms_at}
use Rattle.nq_rule.proofs.ClauseLemmas.{distinct-more, stand-pushed}
use Rattle.nq_quick.proofs.others.distinct_terms.Goals as goal

pub loop-u-preserved : goal.loop-u-preserved
loop-u-preserved c =
    let first : TermId = record { 0 = 0 } in
    record {
      clause = distinct-more c.args.bank.now c.args.terms.now c.loop-u.kept.items c.keep_unless.new.kept.items c.loop-u.u-index first c.contains-stood.result c.loop-u-test.true c.loop-u.invariant.clause (c.contains-stood.ensures ∙ ap (λ xs. has_term (term_at c.args.bank.now (get_or c.args.terms.now c.loop-u.u-index first)) (terms_at c.args.bank.now xs)) c.as_slice.ensures.value) c.in_ok-keep_unless.ensures;
      stand = stand-pushed c.args.bank.now c.loop-u.kept.items c.keep_unless.new.kept.items c.contains-stood.result _ c.loop-u.invariant.stand (c.requires c.loop-u.u-index first c.loop-u-test.true) c.in_ok-keep_unless.ensures;
    }
