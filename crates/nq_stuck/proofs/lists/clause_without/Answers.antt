use Rattle.nq_bank.specs.declared.node.TermId.{TermId}
use Rattle.nq_bank.specs.Content.{term_at}
use Rattle.nq_rule.proofs.ClauseLemmas.{without-more, stand-pushed}
use Rattle.nq_stuck.proofs.lists.clause_without.Goals as goal

pub loop-u-preserved : goal.loop-u-preserved
loop-u-preserved c =
    let first : TermId = record { 0 = 0 } in
    record {
      clause = without-more c.args.bank.now (term_at c.args.bank.now c.args.t) c.args.terms.now c.loop-u.kept.items c.keep_unless.new.kept.items c.loop-u.u-index first c.is_same-same.result c.loop-u-test.true c.loop-u.invariant.clause c.is_same-same.ensures c.in_ok-keep_unless.ensures;
      stand = stand-pushed c.args.bank.now c.loop-u.kept.items c.keep_unless.new.kept.items c.is_same-same.result _ c.loop-u.invariant.stand (c.requires.terms c.loop-u.u-index first c.loop-u-test.true) c.in_ok-keep_unless.ensures;
    }
