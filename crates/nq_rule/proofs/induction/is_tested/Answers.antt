use Rattle.std.proofs.Common.{sym}
use Rattle.nq_bank.specs.Content.{term_at}
use Rattle.nq_rule.proofs.InductionLemmas.{tested_more}
use Rattle.nq_rule.proofs.induction.is_tested.Goals as goal

pub loop-c-preserved : goal.loop-c-preserved
loop-c-preserved c =
    tested_more c.args.bank.now (term_at c.args.bank.now c.args.literal) c.args.cases.now c.loop-c.c-index c.c-item.result c.loop-c.found c.is_same-same.result c.is_either-found.result c.loop-c-test.true (sym c.c-item.is) c.loop-c.invariant c.is_same-same.ensures c.is_either-found.ensures
