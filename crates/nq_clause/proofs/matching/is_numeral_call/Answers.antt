use Rattle.nq_logic.specs.Words.{numeral}
use Rattle.nq_bank.specs.Content.{text_at}
use Rattle.nq_clause.specs.Matching.{IsCallOf}
use Rattle.nq_clause.proofs.BoundLemmas.{zero_call, no_zero_call, next_call, no_next_call, tells_none}
use Rattle.nq_clause.proofs.matching.is_numeral_call.Goals as goal

pub returns-then-count-eq0 : goal.returns-then-count-eq0
returns-then-count-eq0 c = zero_call (text_at c.args.bank.now c.args.f) c.args.count c.args.n c.is_ground.result c.if-n-eq0.true c.if-count-eq0.true c.is_ground.ensures

pub returns-else-count-eq0 : goal.returns-else-count-eq0
returns-else-count-eq0 c =
    tells_none c.args.count 0 (IsCallOf (text_at c.args.bank.now c.args.f) c.args.count (numeral c.args.n)) c.if-count-eq0.false (no_zero_call (text_at c.args.bank.now c.args.f) c.args.count c.args.n c.if-n-eq0.true c.if-count-eq0.false)

pub returns-then-count-eq1 : goal.returns-then-count-eq1
returns-then-count-eq1 c = next_call (text_at c.args.bank.now c.args.f) c.args.count c.args.n c.is_ground-then-count-eq1.result c.if-n-eq0.false c.if-count-eq1.true c.is_ground-then-count-eq1.ensures

pub returns-else-count-eq1 : goal.returns-else-count-eq1
returns-else-count-eq1 c =
    tells_none c.args.count 1 (IsCallOf (text_at c.args.bank.now c.args.f) c.args.count (numeral c.args.n)) c.if-count-eq1.false (no_next_call (text_at c.args.bank.now c.args.f) c.args.count c.args.n c.if-n-eq0.false c.if-count-eq1.false)
