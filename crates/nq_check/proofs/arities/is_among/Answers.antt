use Rattle.std.proofs.Common.{◌∙◌, sym}
use Rattle.nq_bank.specs.Content.{text_at}
use Rattle.nq_check.proofs.ArityLemmas.{entries_left, or_first, or_second}
use Rattle.nq_check.proofs.arities.is_among.Goals as goal

pub returns-then-brings : goal.returns-then-brings
returns-then-brings c =
    sym (c.loop-e.invariant ∙ entries_left c.args.bank.now (text_at c.args.bank.now c.args.f) c.args.count c.args.entries.now c.loop-e.e-index c.e-item.result c.loop-e-test.true c.e-item.is
    ∙ or_first _ _ (sym c.brings.ensures ∙ c.if-brings.true))

pub loop-e-preserved : goal.loop-e-preserved
loop-e-preserved c =
    c.loop-e.invariant ∙ entries_left c.args.bank.now (text_at c.args.bank.now c.args.f) c.args.count c.args.entries.now c.loop-e.e-index c.e-item.result c.loop-e-test.true c.e-item.is
    ∙ or_second _ _ (sym c.brings.ensures ∙ c.if-brings.false)
