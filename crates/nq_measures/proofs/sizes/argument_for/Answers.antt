use Rattle.std.proofs.Common.{◌∙◌, length, sym, arith}
use Rattle.nq_bank.specs.Content.{text_at}
use Rattle.nq_calls.proofs.FallLemmas.{reached}
use Rattle.nq_measures.proofs.VariableLemmas.{value_next, value_none}
use Rattle.nq_measures.proofs.sizes.argument_for.Goals as goal

pub loop-place-preserved : goal.loop-place-preserved
loop-place-preserved c =
    let bank = c.args.bank.now in
    value_next bank c.args.formals.now c.args.arguments.now (text_at bank c.args.x) c.loop-place.place (record { 0 = 0 }) (record { 0 = 0 }) _ (omega (arith, c.loop-place-test.true, c.shorter-count.ensures.first)) (omega (arith, c.loop-place-test.true, c.shorter-count.ensures.second)) (sym c.is_same_name.ensures ∙ c.if-is_same_name.false) c.loop-place.invariant

pub returns-clause-none : goal.returns-clause-none
returns-clause-none c =
    let bank = c.args.bank.now in
    value_none bank c.args.formals.now c.args.arguments.now (text_at bank c.args.x) c.loop-place.place _ (reached (length c.args.formals.now) (length c.args.arguments.now) c.loop-place.place c.shorter-count.result c.shorter-count.ensures.either c.loop-place-test.false) c.loop-place.invariant
