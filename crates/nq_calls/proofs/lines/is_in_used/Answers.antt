use Rattle.std.proofs.Common.{◌∙◌, false, length, arith, sym}
use Rattle.nq_bank.specs.declared.node.TermId.{TermId}
use Rattle.nq_bank.specs.Content.{text_at}
use Rattle.nq_calls.proofs.FallLemmas.{reached}
use Rattle.nq_calls.proofs.UseLemmas.{not_used_here, none_used}
use Rattle.nq_calls.proofs.lines.is_in_used.Goals as goal

pub loop-place-preserved : goal.loop-place-preserved
loop-place-preserved c =
    let bank = c.args.bank.now in
    let first : TermId = record { 0 = 0 } in
    let within = c.shorter-count.ensures in
    record {
      so_far = not_used_here (text_at bank c.args.f) bank c.args.uses.now c.args.arguments.now c.loop-place.place false first (omega (arith, c.loop-place-test.true, within.first)) (omega (arith, c.loop-place-test.true, within.second)) (sym c.if-branch.false ∙ c.in_ok-is_in_used_one.ensures.ok) c.loop-place.invariant.so_far;
      answers = c.in_ok-is_in_used_one.ensures.answers;
    }

pub returns-clause-ok : goal.returns-clause-ok
returns-clause-ok c =
    none_used (text_at c.args.bank.now c.args.f) c.args.bank.now c.args.uses.now c.args.arguments.now c.loop-place.place (reached (length c.args.uses.now) (length c.args.arguments.now) c.loop-place.place c.shorter-count.result c.shorter-count.ensures.either c.loop-place-test.false) c.loop-place.invariant.so_far
