use Rattle.std.proofs.Common.{length}
use Rattle.nq_logic.specs.Admissible.{matched}
use Rattle.nq_bank.specs.Content.{terms_at}
use Rattle.nq_bank.specs.Shells.{texts_at}
use Rattle.nq_calls.proofs.FallLemmas.{pairs_done, reached}
use Rattle.nq_tracer.proofs.drafts.pairs_of.Goals as goal

pub returns-clause-pairs : goal.returns-clause-pairs
returns-clause-pairs c =
    let bank = c.args.bank.now in
    pairs_done bank c.args.formals.now c.args.arguments.now c.loop-place.place c.loop-place.pairs.items (matched (texts_at bank c.args.formals.now) (terms_at bank c.args.arguments.now)) (reached (length c.args.formals.now) (length c.args.arguments.now) c.loop-place.place c.shorter-count.result c.shorter-count.ensures.either c.loop-place-test.false) c.loop-place.invariant.pairs
