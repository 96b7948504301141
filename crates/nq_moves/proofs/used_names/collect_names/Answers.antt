use Rattle.nq_bank.specs.declared.node.TermId.{TermId}
use Rattle.nq_moves.proofs.UsedLemmas.{one_more_told, names_told}
use Rattle.nq_moves.proofs.used_names.collect_names.Goals as goal

pub loop-t-preserved : goal.loop-t-preserved
loop-t-preserved c =
    let first : TermId = record { 0 = 0 } in
    let step = c.in_ok-add_names.ensures in
    record {
      told = one_more_told c.args.bank.now c.loop-t.names c.add_names.new.names c.args.terms.now c.loop-t.t-index first c.loop-t-test.true c.loop-t.invariant.told step.adds;
      known = step.known;
      named = step.named;
    }

pub returns : goal.returns
returns c = names_told c.args.bank.now c.loop-t.names c.args.terms.now c.loop-t.t-index c.loop-t-test.false c.is_sound.ensures c.requires c.loop-t.invariant.named c.loop-t.invariant.told
