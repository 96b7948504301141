use Rattle.nq_bank.specs.declared.node.Sym.{Sym}
use Rattle.nq_admit.proofs.FormalLemmas.{set-more}
use Rattle.nq_admit.proofs.formals.formal_set.Goals as goal

pub loop-formal-preserved : goal.loop-formal-preserved
loop-formal-preserved c =
    let d : Sym = record { 0 = 0 } in
    set-more c.args.bank.now c.args.formals.now c.loop-formal.formal-index d c.loop-formal.ids c.insert.new.self c.is_sound.ensures c.loop-formal-test.true (c.requires c.loop-formal.formal-index d c.loop-formal-test.true) c.loop-formal.invariant
    c.in_ok-insert.ensures.updates
