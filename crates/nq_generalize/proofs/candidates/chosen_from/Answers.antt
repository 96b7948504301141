use Rattle.nq_bank.specs.declared.node.TermId.{TermId}
use Rattle.nq_bank.specs.Content.{terms_at}
use Rattle.nq_history.specs.Events.{events_at}
use Rattle.nq_rule.proofs.ClauseLemmas.{stand-pushed}
use Rattle.nq_goals.specs.Generalizing.{can_generalize}
use Rattle.nq_generalize.proofs.CandidateLemmas.{chosen-more}
use Rattle.nq_generalize.proofs.candidates.chosen_from.Goals as goal

pub loop-t-preserved : goal.loop-t-preserved
loop-t-preserved c =
    let first : TermId = record { 0 = 0 } in
    let bank = c.args.bank.now in
    let test = can_generalize (events_at bank c.args.history.now) (terms_at bank c.args.goal.now) in
    record {
      chosen = chosen-more bank test c.args.terms.now c.loop-t.kept.items c.keep_unless.new.kept.items c.loop-t.t-index first c.in_ok-can.can c.loop-t-test.true c.loop-t.invariant.chosen c.in_ok-can.ensures.answer c.in_ok-keep_unless.ensures.kept;
      stand = stand-pushed bank c.loop-t.kept.items c.keep_unless.new.kept.items _ _ c.loop-t.invariant.stand (c.requires.terms c.loop-t.t-index first c.loop-t-test.true) c.in_ok-keep_unless.ensures.kept;
    }
