use Rattle.std.proofs.Common.{◌∙◌, sym, subst}
use Rattle.nq_history.specs.Events.{HistoryStands}
use Rattle.nq_log_tests.proofs.FreshLemmas.{fresh_stands}
use Rattle.nq_log_tests.proofs.quick.proof_in.Goals as goal

pub quick-requires-clause-stands : goal.quick-requires-clause-stands
quick-requires-clause-stands g c =
    let bank = subst (λ b. HistoryStands b c.args.history.now) (sym c.new-work.ensures.bank) c.requires.stands in
    fresh_stands c.args.history.now c.new-work.result bank (c.new-work.ensures.log ∙ c.new-log.ensures) c.new-work.ensures.known
