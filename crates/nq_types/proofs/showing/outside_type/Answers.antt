use Rattle.std.proofs.Common.{◌∙◌, sym}
use Rattle.nq_bank.specs.Content.{term_at, terms_at}
use Rattle.nq_history.specs.Events.{events_at}
use Rattle.nq_types.proofs.OutsideLemmas.{outside_shown}
use Rattle.nq_types.proofs.showing.outside_type.Goals as goal

pub returns-then-has_fact : goal.returns-then-has_fact
returns-then-has_fact c =
    let bank = c.args.work.now.bank in
    outside_shown (events_at bank c.args.history.now) c.args.work.now (terms_at bank c.args.assumed.now) (term_at bank c.args.t) (term_at bank c.args.fact) (c.set_left-set.result, c.args.line) (sym c.has.ensures ∙ c.if-not-has.false) (c.says_rest.ensures c.if-not-says_rest.false) (c.has_fact.ensures c.if-has_fact.true)
