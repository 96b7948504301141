use Rattle.nq_bank.specs.Content.{term_at, terms_at}
use Rattle.std.proofs.Common.{◌∙◌, sym}
use Rattle.nq_history.specs.Events.{events_at}
use Rattle.nq_types.proofs.SetLemmas.{members_shown}
use Rattle.nq_types.proofs.showing.inside_type.Goals as goal

pub returns-then-has_type : goal.returns-then-has_type
returns-then-has_type c =
    let bank = c.args.work.now.bank in
    members_shown (events_at bank c.args.history.now) c.args.work.now (terms_at bank c.args.assumed.now) (term_at bank c.args.t) (c.set_told-set.result, c.args.line) (sym c.has.ensures ∙ c.if-has.false) (c.has_type.ensures c.if-has_type.true)
