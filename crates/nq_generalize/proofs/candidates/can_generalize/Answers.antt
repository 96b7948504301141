use Rattle.std.proofs.Common.{◌∙◌, sym}
use Rattle.nq_bank.specs.Content.{term_at, terms_at}
use Rattle.nq_history.specs.Events.{events_at}
use Rattle.nq_generalize.proofs.CandidateLemmas.{cannot, general_value, twice_ok}
use Rattle.nq_generalize.proofs.candidates.can_generalize.Goals as goal

pub stands_twice-requires-clause-other : goal.stands_twice-requires-clause-other
stands_twice-requires-clause-other c =
    let bank = c.args.bank.now in
    general_value (events_at bank c.args.history.now) (term_at bank c.args.t) (sym c.is_general.ensures ∙ c.if-is_general.true)

pub returns-then-is_general-clause-answer : goal.returns-then-is_general-clause-answer
returns-then-is_general-clause-answer c =
    let bank = c.args.bank.now in
    twice_ok (events_at bank c.args.history.now) (terms_at bank c.args.goal.now) (term_at bank c.args.t) c.stands_twice.result (sym c.is_general.ensures ∙ c.if-is_general.true) c.stands_twice.ensures.answer

pub returns-else-is_general-clause-answer : goal.returns-else-is_general-clause-answer
returns-else-is_general-clause-answer c =
    let bank = c.args.bank.now in
    cannot (events_at bank c.args.history.now) (terms_at bank c.args.goal.now) (term_at bank c.args.t) (sym c.is_general.ensures ∙ c.if-is_general.false)
