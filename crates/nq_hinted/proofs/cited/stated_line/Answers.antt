use Rattle.std.proofs.Common.{◌∙◌, [], ◌∷◌, sym}
use Rattle.std.proofs.lemmas.Result.{IfOk-weaker}
use Rattle.nq_bank.specs.Content.{text_at}
use Rattle.nq_history.specs.Events.{events_at}
use Rattle.nq_hinted.proofs.CitedLemmas.{has_event, has_row, holds_one, row_of_definition, term_of_event}
use Rattle.nq_hinted.proofs.cited.stated_line.Goals as goal

pub row_line-requires-clause-axiom : goal.row_line-requires-clause-axiom
row_line-requires-clause-axiom c = has_row (events_at c.args.work.now.bank c.args.history.now) (text_at c.args.work.now.bank c.args.name) (sym c.is_definition.ensures ∙ c.if-is_definition.true) c.requires.stated

pub event_line-requires-clause-event : goal.event_line-requires-clause-event
event_line-requires-clause-event c = has_event (events_at c.args.work.now.bank c.args.history.now) (text_at c.args.work.now.bank c.args.name) (sym c.is_definition.ensures ∙ c.if-is_definition.false) c.requires.stated

pub returns-then-is_definition-clause-line : goal.returns-then-is_definition-clause-line
returns-then-is_definition-clause-line c =
    IfOk-weaker c.row_line.result _ _
    (λ n holds t is. holds_one c.row_line.new.work n t
    (holds (t ∷ []) (row_of_definition (events_at c.args.work.now.bank c.args.history.now) (text_at c.args.work.now.bank c.args.name) t (sym c.is_definition.ensures ∙ c.if-is_definition.true) is)))
    c.row_line.ensures.line

pub returns-else-is_definition-clause-line : goal.returns-else-is_definition-clause-line
returns-else-is_definition-clause-line c =
    IfOk-weaker c.event_line.result _ _
    (λ n holds t is. holds_one c.event_line.new.work n t
    (holds t (term_of_event (events_at c.args.work.now.bank c.args.history.now) (text_at c.args.work.now.bank c.args.name) t (sym c.is_definition.ensures ∙ c.if-is_definition.false) is)))
    c.event_line.ensures.line
