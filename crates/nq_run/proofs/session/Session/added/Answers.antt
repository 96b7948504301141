use Rattle.nq_bank.specs.Content.{text_at}
use Rattle.nq_run.proofs.SessionLemmas.{added_is, marked_before, memory_alone, not_in_use, not_too_many}
use Rattle.nq_run.proofs.session.Session.added.Goals as goal

pub unreachable-requires : goal.unreachable-requires
unreachable-requires g c =
    let fault = c.in-Err-NameInUse.field-0 in
    not_in_use fault (memory_alone c.args.self.bank c.args.self.history (text_at c.args.self.bank c.args.entry.name) fault c.requires.free c.in-Err-NameInUse.ensures.answer) c.in-Err-NameInUse.field-0-is

pub unreachable-requires-in-Err-TooManyEvents : goal.unreachable-requires-in-Err-TooManyEvents
unreachable-requires-in-Err-TooManyEvents g c =
    let fault = c.in-Err-TooManyEvents.field-0 in
    not_too_many fault (memory_alone c.args.self.bank c.args.self.history (text_at c.args.self.bank c.args.entry.name) fault c.requires.free c.in-Err-TooManyEvents.ensures.answer)
    c.in-Err-TooManyEvents.field-0-is

pub returns-clause-added : goal.returns-clause-added
returns-clause-added g c =
    let old = c.args.self in
    let entry = c.args.entry in
    added_is c.events_are_spelled.ensures.grow old entry (text_at old.bank entry.name) c.push.new.self c.requires.stands c.requires.free c.requires.symbols c.requires.few c.requires.ready c.in-Ok.ensures.stands
    (c.in-Ok.ensures.marked c.requires.stands.marked (marked_before old.bank old.history entry c.requires.mark)) c.in-Ok.ensures.event
