use Rattle.std.proofs.Common.{ap, ◌∙◌}
use Rattle.std.specs.Option.{option_and_then}
use Rattle.nq_events.specs.WrittenHints.{kind_of}
use Rattle.nq_event.proofs.ReadLemmas.{straight_rest, dotted_rest}
use Rattle.nq_event.proofs.hints.undotted_kind.Goals as goal

pub returns-in-None : goal.returns-in-None
returns-in-None c = c.kind_of.ensures ∙ ap (option_and_then (kind_of c.args.word.now)) (straight_rest c.args.forms.now c.args.tail.now c.in-None.is)

pub returns-in-Some : goal.returns-in-Some
returns-in-Some c = ap (option_and_then (kind_of c.args.word.now)) (dotted_rest c.args.forms.now c.args.tail.now c.in-Some.field-0 c.in-Some.is)
