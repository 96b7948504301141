use Rattle.std.proofs.Common.{List, ap, ◌∙◌}
use Rattle.std.specs.Prelude.{Option}
use Rattle.nq_form.specs.Form.{Form}
use Rattle.nq_events.specs.Outlines.{Outlined, undotted, outline_by}
use Rattle.nq_sexp.specs.Tree.{trees, tail_of}
use Rattle.nq_event.specs.Outlines.{reader_as}
use Rattle.nq_event.proofs.ReadLemmas.{straight_rest, dotted_rest}
use Rattle.nq_event.proofs.outline.outline_by.Goals as goal

pub returns-in-None-tail : goal.returns-in-None-tail
returns-in-None-tail c =
    c.event_outline.ensures ∙ ap (undotted (reader_as c.in-Some.event)) (straight_rest c.args.forms.now c.args.tail.now c.in-None-tail.is)
    ∙ ap (λ (r : Option (List Form → Outlined)). outline_by c.args.word.now r (trees c.args.forms.now (tail_of c.args.tail.now))) c.in-Some.ensures

pub returns-in-Some-tail : goal.returns-in-Some-tail
returns-in-Some-tail c =
    ap (undotted (reader_as c.in-Some.event)) (dotted_rest c.args.forms.now c.args.tail.now c.in-Some-tail.field-0 c.in-Some-tail.is)
    ∙ ap (λ (r : Option (List Form → Outlined)). outline_by c.args.word.now r (trees c.args.forms.now (tail_of c.args.tail.now))) c.in-Some.ensures
