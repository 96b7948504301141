use Rattle.std.proofs.Common.{ap, ◌∙◌}
use Rattle.nq_bank.specs.Content.{text_at}
use Rattle.nq_bank.proofs.Growth.{IsNamed-grown, text_at-grown}
use Rattle.nq_history.specs.Events.{events_at}
use Rattle.nq_events.specs.Events as asked
use Rattle.nq_events.specs.MadeNames.{made_name}
use Rattle.nq_event.proofs.name_events.switch_event.Goals as goal

pub returns-clause-stands : goal.returns-clause-stands
returns-clause-stands c =
    let old = c.in_ok-old.ensures.ok in
    (IsNamed-grown c.made_name.new.bank c.name.new.self c.in_ok-name.name old.grows c.in_ok-name.ensures.named.named, old.named)

pub returns-clause-is : goal.returns-clause-is
returns-clause-is c =
    let made = c.in_ok-name.ensures.named in
    let old = c.in_ok-old.ensures.ok in
    ap (λ x. asked.Toggle x (text_at c.name.new.self c.in_ok-old.old) c.args.disabled) (text_at-grown c.made_name.new.bank c.name.new.self c.in_ok-name.name old.grows made.named ∙ made.reads)
    ∙ ap (λ y. asked.Toggle (made_name (events_at c.args.bank.now c.args.history.now) c.args.disabled c.args.old.now) y c.args.disabled) old.reads
