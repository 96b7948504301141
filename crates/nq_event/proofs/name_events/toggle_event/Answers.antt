use Rattle.std.proofs.Common.{ap, ◌∙◌}
use Rattle.nq_bank.specs.Content.{text_at}
use Rattle.nq_bank.proofs.Growth.{IsNamed-grown, text_at-grown}
use Rattle.nq_events.specs.Events as asked
use Rattle.nq_event.proofs.name_events.toggle_event.Goals as goal

pub returns-clause-stands : goal.returns-clause-stands
returns-clause-stands c =
    let old = c.in_ok-old.ensures.ok in
    (IsNamed-grown c.name.new.self c.name-2.new.self c.in_ok-name.name old.grows c.in_ok-name.ensures.ok.named, old.named)

pub returns-clause-is : goal.returns-clause-is
returns-clause-is c =
    let named = c.in_ok-name.ensures.ok in
    let old = c.in_ok-old.ensures.ok in
    ap (λ x. asked.Toggle x (text_at c.name-2.new.self c.in_ok-old.old) c.args.disabled) (text_at-grown c.name.new.self c.name-2.new.self c.in_ok-name.name old.grows named.named ∙ named.reads)
    ∙ ap (λ y. asked.Toggle c.args.name.now y c.args.disabled) old.reads
