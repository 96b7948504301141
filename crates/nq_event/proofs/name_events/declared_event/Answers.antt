use Rattle.std.proofs.Common.{ap, ◌∙◌}
use Rattle.nq_bank.specs.Shells.{texts_at}
use Rattle.nq_bank.proofs.Growth.{IsNamed-grown, text_at-grown}
use Rattle.nq_events.specs.Events as asked
use Rattle.nq_event.proofs.name_events.declared_event.Goals as goal

pub returns-clause-stands : goal.returns-clause-stands
returns-clause-stands c =
    record { name_is = IsNamed-grown c.name.new.self c.names_of.new.bank c.in_ok-name.name c.names_of.ensures.grows c.in_ok-name.ensures.ok.named; formals_are = c.in_ok-formals.ensures.names.stand }

pub returns-clause-is : goal.returns-clause-is
returns-clause-is c =
    ap (λ x. asked.Dcl x (texts_at c.names_of.new.bank c.in_ok-formals.formals.items)) (text_at-grown c.name.new.self c.names_of.new.bank c.in_ok-name.name c.names_of.ensures.grows c.in_ok-name.ensures.ok.named ∙ c.in_ok-name.ensures.ok.reads)
    ∙ ap (asked.Dcl c.args.name.now) c.in_ok-formals.ensures.names.read
