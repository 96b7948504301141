use Rattle.std.proofs.Common.{refl, ◌∙◌}
use Rattle.nq_bank.proofs.Growth.{Grows-trans, text_at-grown}
use Rattle.nq_history.proofs.ShellLemmas.{texts-grown}
use Rattle.nq_event.proofs.ShapeLemmas.{part_is}
use Rattle.nq_event.proofs.shell_names.part_with.Goals as goal

pub returns-clause-is : goal.returns-clause-is
returns-clause-is c =
    let first = c.name.new.self in
    let second = c.names_of.new.bank in
    let third = c.name-2.new.self in
    let accessor = c.in_ok-accessor.ensures.ok in
    let recognizers = c.in_ok-recognizers.ensures.names in
    let default = c.in_ok-default.ensures.ok in
    part_is third (record { accessor = c.in_ok-accessor.accessor; one_of = c.args.outline.now.restriction.one_of; recognizers = c.in_ok-recognizers.recognizers; default = c.in_ok-default.default }) c.args.outline.now
    (text_at-grown first third c.in_ok-accessor.accessor (Grows-trans first second third c.names_of.ensures.grows default.grows) accessor.named ∙ accessor.reads)
    refl
    (texts-grown second third default.grows c.in_ok-recognizers.recognizers.items recognizers.stand ∙ recognizers.read)
    default.reads
