use Rattle.std.proofs.Common.{ap, ◌∙◌, Err, arith}
use Rattle.nq_bank.specs.Content.{Content}
use Rattle.nq_history.specs.GroundTable.{made_of}
use Rattle.nq_history.proofs.GroundLemmas.{ground_grows, last_made, none_deep, made_stand, one_made, one_id}
use Rattle.nq_history.proofs.ground_entries.term_of_steps.Goals as goal

pub take_steps-requires : goal.take_steps-requires
take_steps-requires c =
    record { steps = made_stand c.args.bank.now c.args.steps.now (ground_grows c.args.bank.now c.is_sound.ensures) c.requires.steps }

pub index-requires : goal.index-requires
index-requires c =
    let bank : Content = c.args.bank.now in
    let some = one_id c.take_steps.new.bank c.in-Ok.ids.items (made_of c.args.steps.now) (c.in-Ok.ensures.makes ∙ last_made bank c.args.steps.now (ground_grows bank c.is_sound.ensures) c.requires.steps) in
    let count = c.in-Ok.ids.ok.0 in
    omega (arith, some, count)

pub unreachable-requires : goal.unreachable-requires
unreachable-requires c =
    let bank : Content = c.args.bank.now in
    none_deep bank c.args.steps.now (ground_grows bank c.is_sound.ensures) c.requires.steps (c.take_steps.ensures.deep (c.in-Err-Deep.is ∙ ap Err c.in-Err-Deep.field-0-is))

pub returns-in-Ok-clause-stands : goal.returns-in-Ok-clause-stands
returns-in-Ok-clause-stands c =
    let bank : Content = c.args.bank.now in
    (one_made c.take_steps.new.bank c.in-Ok.ids.items (made_of c.args.steps.now) c.index.result.now (c.in-Ok.ensures.makes ∙ last_made bank c.args.steps.now (ground_grows bank c.is_sound.ensures) c.requires.steps) c.in-Ok.ensures.stand c.index.ensures).0

pub returns-in-Ok-clause-term : goal.returns-in-Ok-clause-term
returns-in-Ok-clause-term c =
    let bank : Content = c.args.bank.now in
    (one_made c.take_steps.new.bank c.in-Ok.ids.items (made_of c.args.steps.now) c.index.result.now (c.in-Ok.ensures.makes ∙ last_made bank c.args.steps.now (ground_grows bank c.is_sound.ensures) c.requires.steps) c.in-Ok.ensures.stand c.index.ensures).1
