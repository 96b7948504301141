use Rattle.std.proofs.Common.{◌∙◌, Err, reverse, ap, subst}
use Rattle.nq_steps.specs.Steps.{HasDeep}
use Rattle.nq_replay.proofs.UncountedLemmas.{bank_uncounted}
use Rattle.nq_replay.proofs.StepLemmas.{steps_here, stack_here, none_deep}
use Rattle.nq_replay.proofs.parts.terms_of.Goals as goal

pub take_steps-requires : goal.take_steps-requires
take_steps-requires c = record { steps = steps_here c.args.work.now.bank c.args.steps.now c.is_sound.ensures c.requires.steps }

pub unreachable-requires : goal.unreachable-requires
unreachable-requires c =
    let deep = c.take_steps.ensures.deep (c.in-Err-Deep.is ∙ ap Err c.in-Err-Deep.field-0-is) in
    none_deep _ c.requires.low (subst HasDeep (stack_here c.args.work.now.bank c.args.steps.now c.is_sound.ensures c.requires.steps) deep)

pub returns-in-Ok-clause-terms : goal.returns-in-Ok-clause-terms
returns-in-Ok-clause-terms c = c.in-Ok.ensures.makes ∙ ap reverse (stack_here c.args.work.now.bank c.args.steps.now c.is_sound.ensures c.requires.steps)

pub returns-in-Ok-clause-grows : goal.returns-in-Ok-clause-grows
returns-in-Ok-clause-grows c = bank_uncounted c.args.history.now c.args.work.now c.take_steps.new.bank c.requires.stands c.take_steps.ensures.grows c.take_steps.ensures.names

pub returns-in-Err-Memory-clause-grows : goal.returns-in-Err-Memory-clause-grows
returns-in-Err-Memory-clause-grows c = bank_uncounted c.args.history.now c.args.work.now c.take_steps.new.bank c.requires.stands c.take_steps.ensures.grows c.take_steps.ensures.names
