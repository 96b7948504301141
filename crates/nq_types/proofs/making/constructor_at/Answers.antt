use Rattle.nq_history.specs.Events.{events_at}
use Rattle.nq_logic.specs.ShellPrinciple.{shells_of}
use Rattle.nq_types.proofs.ShellLemmas.{constructor_told, place_below}
use Rattle.nq_types.proofs.making.constructor_at.Goals as goal

pub returns-then-place-shells-clause-name : goal.returns-then-place-shells-clause-name
returns-then-place-shells-clause-name c =
    let bank = c.args.bank.now in
    λ s e. constructor_told bank c.shells-shells.result.now (shells_of (events_at bank c.args.history.now)) c.args.place c.index-shells-place.result s (c.shells-shells.ensures.logic bank c.requires.history) e

pub returns-clause-name : goal.returns-clause-name
returns-clause-name c =
    let bank = c.args.bank.now in
    λ s e. absurd (place_below bank c.shells-shells.result.now (shells_of (events_at bank c.args.history.now)) c.args.place s (c.shells-shells.ensures.logic bank c.requires.history) e c.if-place-shells.false)
