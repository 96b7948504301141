use Rattle.nq_logic.specs.Ground.{symbols_of}
use Rattle.nq_history.specs.Events.{events_at}
use Rattle.nq_kernel.specs.Over.{IsVariable}
use Rattle.nq_kernel.proofs.GrowingLemmas.{WorkGrows-refl}
use Rattle.nq_needed.specs.Renumbering.{number_in}
use Rattle.nq_needed.proofs.RenumberingLemmas.{made_over}
use Rattle.nq_needed.proofs.keeping.keep_rule.Goals as goal

pub returns-in_err-made : goal.returns-in_err-made
returns-in_err-made c = WorkGrows-refl c.args.history.now c.args.kept.now c.requires.stands

pub allowed-requires-clause-rule : goal.allowed-requires-clause-rule
allowed-requires-clause-rule c = c.in_ok-made.ensures.stands c.args.kept.now.bank c.requires.rule

pub returns-in_err-allowed : goal.returns-in_err-allowed
returns-in_err-allowed c = WorkGrows-refl c.args.history.now c.args.kept.now c.requires.stands

pub returns-then-not-branch : goal.returns-then-not-branch
returns-then-not-branch c = WorkGrows-refl c.args.history.now c.args.kept.now c.requires.stands

pub add-requires-clause-rule : goal.add-requires-clause-rule
add-requires-clause-rule c = c.in_ok-made.ensures.stands c.args.kept.now.bank c.requires.rule

pub add-requires-clause-over : goal.add-requires-clause-over
add-requires-clause-over c =
    let bank = c.args.kept.now.bank in
    made_over (number_in c.args.numbers.now) IsVariable (symbols_of (events_at bank c.args.history.now)) bank c.args.rule.now c.in_ok-made.made c.in_ok-made.ensures c.requires.over
