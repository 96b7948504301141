use Rattle.std.proofs.Common.{◌∙◌}
use Rattle.std.specs.Option.{option_map}
use Rattle.nq_bank.specs.Content.{Content, text_at}
use Rattle.nq_bank.specs.Shells.{shells_at}
use Rattle.nq_steps.proofs.StackLemmas.{if_ok}
use Rattle.nq_axiom.specs.Openings.{opened}
use Rattle.nq_axiom.proofs.RowLemmas.{axiom_same}
use Rattle.nq_axiom.proofs.axioms.axiom_steps.Goals as goal

pub returns-clause-axiom : goal.returns-clause-axiom
returns-clause-axiom c =
    λ h is are.
    let bank : Content = c.args.bank.now in
    let same = axiom_same h (shells_at bank c.args.shells.now) (option_map (opened bank) c.args.definition) (text_at bank c.args.name) c.args.row c.args.part is are in
    if_ok c.steps_among.result (λ draft e. e ∙ same) c.steps_among.ensures.makes
