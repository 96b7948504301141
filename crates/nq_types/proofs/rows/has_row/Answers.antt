use Rattle.std.proofs.Common.{◌∙◌, sym, refl}
use Rattle.nq_bank.specs.Content.{text_at}
use Rattle.nq_kernel.specs.declared.rule.Rule.TheVariants.{AxiomRow}
use Rattle.nq_kernel.proofs.Concluding.{axiom_test}
use Rattle.nq_types.proofs.rows.has_row.Goals as goal

pub returns-in-Ok-clause-row : goal.returns-in-Ok-clause-row
returns-in-Ok-clause-row c so =
    let w = c.args.work.now in
    axiom_test w.bank c.args.history.now w.log (AxiomRow c.args.name c.args.row c.args.part) (text_at w.bank c.args.name) c.args.row c.args.part refl ∙ sym c.in-Ok.ensures ∙ so
