use Rattle.std.proofs.Common.{◌≡◌, Bool, sym, subst}
use Rattle.nq_bank.specs.Content.{text_at}
use Rattle.nq_part_lines.specs.Defaults.{truth_kind}
use Rattle.nq_part_lines.proofs.kinds.kind_symbol.Goals as goal

pub returns-then-value-clause-reads : goal.returns-then-value-clause-reads
returns-then-value-clause-reads c = subst (λ (b : Bool). text_at c.args.bank.now c.ground_name.result ≡ truth_kind b) (sym c.if-value.true) c.ground_name.ensures.reads

pub returns-else-value-clause-reads : goal.returns-else-value-clause-reads
returns-else-value-clause-reads c = subst (λ (b : Bool). text_at c.args.bank.now c.ground_name-else-value.result ≡ truth_kind b) (sym c.if-value.false) c.ground_name-else-value.ensures.reads
