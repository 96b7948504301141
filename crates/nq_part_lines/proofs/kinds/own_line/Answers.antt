use Rattle.std.proofs.Common.{◌∷◌, [], Bool, sym, subst}
use Rattle.std.specs.Prelude.{IfOk}
use Rattle.nq_kernel.specs.Growing.{LineHolds}
use Rattle.nq_part_lines.specs.Decisions.{is_of}
use Rattle.nq_part_lines.specs.Defaults.{truth_kind}
use Rattle.nq_part_lines.proofs.kinds.own_line.Goals as goal

pub returns-then-value-clause-line : goal.returns-then-value-clause-line
returns-then-value-clause-line c = subst (λ (b : Bool). IfOk c.truth_is_truth.result (λ n. LineHolds c.truth_is_truth.new.work n (is_of (truth_kind b) b ∷ []))) (sym c.if-value.true) c.truth_is_truth.ensures.line

pub returns-else-value-clause-line : goal.returns-else-value-clause-line
returns-else-value-clause-line c = subst (λ (b : Bool). IfOk c.falsity_is_falsity.result (λ n. LineHolds c.falsity_is_falsity.new.work n (is_of (truth_kind b) b ∷ []))) (sym c.if-value.false) c.falsity_is_falsity.ensures.line
