use Rattle.std.proofs.Common.{◌∷◌, [], Bool, sym, subst}
use Rattle.std.specs.Prelude.{IfOk, not}
use Rattle.nq_logic.specs.Words.{not_term}
use Rattle.nq_kernel.specs.Growing.{LineHolds}
use Rattle.nq_part_lines.specs.Decisions.{is_of}
use Rattle.nq_part_lines.specs.Defaults.{truth_kind}
use Rattle.nq_part_lines.proofs.kinds.opposite_line.Goals as goal

pub returns-then-value-clause-line : goal.returns-then-value-clause-line
returns-then-value-clause-line c =
    subst (λ (b : Bool). IfOk c.truth_is_no_falsity.result (λ n. LineHolds c.truth_is_no_falsity.new.work n (not_term (is_of (truth_kind (not b)) b) ∷ []))) (sym c.if-value.true) c.truth_is_no_falsity.ensures.line

pub returns-else-value-clause-line : goal.returns-else-value-clause-line
returns-else-value-clause-line c =
    subst (λ (b : Bool). IfOk c.falsity_is_no_truth.result (λ n. LineHolds c.falsity_is_no_truth.new.work n (not_term (is_of (truth_kind (not b)) b) ∷ []))) (sym c.if-value.false) c.falsity_is_no_truth.ensures.line
