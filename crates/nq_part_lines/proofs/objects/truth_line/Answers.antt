use Rattle.std.proofs.Common.{◌≡◌, ◌∷◌, [], Some, sym, subst}
use Rattle.nq_logic.specs.Words.{true_term}
use Rattle.nq_bank.specs.Content.{text_at}
use Rattle.nq_proof.specs.Clauses.{Clause, distinct}
use Rattle.nq_proof.specs.Rows.{axiom_clause}
use Rattle.nq_history.specs.Events.{events_at}
use Rattle.nq_rule.proofs.Made.{for_ok}
use Rattle.nq_kernel.specs.Growing.{LineHolds}
use Rattle.nq_part_lines.specs.Known.{IsRow}
use Rattle.nq_part_lines.proofs.PartLemmas.{truth_row}
use Rattle.nq_part_lines.proofs.objects.truth_line.Goals as goal

pub row_line-requires-clause-row : goal.row_line-requires-clause-row
row_line-requires-clause-row c =
    let h = events_at c.args.work.now.bank c.args.history.now in
    record { clause = true_term ∷ []; there = subst (λ n. IsRow h n 1 0 (true_term ∷ [])) (sym c.ground_name-truth.ensures.reads) (truth_row h) }

pub returns-clause-line : goal.returns-clause-line
returns-clause-line c =
    let w = c.args.work.now in
    let new = c.row_line.new.work in
    let h = events_at w.bank c.args.history.now in
    let name = text_at w.bank c.ground_name-truth.result in
    let row : IsRow h name 1 0 (true_term ∷ []) = subst (λ n. IsRow h n 1 0 (true_term ∷ [])) (sym c.ground_name-truth.ensures.reads) (truth_row h) in
    for_ok c.row_line.result (λ n. (k : Clause) → axiom_clause h name 1 0 ≡ Some k → LineHolds new n (distinct k)) (λ n. LineHolds new n (true_term ∷ [])) (λ n f. f (true_term ∷ []) row.is) c.row_line.ensures.line
