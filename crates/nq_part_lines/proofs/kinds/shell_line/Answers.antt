use Rattle.std.proofs.Common.{◌≡◌, ◌∷◌, [], Some, ap, subst}
use Rattle.nq_logic.specs.Words.{not_term}
use Rattle.nq_bank.specs.Content.{text_at}
use Rattle.nq_proof.specs.Clauses.{Clause, distinct}
use Rattle.nq_proof.specs.Rows.{axiom_clause}
use Rattle.nq_history.specs.Events.{events_at}
use Rattle.nq_rule.proofs.Made.{for_ok}
use Rattle.nq_kernel.specs.Growing.{LineHolds}
use Rattle.nq_part_lines.specs.Decisions.{is_of}
use Rattle.nq_part_lines.specs.Known.{IsRow}
use Rattle.nq_part_lines.proofs.KindLemmas.{none_row, shell_row}
use Rattle.nq_part_lines.proofs.kinds.shell_line.Goals as goal

pub row_line-requires-clause-row : goal.row_line-requires-clause-row
row_line-requires-clause-row c =
    let w = c.args.work.now in
    let h = events_at w.bank c.args.history.now in
    let r = text_at w.bank c.args.r in
    let k = c.constructor_of_kind-constructor.result in
    let these = not_term (is_of r c.args.value) ∷ [] in
    let row = shell_row h w.bank r k c.args.value c.requires.rows c.constructor_of_kind-constructor.ensures in
    record { clause = these; there = subst (λ n. IsRow h (text_at w.bank k) n 0 these) (ap none_row c.if-value.true) row }

pub row_line-requires-else-value-clause-row : goal.row_line-requires-else-value-clause-row
row_line-requires-else-value-clause-row c =
    let w = c.args.work.now in
    let h = events_at w.bank c.args.history.now in
    let r = text_at w.bank c.args.r in
    let k = c.constructor_of_kind-constructor.result in
    let these = not_term (is_of r c.args.value) ∷ [] in
    let row = shell_row h w.bank r k c.args.value c.requires.rows c.constructor_of_kind-constructor.ensures in
    record { clause = these; there = subst (λ n. IsRow h (text_at w.bank k) n 0 these) (ap none_row c.if-value.false) row }

pub returns-then-value-clause-line : goal.returns-then-value-clause-line
returns-then-value-clause-line c =
    let w = c.args.work.now in
    let new = c.row_line.new.work in
    let h = events_at w.bank c.args.history.now in
    let r = text_at w.bank c.args.r in
    let k = c.constructor_of_kind-constructor.result in
    let name = text_at w.bank k in
    let these = not_term (is_of r c.args.value) ∷ [] in
    let row : IsRow h name 11 0 these = subst (λ n. IsRow h name n 0 these) (ap none_row c.if-value.true) (shell_row h w.bank r k c.args.value c.requires.rows c.constructor_of_kind-constructor.ensures) in
    for_ok c.row_line.result (λ n. (x : Clause) → axiom_clause h name 11 0 ≡ Some x → LineHolds new n (distinct x)) (λ n. LineHolds new n these) (λ n f. f these row.is) c.row_line.ensures.line

pub returns-else-value-clause-line : goal.returns-else-value-clause-line
returns-else-value-clause-line c =
    let w = c.args.work.now in
    let new = c.row_line-else-value.new.work in
    let h = events_at w.bank c.args.history.now in
    let r = text_at w.bank c.args.r in
    let k = c.constructor_of_kind-constructor.result in
    let name = text_at w.bank k in
    let these = not_term (is_of r c.args.value) ∷ [] in
    let row : IsRow h name 12 0 these = subst (λ n. IsRow h name n 0 these) (ap none_row c.if-value.false) (shell_row h w.bank r k c.args.value c.requires.rows c.constructor_of_kind-constructor.ensures) in
    for_ok c.row_line-else-value.result (λ n. (x : Clause) → axiom_clause h name 12 0 ≡ Some x → LineHolds new n (distinct x)) (λ n. LineHolds new n these) (λ n f. f these row.is) c.row_line-else-value.ensures.line
