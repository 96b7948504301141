use Rattle.nq_bank.specs.Content.{text_at}
use Rattle.nq_proof.specs.Rows.{axiom_clause}
use Rattle.nq_history.specs.Events.{events_at}
use Rattle.nq_rule.proofs.Made.{for_ok}
use Rattle.nq_kernel.specs.Growing.{LineHolds}
use Rattle.nq_proof.specs.Clauses.{Clause, distinct}
use Rattle.std.proofs.Common.{◌≡◌, Some}
use Rattle.nq_reduce.specs.Clauses.{LineIsIn}
use Rattle.nq_reduce.proofs.ClauseLemmas.{row_in}
use Rattle.nq_elim.proofs.rows.found_row.Goals as goal

pub returns-clause-line : goal.returns-clause-line
returns-clause-line c =
    let w = c.args.work.now in
    let h = c.args.history.now in
    let row = axiom_clause (events_at w.bank h) (text_at w.bank c.args.name) 5 0 in
    for_ok c.row_line.result (λ n. (d : Clause) → row ≡ Some d → LineHolds c.row_line.new.work n (distinct d)) (LineIsIn h c.row_line.new.work)
    (λ n holds. row_in h w c.row_line.new.work c.row_line.ensures.grows row n c.requires.stands c.requires.axiom (c.requires.ready.rows (text_at w.bank c.args.name) 5 0) holds) c.row_line.ensures.line
