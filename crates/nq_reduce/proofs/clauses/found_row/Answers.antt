use Rattle.nq_bank.specs.Content.{text_at}
use Rattle.nq_proof.specs.Rows.{axiom_clause}
use Rattle.nq_history.specs.Events.{events_at}
use Rattle.nq_reduce.proofs.ClauseLemmas.{row_in}
use Rattle.nq_reduce.proofs.clauses.found_row.Goals as goal

pub returns-clause-line : goal.returns-clause-line
returns-clause-line c =
    let w = c.args.work.now in
    let h = c.args.history.now in
    row_in h w c.row_line.new.work c.row_line.ensures.grows (axiom_clause (events_at w.bank h) (text_at w.bank c.args.name) c.args.row c.args.part) c.in_ok-line.line c.requires.stands c.requires.axiom (c.requires.ready.rows (text_at w.bank c.args.name) c.args.row c.args.part) c.in_ok-line.ensures.line
