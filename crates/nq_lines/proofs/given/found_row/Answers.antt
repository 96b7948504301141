use Rattle.nq_bank.specs.Content.{text_at}
use Rattle.nq_proof.specs.Clauses.{distinct}
use Rattle.nq_proof.specs.Rows.{axiom_clause}
use Rattle.nq_history.specs.Events.{events_at}
use Rattle.nq_kernel.specs.Meaning.{clause_at}
use Rattle.nq_lines.proofs.InstanceLemmas.{allowed_if}
use Rattle.nq_lines.proofs.FactLemmas.{row_made}
use Rattle.nq_lines.proofs.given.found_row.Goals as goal

pub literal_of-requires-clause-line : goal.literal_of-requires-clause-line
literal_of-requires-clause-line c =
    let w = c.args.work.now in
    let w1 = c.row_line.new.work in
    let h = c.args.history.now in
    allowed_if h w1 (axiom_clause (events_at w.bank h) (text_at w.bank c.args.name) 1 0) (clause_at w1.bank w1.log c.in_ok-line.line) (λ x. distinct x) c.requires.axiom c.in_ok-line.ensures.line

pub returns-in-Some-clause-fact : goal.returns-in-Some-clause-fact
returns-in-Some-clause-fact c =
    let w = c.args.work.now in
    let h = c.args.history.now in
    row_made h w c.row_line.new.work c.row_line.ensures.grows (axiom_clause (events_at w.bank h) (text_at w.bank c.args.name) 1 0) c.in-Some.t c.in_ok-line.line c.requires.stands c.requires.axiom (c.requires.ready.rows (text_at w.bank c.args.name) 1 0) c.in_ok-line.ensures.line c.in-Some.ensures
