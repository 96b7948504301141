use Rattle.std.proofs.Common.{◌≡◌, ◌≤◌, ◌∙◌, Some, ap, arith}
use Rattle.std.specs.Prelude.{is_some}
use Rattle.nq_bank.specs.Content.{text_at}
use Rattle.nq_logic.specs.Sizes.{depth_of}
use Rattle.nq_logic.proofs.Lists.{each_at}
use Rattle.nq_proof.specs.Clauses.{Clause, distinct}
use Rattle.nq_proof.specs.Rows.{axiom_clause}
use Rattle.nq_rule.proofs.Made.{for_ok}
use Rattle.nq_history.specs.Events.{events_at}
use Rattle.nq_kernel.specs.declared.rule.Rule.TheVariants.{AxiomRow}
use Rattle.nq_kernel.specs.Meaning.{clause_at, conclusion_at}
use Rattle.nq_kernel.specs.Growing.{LineHolds}
use Rattle.nq_lines.proofs.InstanceLemmas.{row_given}
use Rattle.nq_lines.proofs.LineLemmas.{from_distinct}
use Rattle.nq_replay.proofs.UncountedLemmas.{all_shallow}
use Rattle.nq_part_lines.specs.Known.{row_room}
use Rattle.nq_part_lines.proofs.rows.row_line.Goals as goal

pub add_line-requires-clause-allowed : goal.add_line-requires-clause-allowed
add_line-requires-clause-allowed c =
    let w = c.args.work.now in
    let h = c.args.history.now in
    ap is_some (row_given h w c.args.name c.args.row c.args.part c.requires.row.clause c.requires.row.there.is)

pub add_line-requires-clause-shallow : goal.add_line-requires-clause-shallow
add_line-requires-clause-shallow c =
    let w = c.args.work.now in
    let h = c.args.history.now in
    let r = c.requires.row in
    all_shallow (conclusion_at w.bank h w.log (AxiomRow c.args.name c.args.row c.args.part)) (distinct r.clause) (row_given h w c.args.name c.args.row c.args.part r.clause r.there.is) (λ u m.
    let low : depth_of u ≤ row_room = each_at (λ t. depth_of t ≤ row_room) u r.clause r.there.low (from_distinct u r.clause m) in
    omega (arith, low))

pub returns-clause-line : goal.returns-clause-line
returns-clause-line c =
    let w = c.args.work.now in
    let h = c.args.history.now in
    let new = c.add_line.new.work in
    for_ok c.add_line.result (λ n. clause_at new.bank new.log n ≡ conclusion_at w.bank h w.log (AxiomRow c.args.name c.args.row c.args.part)) (λ n. (x : Clause) → axiom_clause (events_at w.bank h) (text_at w.bank c.args.name) c.args.row c.args.part ≡ Some x → LineHolds new n (distinct x)) (λ n e x k. e ∙ row_given h w c.args.name c.args.row c.args.part x k) c.add_line.ensures.line
