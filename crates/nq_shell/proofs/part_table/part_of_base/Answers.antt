use Rattle.std.proofs.Common.{◌≡◌, ◌-◌, ℕ, Option, suc, sym, ap, ◌∙◌, arith}
use Rattle.nq_logic.specs.Histories.{Part, Shell}
use Rattle.nq_bank.specs.Content.{Content}
use Rattle.nq_bank.specs.Shells.{part_at, parts_at, shell_at}
use Rattle.nq_proof.specs.Rows.{found_row}
use Rattle.nq_proof.specs.Clauses.{Clause}
use Rattle.nq_shell.specs.Rows.{base_part_row}
use Rattle.nq_shell.proofs.RowLemmas.{found_at}
use Rattle.nq_steps.proofs.StackLemmas.{if_ok}
use Rattle.nq_shell.proofs.part_table.part_of_base.Goals as goal

pub returns-in-Some-clause-makes : goal.returns-in-Some-clause-makes
returns-in-Some-clause-makes c =
    let bank : Content = c.args.bank.now in
    let s : Shell = shell_at bank c.args.shell.now in
    let row : (ℕ → Part → Option Clause) = λ k part. base_part_row s part in
    let i = c.args.i in
    let here = c.in-Some.part.now in
    let lookup = c.in-Some.ensures.lookup in
    let next : i ≡ suc (i - 1) = omega (arith, c.if-i-eq0.false) in
    let found = found_at (part_at bank) row c.deref.result.now i (i - 1) here next lookup.3.0 (lookup.3.1 here) in
    let all = ap (λ ps. found_row i row (parts_at bank ps)) c.deref.ensures.value in
    if_ok c.part_of_base_for.result (λ there e. e ∙ sym found ∙ all) c.part_of_base_for.ensures.makes
