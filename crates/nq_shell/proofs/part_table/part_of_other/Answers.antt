use Rattle.std.proofs.Common.{◌≡◌, ◌∷◌, [], ◌-◌, ℕ, List, Option, Some, suc, reverse, sym, ap, ◌∙◌, arith}
use Rattle.nq_logic.specs.Terms.{Term}
use Rattle.nq_logic.specs.Words.{equal_term}
use Rattle.nq_logic.specs.Histories.{Part, Shell}
use Rattle.nq_logic.specs.Shells.{recognizes, whole}
use Rattle.nq_bank.specs.Content.{Content}
use Rattle.nq_bank.specs.Shells.{part_at, parts_at, shell_at}
use Rattle.nq_steps.specs.Steps.{pushed, stack_of}
use Rattle.nq_proof.specs.Rows.{accessed_by, default_of, found_row}
use Rattle.nq_proof.specs.Clauses.{Clause}
use Rattle.nq_shell.proofs.RowLemmas.{found_at}
use Rattle.nq_shell.proofs.part_table.part_of_other.Goals as goal

pub returns-in_ok-part_of_other-in-Some-clause-makes : goal.returns-in_ok-part_of_other-in-Some-clause-makes
returns-in_ok-part_of_other-in-Some-clause-makes c =
    let bank : Content = c.args.bank.now in
    let s : Shell = shell_at bank c.args.shell.now in
    let lits : (ℕ → Part → List Term) = λ k part. recognizes s whole ∷ equal_term (accessed_by part whole) (default_of part) ∷ [] in
    let row : (ℕ → Part → Option Clause) = λ k part. Some (lits k part) in
    let i = c.args.i in
    let here = c.in-Some.part.now in
    let lookup = c.in-Some.ensures.lookup in
    let next : i ≡ suc (i - 1) = omega (arith, c.if-i-eq0.false) in
    let found = found_at (part_at bank) row c.deref.result.now i (i - 1) here next lookup.3.0 (lookup.3.1 here) in
    let all = ap (λ ps. found_row i row (parts_at bank ps)) c.deref.ensures.value in
    ap (λ ts. Some (reverse ts)) (c.in_ok-part_of_other-in-Some.ensures.makes ∙ ap (λ xs. pushed (lits (i - 1) (part_at bank here)) (stack_of bank xs)) c.requires.steps) ∙ sym found ∙ all
