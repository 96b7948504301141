use Rattle.std.proofs.Common.{◌≡◌, ◌∷◌, [], ◌-◌, ℕ, List, Option, Some, suc, reverse, sym, ap, ◌∙◌, arith}
use Rattle.nq_logic.specs.Terms.{Term}
use Rattle.nq_logic.specs.Words.{not_term}
use Rattle.nq_logic.specs.Histories.{Shell}
use Rattle.nq_logic.specs.Shells.{recognizes, whole}
use Rattle.nq_bank.specs.Content.{Content}
use Rattle.nq_bank.specs.Shells.{shell_at}
use Rattle.nq_steps.specs.Steps.{pushed, stack_of}
use Rattle.nq_proof.specs.Clauses.{Clause}
use Rattle.nq_shell.proofs.RowLemmas.{found_at}
use Rattle.nq_shell.proofs.part_table.kinds_differ.Goals as goal

pub returns-in_ok-kinds_differ-in-Some-clause-makes : goal.returns-in_ok-kinds_differ-in-Some-clause-makes
returns-in_ok-kinds_differ-in-Some-clause-makes c =
    let bank : Content = c.args.bank.now in
    let s : Shell = shell_at bank c.args.shell.now in
    let lits : (ℕ → Shell → List Term) = λ k other. not_term (recognizes s whole) ∷ not_term (recognizes other whole) ∷ [] in
    let row : (ℕ → Shell → Option Clause) = λ k other. Some (lits k other) in
    let i = c.args.i in
    let here = c.in-Some.other.now in
    let lookup = c.in-Some.ensures.lookup in
    let next : i ≡ suc (i - 1) = omega (arith, c.if-i-eq0.false) in
    let found = found_at (shell_at bank) row c.args.earlier.now i (i - 1) here next lookup.3.0 (lookup.3.1 here) in
    ap (λ ts. Some (reverse ts)) (c.in_ok-kinds_differ-in-Some.ensures.makes ∙ ap (λ xs. pushed (lits (i - 1) (shell_at bank here)) (stack_of bank xs)) c.requires.steps) ∙ sym found
