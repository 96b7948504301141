-- The shells that are left, behind those before them, have the axiom just where all have it.
use Rattle.std.proofs.Common.{◌≡◌, [], take, drop}
use Rattle.nq_bank.specs.Content.{text_at}
use Rattle.nq_bank.specs.Shells.{shells_at}
use Rattle.nq_proof.specs.Rows.{shell_found}
use Rattle.nq_axiom.proofs.shell_rows.shell_steps.Given as goal

abbrev pub invariant-loop-k : goal.invariant-loop-k
invariant-loop-k l = shell_found (text_at l.bank l.name) l.row l.part (shells_at l.bank (take l.k l.shells)) (shells_at l.bank (drop l.k l.shells)) ≡ shell_found (text_at l.bank l.name) l.row l.part [] (shells_at l.bank l.shells)
