-- The shells of the entries so far are counted, and each entry brings at most one.
use Rattle.std.proofs.Common.{◌≡◌, ◌≤◌, length, take}
use Rattle.nq_history.specs.ShellLists.{shells_brought}
use Rattle.nq_history.proofs.shell_list.count_shells.Given as goal

abbrev pub invariant-loop-e : goal.invariant-loop-e
invariant-loop-e l = record { counted : l.count ≡ length (shells_brought (take l.e-index l.entries)); few : l.count ≤ l.e-index }
