-- The parts so far are copied.
use Rattle.std.proofs.Common.{take}
use Rattle.nq_history.specs.ShellLists.{IsPartCopy, Pairwise}
use Rattle.nq_history.proofs.shell_list.copied_parts.Given as goal

abbrev pub invariant-loop-part : goal.invariant-loop-part
invariant-loop-part l = Pairwise IsPartCopy (take l.part-index l.parts) l.copies.items
