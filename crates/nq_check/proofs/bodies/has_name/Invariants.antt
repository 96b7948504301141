-- The names that are left decide.
use Rattle.std.proofs.Common.{◌≡◌, drop}
use Rattle.nq_logic.specs.Names.{has_name}
use Rattle.nq_bank.specs.Content.{text_at}
use Rattle.nq_bank.specs.Shells.{texts_at}
use Rattle.nq_check.proofs.bodies.has_name.Given as goal

abbrev pub invariant-loop-other : goal.invariant-loop-other
invariant-loop-other l = has_name (text_at l.bank l.name) (texts_at l.bank l.names) ≡ has_name (text_at l.bank l.name) (texts_at l.bank (drop l.other-index l.names))
