-- The calls so far.
use Rattle.std.proofs.Common.{◌≡◌, take}
use Rattle.std.specs.List.{list_any}
use Rattle.nq_bank.specs.Content.{terms_at}
use Rattle.nq_bank.specs.Shells.{shells_at}
use Rattle.nq_stuck.specs.Destructors.{is_accessor_call}
use Rattle.nq_stuck.proofs.destructors.has_accessor_call.Given as goal

abbrev pub invariant-loop-t : goal.invariant-loop-t
invariant-loop-t l = l.found ≡ list_any (is_accessor_call (shells_at l.bank l.shells)) (terms_at l.bank (take l.t-index l.calls))
