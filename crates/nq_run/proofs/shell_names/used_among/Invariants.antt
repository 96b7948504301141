-- Those that are in use of the names so far.
use Rattle.std.proofs.Common.{◌≡◌, take}
use Rattle.std.specs.List.{filter}
use Rattle.nq_logic.specs.Names.{is_in_use}
use Rattle.nq_bank.specs.Content.{text_at}
use Rattle.nq_history.specs.Events.{events_at}
use Rattle.nq_run.proofs.shell_names.used_among.Given as goal

abbrev pub invariant-loop-name : goal.invariant-loop-name
invariant-loop-name l = l.used.items ≡ filter (λ s. is_in_use (text_at l.fn.bank s) (events_at l.fn.bank l.fn.history)) (take l.name-index l.names)
