-- What ready histories tell of their shells.
use Rattle.std.specs.Prelude.{◌≡◌, true, false, bytes_eq}
use Rattle.nq_logic.specs.Terms.{Name, IsAmong}
use Rattle.nq_logic.specs.Names.{is_in_use}
use Rattle.nq_logic.specs.Histories.{History, Shell, events_shells}
use Rattle.nq_logic.specs.ShellPrinciple.{shell_names}
use Rattle.nq_kernel.specs.Ready.{IsReady}
use Rattle.nq_lines.specs.OwnTerms.{HasOwnTerms}
use Rattle.nq_part_lines.specs.Known.{HasKnownRows, IsKnownShell}

-- the sizes of bases are told by rows
abbrev pub ReadyRows : Type 0
ReadyRows = (h : History) → IsReady h → HasOwnTerms h → HasKnownRows h

-- a user's shell is known
abbrev pub UsersAreKnown : Type 0
UsersAreKnown = (h : History) (s : Shell) → IsReady h → IsAmong s (events_shells h) → IsKnownShell h s

-- the names of a user's shell are other than each that is in use in every history
abbrev pub UserNamesAreNew : Type 0
UserNamesAreNew = (h : History) (s : Shell) (n g : Name) → IsReady h → IsAmong s (events_shells h) → IsAmong n (shell_names s) → ((b : History) → is_in_use g b ≡ true) → bytes_eq n g ≡ false
