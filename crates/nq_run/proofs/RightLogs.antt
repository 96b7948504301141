-- The whole log of a run is right.
use Rattle.std.proofs.Common.{ℕ, List, ◌++◌}
use Rattle.nq_logic.specs.Histories.{History}
use Rattle.nq_block.specs.OpenLogs.{IsOpenLog, IsRightLog, end_text}
use Rattle.nq_block.proofs.OpenLaws.{log_ends_law}
use Rattle.nq_log.specs.States.{Claim}

-- with its last line a log of some claims is right
pub right_log : (claims : List Claim) (history : History) (log : List ℕ) → IsOpenLog log claims history → IsRightLog claims (log ++ end_text)
right_log claims history log opened = log_ends_law log claims history opened
