-- What holds of a block with such DROP lines.
use Rattle.std.specs.Prelude.{◌≡◌, List, Some}
use Rattle.nq_logtext.specs.Lines.{Line}
use Rattle.nq_logic.specs.Histories.{History}
use Rattle.nq_log.specs.States.{Claim, start_of}
use Rattle.nq_log.specs.Blocks.{block_claim}
use Rattle.nq_drops.specs.Drops.{with_drops, IsDropped}

-- it claims what the block claims
abbrev pub DropsKeepClaim : Type 0
DropsKeepClaim = (h : History) (lines : List Line) (c : Claim) → block_claim (start_of h) lines ≡ Some c → block_claim (start_of h) (with_drops lines) ≡ Some c

-- and its DROP lines stand where they belong
abbrev pub DropsStand : Type 0
DropsStand = (lines : List Line) → IsDropped (with_drops lines)
