-- Each instance is passed once.
use Rattle.std.proofs.Common.{◌+◌, ◌-◌, ◌*◌, length}
use Rattle.nq_tactic.proofs.lemmas.+under.Given as goal

abbrev pub decreases-seek_under : goal.decreases-seek_under
decreases-seek_under l = 2 * (length l.hints.now.instances.items - l.from)

abbrev pub decreases-seek_beside : goal.decreases-seek_beside
decreases-seek_beside l = 2 * (length l.hints.now.instances.items - l.from) + 1
