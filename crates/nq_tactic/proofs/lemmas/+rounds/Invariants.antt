-- There are three rounds.
use Rattle.std.proofs.Common.{◌+◌, ◌-◌, ◌*◌}
use Rattle.nq_tactic.proofs.lemmas.+rounds.Given as goal

abbrev pub decreases-seek_widening : goal.decreases-seek_widening
decreases-seek_widening l = 3 * (3 - l.number) + 2

abbrev pub decreases-seek_round : goal.decreases-seek_round
decreases-seek_round l = 3 * (3 - l.number) + 1

abbrev pub decreases-seek_again : goal.decreases-seek_again
decreases-seek_again l = 3 * (3 - l.number)
