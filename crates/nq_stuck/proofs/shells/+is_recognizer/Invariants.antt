use Rattle.std.proofs.Common.{length}
use Rattle.nq_stuck.proofs.shells.+is_recognizer.Given as goal

abbrev pub decreases-is_recognizer : goal.decreases-is_recognizer
decreases-is_recognizer l = length l.shells.now
