use Rattle.nq_normal.proofs.rules.+part_rewrites.Given as goal

abbrev pub decreases-part_rewrites : goal.decreases-part_rewrites
decreases-part_rewrites l = l.t.0
