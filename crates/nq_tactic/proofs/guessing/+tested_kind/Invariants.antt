-- Arguments stand before the call.
use Rattle.nq_tactic.proofs.guessing.+tested_kind.Given as goal

abbrev pub decreases-tested_kind : goal.decreases-tested_kind
decreases-tested_kind l = l.t.0
