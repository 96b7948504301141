use Rattle.nq_moves.proofs.WayLemmas.{way_lasts}
use Rattle.nq_moves.proofs.laws.ways_last.Goals as goal

pub returns : goal.returns
returns c = λ history old new goal moved stood grows all h. way_lasts history old new stood grows goal all moved h
