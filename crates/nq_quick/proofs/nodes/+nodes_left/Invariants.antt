use Rattle.nq_quick.proofs.nodes.+nodes_left.Given as goal

abbrev pub decreases-nodes_left : goal.decreases-nodes_left
decreases-nodes_left l = l.t.0
