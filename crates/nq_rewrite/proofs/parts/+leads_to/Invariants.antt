-- Parts stand before the whole.
use Rattle.nq_rewrite.proofs.parts.+leads_to.Given as goal

abbrev pub decreases-leads_to : goal.decreases-leads_to
decreases-leads_to l = l.u.0
