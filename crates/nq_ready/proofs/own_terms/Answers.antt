use Rattle.nq_ready.proofs.RowLemmas.{own_terms_law}
use Rattle.nq_ready.proofs.own_terms.Goals as goal

pub returns : goal.returns
returns c = own_terms_law c.ready_histories.ensures.closed c.ready_histories.ensures.terms
