use Rattle.nq_kernel.proofs.ReadyLemmas.{ready_more, ready_before}
use Rattle.nq_kernel.proofs.ReadyLaws.{closed_law, lemmas_law, terms_law, definitions_law, grown_law}
use Rattle.nq_kernel.proofs.ready_histories.Goals as goal

pub returns : goal.returns
returns c = record { closed = closed_law; lemmas = lemmas_law; terms = terms_law; definitions = definitions_law; none = tt; more = ready_more; before = ready_before; grown = grown_law }
