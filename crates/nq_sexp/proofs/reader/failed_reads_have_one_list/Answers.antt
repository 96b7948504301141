use Rattle.nq_sexp.proofs.Whole.{one_list_law}
use Rattle.nq_sexp.proofs.reader.failed_reads_have_one_list.Goals as goal

pub returns : goal.returns
returns c = one_list_law
