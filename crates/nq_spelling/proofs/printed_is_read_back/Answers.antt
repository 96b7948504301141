use Rattle.nq_spelling.proofs.ReadBack.{forms_grow_histories, printed_is_read_back}
use Rattle.nq_spelling.proofs.UsableFunctions.{grown_is_usable}
use Rattle.nq_spelling.proofs.printed_is_read_back.Goals as goal

pub returns-clause-grow : goal.returns-clause-grow
returns-clause-grow c = forms_grow_histories

pub returns-clause-usable : goal.returns-clause-usable
returns-clause-usable c = grown_is_usable

pub returns-clause-back : goal.returns-clause-back
returns-clause-back c = printed_is_read_back
