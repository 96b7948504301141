use Rattle.nq_legal.proofs.LeavingLemmas.{unhinted}
use Rattle.nq_legal.proofs.leaving.hint_now.Goals as goal

pub returns-in-None : goal.returns-in-None
returns-in-None c = λ bank. unhinted bank c.args.hints.now c.args.path.now c.in-None.is
