use Rattle.nq_types.proofs.KindLemmas.{zero_kind, more_kind}
use Rattle.nq_types.proofs.kinds.number_kind.Goals as goal

pub returns-then-n-eq0 : goal.returns-then-n-eq0
returns-then-n-eq0 c = λ h. zero_kind h c.args.n c.if-n-eq0.true

pub returns-else-n-eq0 : goal.returns-else-n-eq0
returns-else-n-eq0 c = λ h. more_kind h c.args.n c.if-n-eq0.false
