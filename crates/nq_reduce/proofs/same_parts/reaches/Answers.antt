use Rattle.std.proofs.Common.{refl}
use Rattle.nq_bank.specs.Content.{terms_at}
use Rattle.nq_reduce.proofs.EqualLemmas.{reached_by}
use Rattle.nq_reduce.proofs.same_parts.reaches.Goals as goal

pub returns-then-is_same : goal.returns-then-is_same
returns-then-is_same c = reached_by c.args.history.now c.args.work.now (terms_at c.args.work.now.bank c.args.assumed.now) c.args.a c.args.b c.args.whole (c.if-is_same.ensures refl) c.requires.whole
