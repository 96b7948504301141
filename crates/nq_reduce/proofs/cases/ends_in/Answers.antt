use Rattle.std.proofs.Common.{refl}
use Rattle.nq_bank.specs.Content.{terms_at}
use Rattle.nq_reduce.proofs.ShellLemmas.{ended}
use Rattle.nq_reduce.proofs.cases.ends_in.Goals as goal

pub returns-then-is_same : goal.returns-then-is_same
returns-then-is_same c = ended c.args.history.now c.args.work.now (terms_at c.args.work.now.bank c.args.assumed.now) c.args.kept c.args.sides c.args.new c.requires.sides (c.if-is_same.ensures refl) c.requires.new
