use Rattle.std.proofs.Common.{refl}
use Rattle.nq_bank.specs.Content.{terms_at}
use Rattle.nq_reduce.proofs.StepLemmas.{same_sides_known}
use Rattle.nq_reduce.proofs.settling.sides_told.Goals as goal

pub returns-in_ok-line-clause-known : goal.returns-in_ok-line-clause-known
returns-in_ok-line-clause-known c = same_sides_known c.args.history.now c.args.work.now c.reflexive.new.work (terms_at c.args.work.now.bank c.args.assumed.now) c.args.t c.args.sides c.in_ok-line.line c.requires.sides (c.if-is_same.ensures refl) c.in_ok-line.ensures.line
