use Rattle.std.proofs.Common.{refl}
use Rattle.nq_bank.specs.Content.{terms_at}
use Rattle.nq_simplify.proofs.SimplifiedLemmas.{closed_is}
use Rattle.nq_simplify.proofs.leaving.closed_by.Goals as goal

pub returns : goal.returns
returns c = closed_is c.args.history.now c.args.work.now (terms_at c.args.work.now.bank c.args.goal.now) c.args.line _ c.requires.line refl c.new.ensures.items
