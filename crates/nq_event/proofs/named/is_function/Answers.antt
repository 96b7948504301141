use Rattle.std.proofs.Common.{sym, ap}
use Rattle.std.specs.Prelude.{is_some}
use Rattle.nq_event.proofs.ArityLemmas.{unnamed_function}
use Rattle.nq_event.proofs.named.is_function.Goals as goal

pub returns-in-None : goal.returns-in-None
returns-in-None c = sym (ap is_some (unnamed_function c.args.bank.now c.args.name.now c.args.history.now c.in-None.ensures c.requires))
