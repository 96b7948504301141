use Rattle.std.proofs.Common.{◌∙◌, Err, ap}
use Rattle.nq_bank.specs.Content.{term_at}
use Rattle.nq_measures.proofs.TriedLemmas.{one_shallow}
use Rattle.nq_measures.proofs.tried.call_of_one.Goals as goal

pub unreachable-requires : goal.unreachable-requires
unreachable-requires c = one_shallow _ (term_at c.args.bank.now c.args.t) c.requires.shallow (c.app.ensures.deep.0 (c.in-Err-Deep.is ∙ ap Err c.in-Err-Deep.field-0-is))
