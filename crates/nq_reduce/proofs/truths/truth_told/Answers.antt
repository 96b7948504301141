use Rattle.nq_bank.specs.Content.{term_at, terms_at}
use Rattle.nq_reduce.proofs.RewritingLemmas.{known_untrue}
use Rattle.nq_reduce.proofs.truths.truth_told.Goals as goal

pub false_by_line-requires-clause-line : goal.false_by_line-requires-clause-line
false_by_line-requires-clause-line c = known_untrue c.args.work.now (terms_at c.args.work.now.bank c.args.assumed.now) (term_at c.args.work.now.bank c.args.t) c.args.known c.if-known.false c.requires.known
