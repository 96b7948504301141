use Rattle.nq_bank.specs.Content.{term_at, terms_at}
use Rattle.nq_literal.proofs.TruthLemmas.{truth_for_other}
use Rattle.nq_literal.proofs.truths.truth_beside.Goals as goal

pub returns-clause-new : goal.returns-clause-new
returns-clause-new c = truth_for_other c.args.history.now c.args.work.now c.line_of_truth.new.work (terms_at c.args.work.now.bank c.args.others.now) (term_at c.args.work.now.bank c.args.literal) c.args.yes c.in_ok-line.line c.requires.stands c.line_of_truth.ensures.grows c.requires.truth c.requires.among c.in_ok-line.ensures.line
