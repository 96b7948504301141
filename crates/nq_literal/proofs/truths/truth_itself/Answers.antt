use Rattle.nq_bank.specs.Content.{terms_at}
use Rattle.nq_literal.proofs.TruthLemmas.{truth_for_itself}
use Rattle.nq_literal.proofs.truths.truth_itself.Goals as goal

pub returns-clause-new : goal.returns-clause-new
returns-clause-new c = truth_for_itself c.args.history.now c.args.work.now c.reflexive.new.work (terms_at c.args.work.now.bank c.args.others.now) c.args.yes c.in_ok-line.line c.requires.stands c.reflexive.ensures.grows c.requires.truth c.in_ok-line.ensures.line
