use Rattle.nq_bank.specs.Content.{term_at}
use Rattle.nq_run.proofs.ProvingLemmas.{found_is}
use Rattle.nq_run.proofs.proving.tried_by.Goals as goal

pub returns-clause-found : goal.returns-clause-found
returns-clause-found c =
    found_is c.args.work c.args.history.now (term_at c.args.work.bank c.args.lemma.goal) c.args.found c.requires.holds c.requires.spelled.claimable.over.over c.requires.shown
