use Rattle.nq_measures.proofs.LeftLemmas.{id_later}
use Rattle.nq_measures.proofs.finding.leave_ordinal.Goals as goal

pub returns-clause-left : goal.returns-clause-left
returns-clause-left c =
    record {
      measure = id_later c.args.work.now.bank c.ordinal_literals.new.work.bank c.args.measure c.ordinal_literals.ensures.grows.grows.bank c.requires.measure;
      literals = c.in_ok-literals.ensures.literals;
      stand = c.in_ok-literals.ensures.stand;
    }
