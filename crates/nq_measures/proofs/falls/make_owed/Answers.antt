use Rattle.nq_measures.proofs.OwedLemmas.{owed_made}
use Rattle.nq_measures.proofs.falls.make_owed.Goals as goal

pub returns-clause-owed : goal.returns-clause-owed
returns-clause-owed c =
    owed_made c.args.bank.now c.measure_at.new.bank c.fall_literals.new.bank c.args.formals.now c.args.measure c.args.site.now c.in_ok-smaller.smaller c.in_ok-literals.literals c.as_slice.result.now
    c.measure_at.ensures.grows c.measure_at.ensures.names c.fall_literals.ensures.grows c.fall_literals.ensures.names c.requires.measure c.requires.site c.as_slice.ensures.value c.in_ok-smaller.ensures.ok c.in_ok-literals.ensures.ok c.in_ok-literals.ensures.stand
