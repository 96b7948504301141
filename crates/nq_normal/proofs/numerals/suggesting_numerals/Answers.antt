use Rattle.nq_history.specs.Events.{events_at}
use Rattle.nq_normal.proofs.NumeralLemmas.{numerals_told}
use Rattle.nq_normal.proofs.numerals.suggesting_numerals.Goals as goal

pub returns : goal.returns
returns c =
    numerals_told (events_at c.args.bank.now c.args.history.now) c.zero_suggests-zero.result c.in_ok-successor.successor c.is_either-others.result c.zero_suggests-zero.ensures c.in_ok-successor.ensures c.is_either-others.ensures
