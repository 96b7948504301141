use Rattle.std.proofs.Common.{ap}
use Rattle.std.specs.Prelude.{is_some}
use Rattle.nq_bank.specs.Content.{term_at, terms_at}
use Rattle.nq_reduce.proofs.ValueLemmas.{value_given, value_line}
use Rattle.nq_reduce.proofs.values.value_shown.Goals as goal

pub find_or_add-requires-clause-allowed : goal.find_or_add-requires-clause-allowed
find_or_add-requires-clause-allowed c = ap is_some (value_given c.args.history.now c.args.work.now c.args.t (term_at c.args.work.now.bank c.args.v) c.requires.value.value)

pub returns-clause-ok : goal.returns-clause-ok
returns-clause-ok c = value_line c.args.history.now c.args.work.now c.find_or_add.new.self (terms_at c.args.work.now.bank c.args.assumed.now) c.args.t c.args.v c.in_ok-line.line c.requires.can.stands c.find_or_add.ensures.grows c.requires.value c.in_ok-line.ensures.line
