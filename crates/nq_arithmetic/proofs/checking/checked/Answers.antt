use Rattle.std.proofs.Common.{ap}
use Rattle.nq_bank.specs.Content.{terms_at}
use Rattle.std.specs.Option.{option_map}
use Rattle.nq_arithmetic.proofs.Lemmas.{each_among}
use Rattle.nq_arithmetic.proofs.checking.checked.Goals as goal

pub returns-then-are_of : goal.returns-then-are_of
returns-then-are_of c = record { literals = terms_at c.args.work.now.bank c.clause_over-clause.result.now; stands = ap (option_map (terms_at c.args.work.now.bank)) c.clause_over-clause.ensures.clause; only = each_among c.args.work.now.bank c.args.goal.now c.clause_over-clause.result.now (c.are_of.ensures c.if-are_of.true) }
