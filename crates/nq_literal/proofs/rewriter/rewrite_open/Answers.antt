use Rattle.std.proofs.Common.{[], ◌++◌}
use Rattle.nq_bank.specs.Content.{term_at, terms_at}
use Rattle.nq_literal.specs.Literals.{IsFoundIn}
use Rattle.nq_literal.proofs.LiteralLemmas.{literals_found, none_assumed}
use Rattle.nq_literal.proofs.rewriter.rewrite_open.Goals as goal

pub rewrite_from-requires-clause-can : goal.rewrite_from-requires-clause-can
rewrite_from-requires-clause-can c = record { stands = c.requires.stands; term = c.requires.literal; hypotheses = none_assumed c.args.history.now c.args.work.now; ready = c.requires.ready }

pub returns-clause-new : goal.returns-clause-new
returns-clause-new c = literals_found c.args.history.now c.rewrite_from.new.work (terms_at c.args.work.now.bank c.args.others.now) (term_at c.args.work.now.bank c.args.literal) c.in_ok-new.new c.changed.result c.in_ok-new.ensures.ok c.changed.ensures
