use Rattle.nq_bank.specs.Content.{terms_at}
use Rattle.nq_reduce.proofs.HeldLemmas.{held_line, held_consequence}
use Rattle.nq_reduce.proofs.held.conclusion_for.Goals as goal

pub consequence-requires-clause-fact : goal.consequence-requires-clause-fact
consequence-requires-clause-fact c = held_line c.args.history.now c.args.work.now (terms_at c.args.work.now.bank c.args.assumed.now) c.args.fact c.requires.fact

pub consequence-requires-clause-known : goal.consequence-requires-clause-known
consequence-requires-clause-known c = held_line c.args.history.now c.args.work.now (terms_at c.args.work.now.bank c.args.assumed.now) c.args.known c.requires.known

pub returns-clause-held : goal.returns-clause-held
returns-clause-held c = held_consequence c.args.history.now c.args.work.now c.consequence.new.work (terms_at c.args.work.now.bank c.args.assumed.now) c.args.fact c.args.known c.consequence.result c.requires.fact c.requires.known c.consequence.ensures.fact
