use Rattle.nq_bank.specs.Content.{terms_at}
use Rattle.nq_reduce.proofs.HeldLemmas.{held_line, held_derived}
use Rattle.nq_rewrite.proofs.parts.part_of.Goals as goal

pub first_part-requires-clause-fact : goal.first_part-requires-clause-fact
first_part-requires-clause-fact c = held_line c.args.history.now c.args.work.now (terms_at c.args.work.now.bank c.args.assumed.now) c.args.fact c.requires.fact

pub second_part-requires-clause-fact : goal.second_part-requires-clause-fact
second_part-requires-clause-fact c = held_line c.args.history.now c.args.work.now (terms_at c.args.work.now.bank c.args.assumed.now) c.args.fact c.requires.fact

pub returns-then-leads_to-clause-held : goal.returns-then-leads_to-clause-held
returns-then-leads_to-clause-held c = held_derived c.args.history.now c.args.work.now c.first_part.new.work (terms_at c.args.work.now.bank c.args.assumed.now) c.args.fact c.first_part.result c.requires.fact c.first_part.ensures.fact

pub returns-else-leads_to-clause-held : goal.returns-else-leads_to-clause-held
returns-else-leads_to-clause-held c = held_derived c.args.history.now c.args.work.now c.second_part.new.work (terms_at c.args.work.now.bank c.args.assumed.now) c.args.fact c.second_part.result c.requires.fact c.second_part.ensures.fact
