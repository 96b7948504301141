use Rattle.std.proofs.Common.{◌∙◌, refl, ap}
use Rattle.nq_bank.specs.Content.{term_at}
use Rattle.nq_kernel.proofs.GrowingLemmas.{WorkGrows-trans}
use Rattle.nq_instances.proofs.PartLemmas.{if_grown, line_there, derived_before}
use Rattle.nq_instances.proofs.parts.tested_if.Goals as goal

pub test_of-requires-clause-fact : goal.test_of-requires-clause-fact
test_of-requires-clause-fact c = line_there c.args.history.now c.args.work.now c.falsity.new.work c.falsity.ensures.grows c.args.fact c.requires.stands c.requires.fact

pub test_of-requires-clause-parts : goal.test_of-requires-clause-parts
test_of-requires-clause-parts c = if_grown c.args.history.now c.args.work.now c.falsity.new.work c.falsity.ensures.grows c.args.fact.term c.args.parts c.requires.stands c.requires.fact.term c.requires.parts

pub test_of-requires-clause-otherwise : goal.test_of-requires-clause-otherwise
test_of-requires-clause-otherwise c = ap (term_at c.falsity.new.work.bank) (c.if-is_same.ensures refl) ∙ c.in_ok-f.ensures.term.denotes

pub returns-then-is_same-clause-fact : goal.returns-then-is_same-clause-fact
returns-then-is_same-clause-fact c = derived_before c.args.history.now c.args.work.now c.falsity.new.work c.test_of.new.work c.args.fact c.test_of.result c.falsity.ensures.grows c.requires.stands c.requires.fact c.test_of.ensures.fact

pub returns-then-is_same-clause-grows : goal.returns-then-is_same-clause-grows
returns-then-is_same-clause-grows c = (WorkGrows-trans c.args.history.now c.args.work.now c.falsity.new.work c.test_of.new.work c.falsity.ensures.grows c.test_of.ensures.grows)
