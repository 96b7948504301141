use Rattle.nq_bank.specs.Content.{term_at}
use Rattle.nq_kernel.proofs.GrowingLemmas.{bank_grows, uncounted}
use Rattle.nq_steps.proofs.NameLemmas.{no_names}
use Rattle.nq_reduce.proofs.ValueLemmas.{value_found}
use Rattle.nq_reduce.proofs.values.value_in.Goals as goal

pub returns-in-Ok-clause-value : goal.returns-in-Ok-clause-value
returns-in-Ok-clause-value c = value_found c.args.history.now (record c.args.work.now { bank = c.value_of.new.bank }) (term_at c.args.work.now.bank c.args.t) c.in-Ok.found c.in-Ok.ensures.value c.in-Ok.ensures.stands

pub returns-in-Ok-clause-grows : goal.returns-in-Ok-clause-grows
returns-in-Ok-clause-grows c = bank_grows c.args.history.now c.args.work.now c.value_of.new.bank c.args.work.now.counter c.requires.stands c.value_of.ensures.grows (no_names c.args.work.now.bank c.value_of.new.bank c.value_of.ensures.names) (uncounted c.args.work.now.counter)

pub returns-in-Err-clause-grows : goal.returns-in-Err-clause-grows
returns-in-Err-clause-grows c = bank_grows c.args.history.now c.args.work.now c.value_of.new.bank c.args.work.now.counter c.requires.stands c.value_of.ensures.grows (no_names c.args.work.now.bank c.value_of.new.bank c.value_of.ensures.names) (uncounted c.args.work.now.counter)
