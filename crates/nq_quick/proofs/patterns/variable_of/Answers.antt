use Rattle.std.proofs.Common.{ap}
use Rattle.nq_logic.specs.Terms.{Variable}
use Rattle.nq_bank.specs.Content.{text_at}
use Rattle.nq_rule.proofs.Made.{given_id}
use Rattle.nq_steps.proofs.NameLemmas.{only_terms}
use Rattle.nq_quick.proofs.GrownLemmas.{gives_grow, bank_uncounted}
use Rattle.nq_quick.proofs.patterns.variable_of.Goals as goal

pub returns-clause-term : goal.returns-clause-term
returns-clause-term c = given_id c.args.work.now.bank c.var.new.self c.var.result (Variable (text_at c.args.work.now.bank c.args.s)) (Variable c.args.text.now) (ap Variable c.requires.name.reads) c.var.ensures.ok

pub returns-clause-grows : goal.returns-clause-grows
returns-clause-grows c = bank_uncounted c.args.history.now c.args.work.now c.var.new.self c.requires.stands (gives_grow c.args.work.now.bank c.var.new.self c.var.result (Variable (text_at c.args.work.now.bank c.args.s)) c.var.ensures.ok c.var.ensures.err) (only_terms c.args.work.now.bank c.var.new.self c.var.result (Variable (text_at c.args.work.now.bank c.args.s)) c.var.ensures.ok c.var.ensures.err)
