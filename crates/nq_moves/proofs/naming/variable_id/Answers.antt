use Rattle.nq_logic.specs.Terms.{Variable}
use Rattle.nq_bank.specs.Content.{text_at}
use Rattle.nq_steps.proofs.NameLemmas.{only_terms}
use Rattle.nq_kernel.proofs.GrowingLemmas.{bank_grows, uncounted}
use Rattle.nq_lines.proofs.MatchLemmas.{gives_grow}
use Rattle.nq_moves.proofs.naming.variable_id.Goals as goal

pub returns-in-Ok-clause-term : goal.returns-in-Ok-clause-term
returns-in-Ok-clause-term c = c.in-Ok.ensures.ok.id

pub returns-in-Ok-clause-grows : goal.returns-in-Ok-clause-grows
returns-in-Ok-clause-grows c =
    let w = c.args.work.now in
    bank_grows c.args.history.now w c.var.new.self w.counter c.requires.stands (gives_grow w.bank c.var.new.self c.var.result (Variable (text_at w.bank c.args.name)) c.var.ensures.ok c.var.ensures.err) (only_terms w.bank c.var.new.self c.var.result (Variable (text_at w.bank c.args.name)) c.var.ensures.ok c.var.ensures.err) (uncounted w.counter)

pub returns-in-Err-clause-grows : goal.returns-in-Err-clause-grows
returns-in-Err-clause-grows c =
    let w = c.args.work.now in
    bank_grows c.args.history.now w c.var.new.self w.counter c.requires.stands (gives_grow w.bank c.var.new.self c.var.result (Variable (text_at w.bank c.args.name)) c.var.ensures.ok c.var.ensures.err) (only_terms w.bank c.var.new.self c.var.result (Variable (text_at w.bank c.args.name)) c.var.ensures.ok c.var.ensures.err) (uncounted w.counter)
